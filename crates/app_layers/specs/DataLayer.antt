-- Bytes that no protocol reads.
use Rattle.std.specs.Prelude.{◌==◌, ℕ, false, List, [], ◌∷◌, if◌then◌else◌}
use Rattle.pk_base.specs.declared.span.Span.{Span}
use Rattle.pk_fields.specs.Ids.{DATA, DATA_DATA, DATA_LEN}
use Rattle.pk_base.specs.declared.heads.Mode.TheVariants.{Plain}
use Rattle.pk_tree.specs.declared.layout.Step.{Step}
use Rattle.pk_tree.specs.declared.layout.Step.TheVariants.{Whole, Made}
use Rattle.pk_base.specs.declared.value.Value.TheVariants.{Uint}
use Rattle.pk_tree.specs.Layouts.{layer_read}
use Rattle.pk_tree.specs.Trees.{TreeShown}

-- all the bytes, and how many they are
abbrev pub data_layout : ℕ → List Step
data_layout len = Whole DATA_DATA 0 len ∷ Made DATA_LEN (Uint len) ∷ []

-- the tree with a layer of these bytes; there is none for no bytes
unfoldable pub data_over : TreeShown → Span → TreeShown
data_over t span = if span.len == 0 then t else layer_read t DATA span (data_layout span.len) Plain false
