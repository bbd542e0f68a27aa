-- What holds of every filter.
use Rattle.std.specs.Prelude.{◌≡◌, ℕ, List}
use Rattle.flt_mean.specs.Meaning.{meaning}
use Rattle.flt_typed.specs.Asked.{HasFilter}
use Rattle.flt_typed.specs.declared.typed.Typed.{Typed}
use Rattle.pk_tree.specs.Trees.{TreeShown, kept_tree}

-- a tree that keeps the items of some fields alone is as the whole tree to a filter that asks for no others
abbrev pub KeptMeaning : Type 0
KeptMeaning = (wanted : List ℕ) (filter : Typed) (tree : TreeShown) → HasFilter wanted filter
    → meaning filter (kept_tree wanted tree) ≡ meaning filter tree
