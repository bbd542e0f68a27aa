-- The protocols that layers are of.
use Rattle.std.specs.Prelude.{◌≡◌, ℕ, true, List}
use Rattle.std.specs.List.{AllByRecursion as Each}
use Rattle.pk_fields.specs.Fields.{IsField, row_of}
use Rattle.pk_fields.specs.declared.rules.PortRule.{PortRule}
use Rattle.pk_tree.specs.Values.{is_proto}
use Rattle.pk_tree.specs.declared.layer.Layer.{Layer}
use Rattle.capture_read.specs.declared.frame.Frame.{Frame}
use Rattle.dissect.specs.Trees.{tree_at}

-- a row of the table that is a protocol
unfoldable pub IsOne : ℕ → Type 0
IsOne proto = IsField proto × is_proto (row_of proto).kind ≡ true

-- layers of them alone
abbrev pub AreOnes : List Layer → Type 0
AreOnes layers = Each (λ layer. IsOne layer.proto) layers

-- each layer of a frame's tree is of one of them
abbrev pub LayersAreOnes : Type 0
LayersAreOnes = (rules : List PortRule) (past : List Frame) (frame : Frame) → AreOnes (tree_at rules past frame).layers
