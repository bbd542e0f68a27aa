-- What a tree may lack where nothing of it is asked.
use Rattle.std.specs.Prelude.{◌≡◌, ℕ, false, List, [], ◌++◌}
use Rattle.std.specs.List.{AllByRecursion as Each}
use Rattle.pk_fields.specs.FieldSets.{is_in}
use Rattle.pk_tree.specs.declared.layer.Layer.{Layer}
use Rattle.pk_tree.specs.Trees.{TreeShown}

-- a layer that has nothing to show of the wanted fields
abbrev pub IsAside : List ℕ → Layer → Type 0
IsAside wanted layer = (is_in wanted layer.proto ≡ false) × (layer.items ≡ [])

-- what a tree lacks of the whole tree are layers behind its own that have nothing to show, and buffers
pub record LacksOnly (whole t : TreeShown) : Type 0 where
  pub layers : List Layer
  pub whole_layers : whole.layers ≡ t.layers ++ layers
  pub aside : Each (IsAside whole.wanted) layers
  pub buffers : List (List ℕ)
  pub whole_buffers : whole.buffers ≡ t.buffers ++ buffers
