-- Values of a field in a text, without a column of their own.
use Rattle.std.specs.Prelude.{◌≡◌, ℕ, Bool, List, [], ◌∷◌, ◌++◌, drop, Option, is_some, slice_get, unwrap_or}
use Rattle.std.specs.List.{flat_map, join_by}
use Rattle.std.specs.Option.{option_map}
use Rattle.pk_base.specs.declared.value.Value.{Value}
use Rattle.pk_base.specs.declared.chosen.Layers.TheVariants.{All as AllLayers}
use Rattle.pk_source.specs.Firsts.{first_value}
use Rattle.pk_source.specs.declared.first.First.{First}
use Rattle.pk_tree.specs.FieldValues.{values_of}
use Rattle.pk_tree.specs.Trees.{TreeShown}
use Rattle.out_lines.specs.ValueText.{shown_value}

abbrev pub all_values : TreeShown → ℕ → List Value
all_values t field = values_of t field AllLayers

-- joined by the aggregator
abbrev pub joined : ℕ → ℕ → List Value → List ℕ
joined aggregator field values = join_by (shown_value field) (aggregator ∷ []) values

-- the values from a number on, each behind the aggregator
abbrev pub behind : ℕ → ℕ → Value → List ℕ
behind aggregator field value = aggregator ∷ shown_value field value

abbrev pub further : ℕ → ℕ → List Value → ℕ → List ℕ
further aggregator field values k = flat_map (behind aggregator field) (drop k values)

-- the value of a number, if there is one
abbrev pub shown_at : ℕ → List Value → ℕ → List ℕ
shown_at field values k = unwrap_or (option_map (shown_value field) (slice_get values k)) []

-- the first value by what holds it, if there is one
abbrev pub shown_first : ℕ → First → List ℕ
shown_first field first = unwrap_or (option_map (shown_value field) (first_value field first)) []

-- a line got a text, if there is one
pub record IsTextPut (text : Option (List ℕ)) (there : Bool) (old new : List ℕ) : Type 0 where
  pub told : there ≡ is_some text
  pub line : new ≡ old ++ unwrap_or text []
