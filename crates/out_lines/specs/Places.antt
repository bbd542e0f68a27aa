-- Where the columns of fields stand, and what a walk over a tree adds to each.
use Rattle.std.specs.Prelude.{◌≡◌, ◌==◌, ◌<◌, ℕ, List, [], ◌∷◌, length, if◌then◌else◌, Option, Some, None, IsSome}
use Rattle.std.specs.List.{All, slice_index_or}
use Rattle.pk_fields.specs.Fields.{row_of}
use Rattle.pk_tree.specs.declared.item.Item.{Item}
use Rattle.pk_base.specs.declared.value.Value.{Value}
use Rattle.pk_base.specs.declared.value.Value.TheVariants.{Proto}
use Rattle.pk_tree.specs.FieldValues.{item_values}
use Rattle.pk_tree.specs.Trees.{TreeShown}
use Rattle.pk_tree.specs.Values.{is_proto}
use Rattle.out_lines.specs.declared.style.Style.{Style}
use Rattle.out_lines.specs.Columns.{ColumnShown, column_at, with_values, written}
use Rattle.out_lines.specs.Lines.{column_text}

-- the place of a field's column, by the field's number
abbrev pub place_in : List (Option ℕ) → ℕ → Option ℕ
place_in places f = slice_index_or places f None

-- places are among so many columns, and no two fields have the same
pub record ArePlaces (count : ℕ) (places : List (Option ℕ)) : Type 0 where
  pub within : (f place : ℕ) → place_in places f ≡ Some place → place < count
  pub apart : (f g place : ℕ) → place_in places f ≡ Some place → place_in places g ≡ Some place
      → f ≡ g

-- these fields have places among so many columns
pub record ArePlanned (fields : List ℕ) (count : ℕ) (places : List (Option ℕ)) : Type 0 where
  pub places_fit : ArePlaces count places
  pub all : All (λ f. IsSome (place_in places f)) fields

-- the column of a field
abbrev pub column_in : List ColumnShown → List (Option ℕ) → ℕ → ColumnShown
column_in columns places f = column_at columns (place_in places f)

-- each column got the values of its field
pub record HasAdded (style : Style) (places : List (Option ℕ)) (old new : List ColumnShown)
    (values : ℕ → List Value) : Type 0 where
  pub count : length new ≡ length old
  pub added : (f : ℕ) → IsSome (place_in places f)
      → column_in new places f ≡ with_values style f (column_in old places f) (values f)

-- the columns of all fields are those of a tree
pub record AreWritten (style : Style) (columns : List ColumnShown) (places : List (Option ℕ))
    (t : TreeShown) : Type 0 where
  pub each : (f : ℕ) → IsSome (place_in places f)
      → written style.quote (column_in columns places f) ≡ column_text t style f

-- what a field that is a protocol has of a layer of some protocol
abbrev pub name_values : ℕ → List ℕ → ℕ → List Value
name_values protocol bytes f =
    if is_proto (row_of f).kind then (if protocol == f then Proto bytes ∷ [] else []) else []

-- what a field that is none has of items
abbrev pub own_values : ℕ → List Item → List Value
own_values f items = if is_proto (row_of f).kind then [] else item_values f items
