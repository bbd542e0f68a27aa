-- How a column grows, value by value.
use Rattle.std.specs.Prelude.{ℕ, Bool, true, false, not, List, [], ◌∷◌, ◌++◌, if◌then◌else◌, Option, Some, None}
use Rattle.std.specs.List.{fold, slice_index_or}
use Rattle.pk_base.specs.declared.value.Value.{Value}
use Rattle.out_lines.specs.declared.style.Occurrence.{Occurrence}
use Rattle.out_lines.specs.declared.style.Occurrence.TheVariants.{First, Last, All}
use Rattle.out_lines.specs.declared.style.Style.{Style}
use Rattle.out_lines.specs.declared.style.Quote.{Quote}
use Rattle.out_lines.specs.Lines.{in_quotes}
use Rattle.out_lines.specs.ValueText.{shown_value}

-- the text so far, and whether it has a value
pub record ColumnShown : Type 0 where
  pub text : List ℕ
  pub filled : Bool

-- one without a value
abbrev pub no_column : ColumnShown
no_column = record { text = []; filled = false }

-- the one at a place, of those that a line has
abbrev pub column_at : List ColumnShown → Option ℕ → ColumnShown
column_at columns None = no_column
column_at columns (Some place) = slice_index_or columns place no_column

-- whether one more value is shown
abbrev pub is_wanted : Occurrence → Bool → Bool
is_wanted First filled = not filled
is_wanted Last filled = true
is_wanted All filled = true

-- what stands before it
abbrev pub front_of : Occurrence → ℕ → ColumnShown → List ℕ
front_of First aggregator column = column.text
front_of Last aggregator column = []
front_of All aggregator column =
    if column.filled then column.text ++ aggregator ∷ [] else column.text

abbrev pub with_text : Occurrence → ℕ → ColumnShown → List ℕ → ColumnShown
with_text occurrence aggregator column text =
    if is_wanted occurrence column.filled
    then record { text = front_of occurrence aggregator column ++ text; filled = true }
    else column

-- with one more value of a field
unfoldable pub with_value : Occurrence → ℕ → ℕ → ColumnShown → Value → ColumnShown
with_value occurrence aggregator field column value =
    with_text occurrence aggregator column (shown_value field value)

-- with these values
abbrev pub with_values : Style → ℕ → ColumnShown → List Value → ColumnShown
with_values style field column values =
    fold (with_value style.occurrence style.aggregator field) column values

-- what a line gets of it: nothing where there was no value
abbrev pub written : Quote → ColumnShown → List ℕ
written quote column = if column.filled then in_quotes quote column.text else []
