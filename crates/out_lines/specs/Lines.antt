-- The line of a frame's fields, and the line of their names.
use Rattle.std.specs.Prelude.{ℕ, ◌==◌, ◌-◌, false, List, [], ◌∷◌, ◌++◌, length, take, drop, if◌then◌else◌}
use Rattle.std.specs.List.{flat_map, join_by}
use Rattle.pk_fields.specs.Fields.{row_of}
use Rattle.pk_base.specs.declared.value.Value.{Value}
use Rattle.pk_base.specs.declared.chosen.Layers.TheVariants.{All as AllLayers}
use Rattle.pk_tree.specs.FieldValues.{values_of}
use Rattle.pk_tree.specs.Trees.{TreeShown}
use Rattle.out_lines.specs.declared.style.Occurrence.{Occurrence}
use Rattle.out_lines.specs.declared.style.Occurrence.TheVariants as occurrences
use Rattle.out_lines.specs.declared.style.Quote.{Quote}
use Rattle.out_lines.specs.declared.style.Quote.TheVariants as quotes
use Rattle.out_lines.specs.declared.style.Style.{Style}
use Rattle.out_lines.specs.ValueText.{shown_value}

-- the values that a column shows
abbrev pub chosen : Occurrence → List Value → List Value
chosen occurrences.First values = take 1 values
chosen occurrences.Last values = drop (length values - 1) values
chosen occurrences.All values = values

-- a text in quotes; a quote inside is doubled
abbrev pub doubled : ℕ → ℕ → List ℕ
doubled quote byte = if byte == quote then quote ∷ quote ∷ [] else byte ∷ []

abbrev pub quoted : ℕ → List ℕ → List ℕ
quoted quote text = quote ∷ (flat_map (doubled quote) text ++ quote ∷ [])

-- 34 is the double quote, 39 the single one
abbrev pub in_quotes : Quote → List ℕ → List ℕ
in_quotes quotes.Double text = quoted 34 text
in_quotes quotes.Single text = quoted 39 text
in_quotes quotes.None text = text

-- a column of these values of a field, joined by the aggregator; without values nothing stands in it
abbrev pub column_of : Style → ℕ → List Value → List ℕ
column_of style field [] = []
column_of style field (value ∷ values) =
    in_quotes style.quote (join_by (shown_value field) (style.aggregator ∷ []) (value ∷ values))

-- a field's column
unfoldable pub column_text : TreeShown → Style → ℕ → List ℕ
column_text t style field =
    column_of style field (chosen style.occurrence (values_of t field AllLayers))

-- a line: the fields' columns, joined by the separator, and a line feed, 10
unfoldable pub field_line_of : List ℕ → TreeShown → Style → List ℕ
field_line_of fields t style =
    join_by (column_text t style) (style.separator ∷ []) fields ++ 10 ∷ []

-- the line of the fields' names
unfoldable pub header_of : List ℕ → Style → List ℕ
header_of fields style =
    join_by (λ field. (row_of field).name) (style.separator ∷ []) fields ++ 10 ∷ []

-- the style where none is asked for: a tab, 9, between columns, a comma, 44, between values
abbrev pub default_style : Style
default_style =
    record {
      header = false;
      separator = 9;
      occurrence = occurrences.All;
      aggregator = 44;
      quote = quotes.None;
    }
