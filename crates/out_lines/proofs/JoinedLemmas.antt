-- Values that are appended one by one are the chosen values, joined.
use Rattle.std.proofs.Common.{◌≡◌, ◌<◌, ◌≤◌, ◌+◌, ◌-◌, ℕ, zero, suc, true, false, List, [], ◌∷◌, ◌++◌, length, drop, slice_get, Option, Some, None, refl, sym, ap, ◌∙◌, append-nil, arith}
use Rattle.std.specs.List.{flat_map, join_by}
use Rattle.std.specs.Option.{is_some, option_map, unwrap_or}
use Rattle.std.proofs.lemmas.List.{drop_all, drop_more}
use Rattle.std.proofs.lemmas.Option.{get_or_from_slice_get, slice_get-get_or, slice_get_within}
use Rattle.pk_base.specs.declared.value.Value.{Value}
use Rattle.pk_source.specs.Firsts.{first_value}
use Rattle.pk_source.specs.Found.{is_there}
use Rattle.pk_source.specs.declared.first.First.{First as FoundFirst}
use Rattle.out_lines.specs.declared.style.Occurrence.{Occurrence}
use Rattle.out_lines.specs.declared.style.Occurrence.TheVariants.{First, Last, All}
use Rattle.out_lines.specs.declared.style.Quote.{Quote}
use Rattle.out_lines.specs.declared.style.Quote.TheVariants as quotes
use Rattle.out_lines.specs.declared.style.Style.{Style}
use Rattle.out_lines.specs.Joined.{behind, further, joined, shown_at, shown_first}
use Rattle.out_lines.specs.Lines.{chosen, column_of, in_quotes}
use Rattle.out_lines.specs.ValueText.{shown_value}

pub some_within : (values : List Value) (k : ℕ) → true ≡ is_some (slice_get values k) → k < length values
some_within [] k there = absurd (cc)
some_within (value ∷ values) zero there = omega arith
some_within (value ∷ values) (suc k) there = omega (arith, some_within values k there)

pub none_past : (values : List Value) (k : ℕ) → false ≡ is_some (slice_get values k) → length values ≤ k
none_past [] k none = omega arith
none_past (value ∷ values) zero none = absurd (cc)
none_past (value ∷ values) (suc k) none = omega (arith, none_past values k none)

same_test : (shown : Value → List ℕ) (at : Option Value) → is_some (option_map shown at) ≡ is_some at
same_test shown None = refl
same_test shown (Some value) = refl

-- so it is of the text of a value
pub text_within : (shown : Value → List ℕ) (values : List Value) (k : ℕ) → true ≡ is_some (option_map shown (slice_get values k)) → k < length values
text_within shown values k there = some_within values k (there ∙ same_test shown (slice_get values k))

-- a number behind which there is none is the last one's
pub last_is : (values : List Value) (next : ℕ) → next - 1 ≤ length values - 1 → false ≡ is_some (slice_get values next) → next - 1 ≡ length values - 1
last_is values next within none = omega (arith, none_past values next none)

-- the one of a number and those behind it
pub one_put : (aggregator field : ℕ) (values : List Value) (k : ℕ) → true ≡ is_some (option_map (behind aggregator field) (slice_get values k)) →
    further aggregator field values k ≡ unwrap_or (option_map (behind aggregator field) (slice_get values k)) [] ++ further aggregator field values (k + 1)
one_put aggregator field values k there = by_value (slice_get values k) refl there
  where
    by_value : (at : Option Value) → slice_get values k ≡ at → true ≡ is_some (option_map (behind aggregator field) at) →
        further aggregator field values k ≡ unwrap_or (option_map (behind aggregator field) at) [] ++ further aggregator field values (k + 1)
    by_value None is there = absurd (cc)
    by_value (Some value) is there =
        ap (flat_map (behind aggregator field)) (drop_more values k value (slice_get_within values k value is))
        ∙ ap (λ (v : Value). behind aggregator field v ++ further aggregator field values (k + 1)) (get_or_from_slice_get values k value value is)

none_left : (values : List Value) (k : ℕ) → false ≡ is_some (slice_get values k) → drop k values ≡ []
none_left values k none = drop_all k values (none_past values k none)

pub none_put : (aggregator field : ℕ) (values : List Value) (k : ℕ) → false ≡ is_some (option_map (behind aggregator field) (slice_get values k)) →
    unwrap_or (option_map (behind aggregator field) (slice_get values k)) [] ≡ further aggregator field values k
none_put aggregator field values k none =
    by_value (slice_get values k) none
    ∙ sym (ap (flat_map (behind aggregator field)) (none_left values k (none ∙ same_test (behind aggregator field) (slice_get values k))))
  where
    by_value : (at : Option Value) → false ≡ is_some (option_map (behind aggregator field) at) → unwrap_or (option_map (behind aggregator field) at) [] ≡ []
    by_value None is = refl
    by_value (Some value) is = absurd (cc)

-- the first, and those behind it
pub all_joined : (aggregator field : ℕ) (values : List Value) → shown_at field values 0 ++ further aggregator field values 1 ≡ joined aggregator field values
all_joined aggregator field [] = refl
all_joined aggregator field (value ∷ values) = refl

-- by what holds the first
pub first_shown : (field : ℕ) (first : FoundFirst) (values : List Value) → first_value field first ≡ slice_get values 0 → shown_first field first ≡ shown_at field values 0
first_shown field first values is = ap (λ (value : Option Value). unwrap_or (option_map (shown_value field) value) []) is

pub one_joined : (aggregator field : ℕ) (values : List Value) → false ≡ is_some (slice_get values 1) → shown_at field values 0 ≡ joined aggregator field values
one_joined aggregator field [] alone = refl
one_joined aggregator field (value ∷ []) alone = sym (append-nil (shown_value field value))
one_joined aggregator field (value ∷ (next ∷ values)) alone = absurd (cc)

pub first_joined : (aggregator field : ℕ) (values : List Value) → shown_at field values 0 ≡ joined aggregator field (chosen First values)
first_joined aggregator field [] = refl
first_joined aggregator field (value ∷ values) = sym (append-nil (shown_value field value))

pub last_joined : (aggregator field : ℕ) (values : List Value) → shown_at field values (length values - 1) ≡ joined aggregator field (chosen Last values)
last_joined aggregator field [] = refl
last_joined aggregator field (value ∷ values) =
    rw (
      drop_more (value ∷ values) (length (value ∷ values) - 1) value (omega arith),
      drop_all (length (value ∷ values) - 1 + 1) (value ∷ values) (omega arith),
      slice_get-get_or (value ∷ values) (length (value ∷ values) - 1) value (omega arith),
      append-nil,
    )
    refl

-- what a column has, in quotes where it has a value
none_chosen : (occurrence : Occurrence) → chosen occurrence [] ≡ []
none_chosen First = refl
none_chosen Last = refl
none_chosen All = refl

pub empty_column : (style : Style) (field : ℕ) (values : List Value) → false ≡ is_there values → column_of style field (chosen style.occurrence values) ≡ []
empty_column style field [] none = ap (column_of style field) (none_chosen style.occurrence)
empty_column style field (value ∷ values) none = absurd (cc)

some_chosen : (occurrence : Occurrence) (value : Value) (values : List Value) → 0 < length (chosen occurrence (value ∷ values))
some_chosen First value values = omega arith
some_chosen Last value values =
    rw (drop_more (value ∷ values) (length (value ∷ values) - 1) value (omega arith)) (omega arith)
some_chosen All value values = omega arith

some_column : (style : Style) (field : ℕ) (values : List Value) → 0 < length values → column_of style field values ≡ in_quotes style.quote (joined style.aggregator field values)
some_column style field [] some = absurd (omega arith)
some_column style field (value ∷ values) some = refl

pub full_column : (style : Style) (field : ℕ) (values : List Value) → true ≡ is_there values →
    column_of style field (chosen style.occurrence values) ≡ in_quotes style.quote (joined style.aggregator field (chosen style.occurrence values))
full_column style field [] there = absurd (cc)
full_column style field (value ∷ values) there = some_column style field (chosen style.occurrence (value ∷ values)) (some_chosen style.occurrence value values)

pub plain_column : (style : Style) (field : ℕ) (values : List Value) → style.quote ≡ quotes.None → column_of style field values ≡ joined style.aggregator field values
plain_column style field [] plain = refl
plain_column style field (value ∷ values) plain = ap (λ (quote : Quote). in_quotes quote (joined style.aggregator field (value ∷ values))) plain

-- a plain column of one value
pub plain_one : (style : Style) (field : ℕ) (values : List Value) (value : Value) → style.quote ≡ quotes.None → style.occurrence ≡ All → values ≡ value ∷ [] →
    shown_value field value ≡ column_of style field (chosen style.occurrence values)
plain_one style field values value plain all one =
    let joins : in_quotes style.quote (join_by (shown_value field) (style.aggregator ∷ []) (value ∷ [])) ≡ shown_value field value =
    ap (λ (quote : Quote). in_quotes quote (shown_value field value ++ [])) plain ∙ append-nil (shown_value field value) in
    sym (ap (λ (vs : List Value). column_of style field (chosen style.occurrence vs)) one ∙ ap (λ (occurrence : Occurrence). column_of style field (chosen occurrence (value ∷ []))) all ∙ joins)
