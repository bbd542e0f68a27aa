-- Each name stands once in the table, so a row's name leads back to the row.
use Rattle.std.proofs.Common.{◌≡◌, ℕ, zero, suc, ◌<◌, Bool, true, false, ◌&&◌, not, List, [], ◌∷◌, Option, Some, None, map, length, get_or, refl, sym, ◌∙◌, ap, cond, ◌+◌, ◌≢◌, arith}
use Rattle.std.specs.List.{list_all, position, position_or_len, prefix_len}
use Rattle.std.specs.Option.{IfSome, IfNone}
use Rattle.std.specs.Str.{bytes_eq}
use Rattle.std.proofs.lemmas.Bool.{and_parts, lt-ltb}
use Rattle.std.proofs.lemmas.List.{length-map}
use Rattle.std.proofs.lemmas.List.Sums.{position_or_len_is}
use Rattle.std.proofs.lemmas.List.Quantifiers.{position-Some}
use Rattle.std.proofs.lemmas.Slice.Eq.{bytes_eq-Decides}
use Rattle.pk_fields.specs.declared.value_kind.ValueKind.TheVariants.{Proto}
use Rattle.pk_fields.specs.Rows.{FieldRow, whole}
use Rattle.pk_fields.specs.Fields.{IsField, row_of, field_named}
use Rattle.pk_fields.specs.Ids.{field_count}
use Rattle.pk_fields.specs.Table.{rows}
use Rattle.pk_fields.proofs.Passes.{passes_inside}

has_name : List ℕ → FieldRow → Bool
has_name name row = bytes_eq row.name name

names_differ : List FieldRow → Bool
names_differ [] = true
names_differ (row ∷ rest) = list_all (λ (other : FieldRow). not (bytes_eq row.name other.name)) rest && names_differ rest

all_differ : names_differ rows ≡ true
unfolding rows names_differ
all_differ = refl

pub rows_len : length rows ≡ field_count
unfolding rows
rows_len = refl

opposite : (b : Bool) → not b ≡ true → b ≡ false
opposite true h = absurd (cc)
opposite false h = refl

-- no name stands at an earlier place too
differ_at : (table : List FieldRow) (k i : ℕ) (d : FieldRow) → names_differ table ≡ true → k < i → i < length table → bytes_eq (get_or table k d).name (get_or table i d).name ≡ false
unfolding names_differ
differ_at [] k i d differ before inside = absurd (omega arith)
differ_at (row ∷ rest) k zero d differ before inside = absurd (omega arith)
differ_at (row ∷ rest) zero (suc i) d differ before inside =
    let parts = and_parts (list_all (λ (other : FieldRow). not (bytes_eq row.name other.name)) rest) (names_differ rest) differ in
    opposite _ (passes_inside (λ (other : FieldRow). not (bytes_eq row.name other.name)) rest i d parts.0 (omega arith))
differ_at (row ∷ rest) (suc k) (suc i) d differ before inside =
    let parts = and_parts (list_all (λ (other : FieldRow). not (bytes_eq row.name other.name)) rest) (names_differ rest) differ in
    differ_at rest k i d parts.1 (omega arith) (omega arith)

-- the place of a row's name is the row's
pub name_place : (f : ℕ) → IsField f → field_named (row_of f).name ≡ Some f
unfolding row_of field_named
name_place f field =
    let inside : f < length rows = rw rows_len field in
    let name = (get_or rows f (whole [] Proto 0)).name in
    let first : position_or_len (λ (row : FieldRow). bytes_eq row.name name) rows ≡ f =
    position_or_len_is (λ (row : FieldRow). bytes_eq row.name name) rows f (whole [] Proto 0) (omega arith)
    (λ k before. differ_at rows k f (whole [] Proto 0) all_differ before inside)
    (λ _. (bytes_eq-Decides name name).1 refl) in
    rw (first, lt-ltb f (length rows) inside) refl

-- a name that leads to a number is that number's row's
pub place_name : (name : List ℕ) (f : ℕ) → field_named name ≡ Some f → IsField f × (row_of f).name ≡ name
unfolding row_of field_named
place_name name f named =
    let found = position-Some (λ (row : FieldRow). bytes_eq row.name name) rows f (whole [] Proto 0) named in
    (rw (← rows_len) found.0, (bytes_eq-Decides (get_or rows f (whole [] Proto 0)).name name).0 found.1)

-- what the look-up of a name answers
pub found_by : (name : List ℕ) (f : ℕ) → IsField f → (row_of f).name ≡ name → field_named name ≡ Some f
found_by name f field same = rw same at (name_place f field)

named_as : (name : List ℕ) (found : Option ℕ) → field_named name ≡ found → IfSome found (λ f. IsField f × (row_of f).name ≡ name)
named_as name None same = tt
named_as name (Some f) same = place_name name f same

pub named_by : (name : List ℕ) → IfSome (field_named name) (λ f. IsField f × (row_of f).name ≡ name)
named_by name = named_as name (field_named name) refl

none_as : (name : List ℕ) (found : Option ℕ) → field_named name ≡ found → IfNone found ((f : ℕ) → IsField f → (row_of f).name ≢ name)
none_as name None same = λ f field row. let both : None ≡ Some f = sym same ∙ found_by name f field row in cc
none_as name (Some f) same = tt

pub none_by : (name : List ℕ) → IfNone (field_named name) ((f : ℕ) → IsField f → (row_of f).name ≢ name)
none_by name = none_as name (field_named name) refl

prefix_len-map : {X Y : Type 0} (test : Y → Bool) (f : X → Y) (xs : List X) → prefix_len test (map f xs) ≡ prefix_len (λ x. test (f x)) xs
prefix_len-map test f [] = refl
prefix_len-map test f (x ∷ xs) = ap (λ n. cond (test (f x)) (1 + n) 0) (prefix_len-map test f xs)

pub position-map : {X Y : Type 0} (test : Y → Bool) (f : X → Y) (xs : List X) → position test (map f xs) ≡ position (λ x. test (f x)) xs
position-map test f xs =
    let same : position_or_len test (map f xs) ≡ position_or_len (λ x. test (f x)) xs = prefix_len-map (λ y. not (test y)) f xs in
    rw (same, length-map xs f) refl
