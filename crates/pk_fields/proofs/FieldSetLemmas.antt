-- Sets of fields: what adding a field leaves, and that each field's protocol stays with it.
use Rattle.std.proofs.Common.{◌≡◌, ◌≢◌, ◌==◌, ℕ, zero, suc, ◌*◌, ◌/◌, ◌%◌, ◌^◌, ◌<◌, ◌≤◌, Bool, true, false, ◌||◌, List, [], length, get_or, set, replicate, bit_or, w64, refl, sym, ◌∙◌, ap, arith, eq-eqb}
use Rattle.std.specs.Int.{bit_at}
use Rattle.std.proofs.Math.ListN.{get_or-eq_default}
use Rattle.std.proofs.Math.Dec.{leb}
use Rattle.std.proofs.lemmas.Bool.{eqb-true, eqb-false, leb-true, leb-false}
use Rattle.std.proofs.lemmas.List.{get_or-set_same, get_or-set_other, get_or_default, get_or-replicate}
use Rattle.std.proofs.lemmas.Nat.Bits.{bit_at_set_same, bit_at_set_other, bit_at_ones, bit_at-zero, bit_at-pow_other}
use Rattle.pk_fields.specs.declared.value_kind.ValueKind.TheVariants.{Proto}
use Rattle.pk_fields.specs.Ids.{field_count}
use Rattle.pk_fields.specs.Rows.{FieldRow, whole}
use Rattle.pk_fields.specs.Fields.{row_of}
use Rattle.pk_fields.specs.FieldSets.{is_in, HasHomes, least_fields, every_field, every_word}
use Rattle.pk_fields.specs.Table.{rows}
use Rattle.pk_fields.proofs.Passes.{passes_at}

-- a protocol's row is of the protocol itself
is_home : FieldRow → Bool
is_home row = (row_of row.proto).proto == row.proto

row_home : (f : ℕ) → is_home (row_of f) ≡ true
unfolding rows row_of is_home
row_home f = passes_at is_home rows f (whole [] Proto 0) refl refl

pub home_of : (f : ℕ) → (row_of (row_of f).proto).proto ≡ (row_of f).proto
unfolding is_home
home_of f = eqb-true (row_of (row_of f).proto).proto (row_of f).proto (row_home f)

-- one bit more
pub in_added : (words : List ℕ) (n f : ℕ) → n / 64 < length words →
    is_in (set words (n / 64) (bit_or (get_or words (n / 64) 0) (1 * 2 ^ (n % 64) % 2 ^ 64))) f ≡ (f == n || is_in words f)
unfolding is_in
in_added words n f inside = by_number (f == n) refl
  where
    word : ℕ
    word = bit_or (get_or words (n / 64) 0) (1 * 2 ^ (n % 64) % 2 ^ 64)

    here : f / 64 ≡ n / 64 → get_or (set words (n / 64) word) (f / 64) every_word ≡ word
    here same = rw same (get_or-set_same words (n / 64) word every_word inside)

    by_word : f ≢ n → (test : Bool) → (f / 64 == n / 64) ≡ test → bit_at (get_or (set words (n / 64) word) (f / 64) every_word) (f % 64) ≡ bit_at (get_or words (f / 64) every_word) (f % 64)
    by_word other true is =
        let same : f / 64 ≡ n / 64 = eqb-true (f / 64) (n / 64) is in
        let bit : f % 64 ≢ n % 64 = λ equal. other (omega arith) in
        let old : get_or words (f / 64) every_word ≡ get_or words (n / 64) 0 = rw same (get_or_default words (n / 64) every_word 0 inside) in
        rw (here same, old) (bit_at_set_other w64 (get_or words (n / 64) 0) (n % 64) (omega arith) (f % 64) bit)
    by_word other false is =
        rw (get_or-set_other words (n / 64) (f / 64) word every_word (eqb-false (f / 64) (n / 64) is)) refl

    by_number : (test : Bool) → (f == n) ≡ test → (bit_at (get_or (set words (n / 64) word) (f / 64) every_word) (f % 64) == 1) ≡ (f == n || (bit_at (get_or words (f / 64) every_word) (f % 64) == 1))
    by_number true is =
        let same : f ≡ n = eqb-true f n is in
        let bit : bit_at word (n % 64) ≡ 1 = bit_at_set_same w64 (get_or words (n / 64) 0) (n % 64) (omega arith) in
        let found : bit_at (get_or (set words (n / 64) word) (f / 64) every_word) (f % 64) ≡ 1 = rw (here (ap (λ k. k / 64) same), same) bit in
        rw (is, found) refl
    by_number false is = rw (is, by_word (eqb-false f n is) (f / 64 == n / 64) refl) refl

-- one field more, with its protocol
pub added_homes : (old new : List ℕ) (field : ℕ) → HasHomes old → ((f : ℕ) → is_in new f ≡ (f == field || (f == (row_of field).proto || is_in old f))) → HasHomes new
unfolding HasHomes
added_homes old new field homes added f has = by_field (f == field) refl
  where
    goal_of : ((row_of f).proto == (row_of field).proto || is_in old (row_of f).proto) ≡ true → is_in new (row_of f).proto ≡ true
    goal_of rest = added (row_of f).proto ∙ rw rest (or_true ((row_of f).proto == field))
      where
        or_true : (b : Bool) → (b || true) ≡ true
        or_true true = refl
        or_true false = refl

    of_home : (p : ℕ) → p ≡ (row_of field).proto → (p == (row_of field).proto || is_in old p) ≡ true
    of_home p same = rw (eq-eqb p (row_of field).proto same) refl

    by_home : (test : Bool) → (f == field) ≡ false → (f == (row_of field).proto) ≡ test → is_in new (row_of f).proto ≡ true
    by_home true other is =
        let same : f ≡ (row_of field).proto = eqb-true f (row_of field).proto is in
        goal_of (of_home (row_of f).proto (rw same (home_of field)))
    by_home false other is =
        let before : is_in old f ≡ true = rw (other, is) at (sym (added f)) ∙ has in
        goal_of (or_right ((row_of f).proto == (row_of field).proto) (is_in old (row_of f).proto) (homes f before))
      where
        or_right : (a b : Bool) → b ≡ true → (a || b) ≡ true
        or_right true b is = refl
        or_right false b is = is

    by_field : (test : Bool) → (f == field) ≡ test → is_in new (row_of f).proto ≡ true
    by_field true is = goal_of (of_home (row_of f).proto (ap (λ k. (row_of k).proto) (eqb-true f field is)))
    by_field false is = by_home (f == (row_of field).proto) is refl

-- a protocol that isn't in the set has no field in it
pub none_of : (words : List ℕ) (protocol f : ℕ) → HasHomes words → is_in words protocol ≡ false → (row_of f).proto ≡ protocol → is_in words f ≡ false
unfolding HasHomes
none_of words protocol f homes none of = by_test (is_in words f) refl
  where
    by_test : (test : Bool) → is_in words f ≡ test → is_in words f ≡ false
    by_test true is = let home : is_in words protocol ≡ true = rw of at (homes f is) in absurd (cc)
    by_test false is = is

-- the greatest set, and the least
all_alike : (n q d : ℕ) → get_or (replicate n d) q d ≡ d
all_alike zero q d = refl
all_alike (suc n) zero d = refl
all_alike (suc n) (suc q) d = all_alike n q d

pub in_every : (f : ℕ) → is_in every_field f ≡ true
unfolding is_in
in_every f =
    let word : get_or every_field (f / 64) every_word ≡ every_word = all_alike 8 (f / 64) every_word in
    rw (word, bit_at_ones 64 (f % 64) (omega arith)) refl

pub every_homes : HasHomes every_field
unfolding HasHomes
every_homes f has = in_every (row_of f).proto

no_word : (q : ℕ) → 0 < q → q < 8 → get_or least_fields q every_word ≡ 0
no_word zero some most = absurd (omega arith)
no_word (suc q) some most = get_or-replicate 7 q 0 every_word (omega arith)

length_rows : length rows ≡ field_count
unfolding rows
length_rows = refl

least_home : (f : ℕ) → is_in least_fields f ≡ true → (row_of f).proto ≡ 0
unfolding is_in row_of rows
least_home f has = by_table (leb field_count f) refl
  where
    outside : field_count ≤ f → (row_of f).proto ≡ 0
    outside past = ap (λ (row : FieldRow). row.proto) (get_or-eq_default rows (whole [] Proto 0) {n = f} (rw length_rows past))

    bit_has : bit_at (get_or least_fields (f / 64) every_word) (f % 64) ≡ 1
    bit_has = eqb-true (bit_at (get_or least_fields (f / 64) every_word) (f % 64)) 1 has

    by_word : f < field_count → (test : Bool) → (f / 64 == 0) ≡ test → (row_of f).proto ≡ 0
    by_word inside true is = by_bit (f % 64 == 0) refl
      where
        by_bit : (test : Bool) → (f % 64 == 0) ≡ test → (row_of f).proto ≡ 0
        by_bit true low = let first : f ≡ 0 = omega (arith, eqb-true (f / 64) 0 is, eqb-true (f % 64) 0 low) in rw first refl
        by_bit false high =
            let clear : bit_at (2 ^ 0) (f % 64) ≡ 0 = bit_at-pow_other 0 (f % 64) (eqb-false (f % 64) 0 high) in
            let set' : bit_at 1 (f % 64) ≡ 1 = rw (eqb-true (f / 64) 0 is) at bit_has in
            absurd (omega arith)
    by_word inside false is =
        let other : f / 64 ≢ 0 = eqb-false (f / 64) 0 is in
        let none : get_or least_fields (f / 64) every_word ≡ 0 = no_word (f / 64) (omega arith) (omega arith) in
        let clear : bit_at 0 (f % 64) ≡ 1 = rw none at bit_has in
        absurd (omega (arith, bit_at-zero (f % 64)))

    by_table : (test : Bool) → leb field_count f ≡ test → (row_of f).proto ≡ 0
    by_table true is = outside (leb-true field_count f is)
    by_table false is = by_word (leb-false field_count f is) (f / 64 == 0) refl

pub least_homes : HasHomes least_fields
unfolding HasHomes is_in
least_homes f has = rw (least_home f has) refl
