-- What a set has once fields were added to it one by one.
use Rattle.std.proofs.Common.{◌≡◌, ◌==◌, ℕ, ◌+◌, ◌<◌, Bool, true, false, ◌||◌, List, [], ◌∷◌, length, get_or, drop, refl, sym, ◌∙◌, ap, eq-eqb}
use Rattle.std.proofs.lemmas.List.{at_drop_more}
use Rattle.std.specs.List.{AllByRecursion as Each}
use Rattle.pk_fields.specs.AddedFields.{adds}
use Rattle.pk_fields.specs.Fields.{row_of}
use Rattle.pk_fields.specs.FieldSets.{is_in}

to_front : (a b c : Bool) → (a || (b || c)) ≡ ((b || a) || c)
to_front true true c = refl
to_front true false c = refl
to_front false true c = refl
to_front false false c = refl

-- one field more was added of those that are left
pub added_more : (old new all : List ℕ) (n now f : ℕ) (told : Bool) → n < length all → now ≡ get_or all n now → is_in new f ≡ (f == now || (f == (row_of now).proto || is_in old f))
    → (adds (drop n all) f || is_in old f) ≡ told → (adds (drop (n + 1) all) f || is_in new f) ≡ told
added_more old new all n now f told within is by so_far =
    let left = drop (n + 1) all in
    ap (λ x. adds left f || x) (by ∙ sym (grouped (f == now) (f == (row_of now).proto) (is_in old f)))
    ∙ to_front (adds left f) (f == now || f == (row_of now).proto) (is_in old f)
    ∙ sym (at_drop_more (λ xs. adds xs f || is_in old f) all n now within ∙ ap (λ x. adds (x ∷ left) f || is_in old f) (sym is)) ∙ so_far
  where
    grouped : (a b c : Bool) → ((a || b) || c) ≡ (a || (b || c))
    grouped true b c = refl
    grouped false b c = refl

-- a set to which fields were added has each of them
pub all_added : (new old fields : List ℕ) → ((f : ℕ) → is_in new f ≡ (adds fields f || is_in old f)) → Each (λ field. is_in new field ≡ true) fields
all_added new old fields by = from fields (λ f is. by f ∙ ap (λ x. x || is_in old f) is)
  where
    itself : (f : ℕ) (a b : Bool) → ((f == f || a) || b) ≡ true
    itself f a b = ap (λ x. (x || a) || b) (eq-eqb f f refl)

    later : (a : Bool) → (a || true) ≡ true
    later true = refl
    later false = refl

    from : (fs : List ℕ) → ((f : ℕ) → adds fs f ≡ true → is_in new f ≡ true) → Each (λ field. is_in new field ≡ true) fs
    from [] is = tt
    from (field ∷ fs) is = (is field (itself field (field == (row_of field).proto) (adds fs field)), from fs (λ f there. is f (ap (λ x. (f == field || f == (row_of field).proto) || x) there ∙ later _)))

-- and still each that it had
pub kept_by : (new old fields : List ℕ) → ((f : ℕ) → is_in new f ≡ (adds fields f || is_in old f)) → (f : ℕ) → is_in old f ≡ true → is_in new f ≡ true
kept_by new old fields by f is = by f ∙ ap (λ x. adds fields f || x) is ∙ or_true (adds fields f)
  where
    or_true : (a : Bool) → (a || true) ≡ true
    or_true true = refl
    or_true false = refl
