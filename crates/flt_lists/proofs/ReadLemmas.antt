-- Values that are asked one after the other, by their number.
use Rattle.std.proofs.Common.{◌≡◌, ◌+◌, ◌-◌, ◌<◌, ◌&&◌, ◌||◌, ℕ, zero, suc, Bool, true, false, List, [], ◌∷◌, Option, Some, None, length, drop, slice_get, ap, sym, refl, ◌∙◌, arith}
use Rattle.std.proofs.lemmas.List.{drop_all, drop_more}
use Rattle.std.proofs.lemmas.Option.{get_or_from_slice_get, slice_get_within}
use Rattle.std.specs.List.{list_all, list_any}
use Rattle.std.specs.Option.{option_map}

-- the value that gave an answer
record Gave {A : Type 0} (test : A → Bool) (found : Option A) (t : Bool) : Type 0 where
  value : A
  is : found ≡ Some value
  gives : test value ≡ t

gave : {A : Type 0} (test : A → Bool) (found : Option A) (t : Bool) → option_map test found ≡ Some t → Gave test found t
gave test None t is = absurd (cc)
gave test (Some value) t is = record { value = value; is = refl; gives = cc }

none_gave : {A : Type 0} (test : A → Bool) (found : Option A) → option_map test found ≡ None → found ≡ None
none_gave test None is = refl
none_gave test (Some value) is = absurd (cc)

next_is : {A : Type 0} (all : List A) (n : ℕ) (v : A) → slice_get all n ≡ Some v → drop n all ≡ v ∷ drop (n + 1) all
next_is all n v is = drop_more all n v (slice_get_within all n v is) ∙ ap (λ x. x ∷ drop (n + 1) all) (get_or_from_slice_get all n v v is)

none_left : {A : Type 0} (all : List A) (n : ℕ) → slice_get all n ≡ None → drop n all ≡ []
none_left [] n is = drop_all n [] (omega arith)
none_left (x ∷ xs) zero is = absurd (cc)
none_left (x ∷ xs) (suc n) is = none_left xs n is

left_is : {A : Type 0} (test : A → Bool) (all : List A) (n : ℕ) (t : Bool) → option_map test (slice_get all n) ≡ Some t →
    (list_any test (drop n all) ≡ (t || list_any test (drop (n + 1) all))) × (list_all test (drop n all) ≡ (t && list_all test (drop (n + 1) all)))
left_is test all n t is =
    let g = gave test (slice_get all n) t is in
    let left = next_is all n g.value g.is in
    (ap (list_any test) left ∙ ap (λ b. b || list_any test (drop (n + 1) all)) g.gives, ap (list_all test) left ∙ ap (λ b. b && list_all test (drop (n + 1) all)) g.gives)

-- any value: one answers yes, one more answers no, there is no other
pub any_found : {A : Type 0} (test : A → Bool) (all : List A) (n : ℕ) (t whole : Bool) → option_map test (slice_get all n) ≡ Some t → t ≡ true → list_any test (drop n all) ≡ whole → true ≡ whole
any_found test all n t whole is passes so_far = sym (ap (λ b. b || list_any test (drop (n + 1) all)) passes) ∙ sym (left_is test all n t is).0 ∙ so_far

pub any_further : {A : Type 0} (test : A → Bool) (all : List A) (n next : ℕ) (t whole : Bool) → option_map test (slice_get all n) ≡ Some t → t ≡ false → next ≡ n + 1 → list_any test (drop n all) ≡ whole →
    list_any test (drop next all) ≡ whole
any_further test all n next t whole is fails further so_far =
    ap (λ k. list_any test (drop k all)) further ∙ sym (ap (λ b. b || list_any test (drop (n + 1) all)) fails) ∙ sym (left_is test all n t is).0 ∙ so_far

pub any_ended : {A : Type 0} (test : A → Bool) (all : List A) (n : ℕ) (whole : Bool) → option_map test (slice_get all n) ≡ None → list_any test (drop n all) ≡ whole → false ≡ whole
any_ended test all n whole is so_far = sym (ap (list_any test) (none_left all n (none_gave test (slice_get all n) is))) ∙ so_far

-- all values: one answers no, one more answers yes, there is no other
pub all_found : {A : Type 0} (test : A → Bool) (all : List A) (n : ℕ) (t whole : Bool) → option_map test (slice_get all n) ≡ Some t → t ≡ false → list_all test (drop n all) ≡ whole → false ≡ whole
all_found test all n t whole is fails so_far = sym (ap (λ b. b && list_all test (drop (n + 1) all)) fails) ∙ sym (left_is test all n t is).1 ∙ so_far

pub all_further : {A : Type 0} (test : A → Bool) (all : List A) (n next : ℕ) (t whole : Bool) → option_map test (slice_get all n) ≡ Some t → t ≡ true → next ≡ n + 1 → list_all test (drop n all) ≡ whole →
    list_all test (drop next all) ≡ whole
all_further test all n next t whole is passes further so_far =
    ap (λ k. list_all test (drop k all)) further ∙ sym (ap (λ b. b && list_all test (drop (n + 1) all)) passes) ∙ sym (left_is test all n t is).1 ∙ so_far

pub all_ended : {A : Type 0} (test : A → Bool) (all : List A) (n : ℕ) (whole : Bool) → option_map test (slice_get all n) ≡ None → list_all test (drop n all) ≡ whole → true ≡ whole
all_ended test all n whole is so_far = sym (ap (list_all test) (none_left all n (none_gave test (slice_get all n) is))) ∙ so_far

pub fewer : {A : Type 0} (test : A → Bool) (all : List A) (n next : ℕ) (t : Bool) → option_map test (slice_get all n) ≡ Some t → next ≡ n + 1 → length all - next < length all - n
fewer test all n next t is further =
    let g = gave test (slice_get all n) t is in
    omega (arith, slice_get_within all n g.value g.is, further)
