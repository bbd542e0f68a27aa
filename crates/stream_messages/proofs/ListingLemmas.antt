-- The last element of a list of words with commas between them.
use Rattle.std.proofs.Common.{◌≡◌, ℕ, ◌+◌, ◌-◌, ◌<◌, ◌≤◌, true, List, [], ◌∷◌, ◌++◌, length, get_or, take, drop, slice_range, refl, sym, ap, ◌∙◌, arith, get_or-drop, length-drop, ◌≢◌}
use Rattle.std.specs.Prelude.{◌==◌, if◌then◌else◌}
use Rattle.std.proofs.lemmas.Bool.{cond-true, cond-false, ne_eqb}
use Rattle.std.proofs.lemmas.List.{take_more}
use Rattle.std.proofs.lemmas.List.Sums.{fold_push}
use Rattle.httparse.specs.Ascii.{comma}
use Rattle.httparse.proofs.TrimLemmas.{slice_empty}
use Rattle.stream_messages.specs.Fields.{last_element}

abbrev element_on : List ℕ → ℕ → List ℕ
element_on part b = if b == comma then [] else part ++ b ∷ []

last_more : (value : List ℕ) (i : ℕ) → i < length value → last_element (take (i + 1) value) ≡ element_on (last_element (take i value)) (get_or value i 0)
last_more value i inside =
    ap last_element (take_more value i 0 inside)
    ∙ fold_push (λ part b. if b == comma then [] else part ++ b ∷ []) [] (take i value) (get_or value i 0)

slice_more : (value : List ℕ) (start i : ℕ) → start ≤ i → i < length value
    → slice_range value start (i + 1) ≡ slice_range value start i ++ get_or value i 0 ∷ []
slice_more value start i below inside =
    let len : i + 1 - start ≡ (i - start) + 1 = omega arith in
    let place : start + (i - start) ≡ i = omega arith in
    let room : i - start < length (drop start value) = omega (arith, length-drop start value) in
    ap (λ (n : ℕ). take n (drop start value)) len
    ∙ take_more (drop start value) (i - start) 0 room
    ∙ ap (λ (b : ℕ). take (i - start) (drop start value) ++ b ∷ []) (get_or-drop start value (i - start) 0 ∙ ap (λ (k : ℕ). get_or value k 0) place)

pub element_ends : (value : List ℕ) (i : ℕ) → i < length value → get_or value i 0 ≡ 44 → slice_range value (i + 1) (i + 1) ≡ last_element (take (i + 1) value)
element_ends value i inside e =
    slice_empty value (i + 1) (i + 1) refl (omega arith)
    ∙ sym (last_more value i inside ∙ cond-true _ _ _ (is_comma (get_or value i 0) e))
  where
    is_comma : (b : ℕ) → b ≡ 44 → (b == comma) ≡ true
    is_comma b e = grind arith

pub element_grows : (value : List ℕ) (start i : ℕ) → start ≤ i → i < length value → slice_range value start i ≡ last_element (take i value)
    → get_or value i 0 ≢ 44 → slice_range value start (i + 1) ≡ last_element (take (i + 1) value)
element_grows value start i below inside same other =
    slice_more value start i below inside
    ∙ ap (λ (t : List ℕ). t ++ get_or value i 0 ∷ []) same
    ∙ sym (last_more value i inside ∙ cond-false _ _ _ (ne_eqb _ _ other))
