-- `ether_of` reads the texts of an Ethernet address's forms, and no other.
use Rattle.std.proofs.Common.{◌≡◌, ℕ, ◌<◌, true, ◌||◌, eqb, List, [], ◌∷◌, ◌++◌, codes, length, map, get_or, Option, Some, None, IfSome, refl, sym, ap, ◌∙◌, arith, ◌⊎◌, inl, inr, ⊎_elim}
use Rattle.std.specs.Option.{option_and_then}
use Rattle.std.specs.List.{AllByRecursion, join_by}
use Rattle.std.specs.Str.Parse.{digits_value}
use Rattle.std.proofs.lemmas.Bool.{cond-true, or_cases, eqb-true}
use Rattle.std.proofs.lemmas.Option.{none-some, cond_some, option_and_then_some}
use Rattle.std.proofs.lemmas.List.{length-map}
use Rattle.std.proofs.lemmas.List.Folds.{flat_map-map}
use Rattle.pk_text.specs.Digits.{hex_pair}
use Rattle.pk_text.specs.Pairs.{PairsForm, IsPair, pairs_text, pairs_value, pairs_exactly}
use Rattle.pk_text.specs.Ether.{IsEtherForm, ether_separator, ether_shown, ether_of}
use Rattle.pk_text.proofs.PairsLemmas.{led, pairs_found, pairs_reading, all_hex_pairs}

ether_separator-led : (c : ℕ) (first second : List ℕ) (pairs : List (List ℕ)) → (eqb c 58 || eqb c 45) ≡ true → IsPair first → ether_separator (first ++ led (Some c) (second ∷ pairs)) ≡ Some c
ether_separator-led c [] second pairs h pair = absurd (omega (arith, pair.0))
ether_separator-led c (high ∷ []) second pairs h pair = absurd (omega (arith, pair.0))
ether_separator-led c (high ∷ low ∷ d ∷ ds) second pairs h pair = absurd (omega (arith, pair.0))
ether_separator-led c (high ∷ low ∷ []) second pairs h pair = cond-true (eqb c 58 || eqb c 45) _ _ h

ether_of-pairs : (c : ℕ) (pairs : List (List ℕ)) → (eqb c 58 || eqb c 45) ≡ true → AllByRecursion IsPair pairs → length pairs ≡ 6 → ether_of (pairs_text (record { separator = Some c; pairs = pairs })) ≡ Some (map (digits_value 16) pairs)
unfolding ether_of
ether_of-pairs c [] h all six = absurd (omega (arith, six))
ether_of-pairs c (first ∷ []) h all six = absurd (omega (arith, six))
ether_of-pairs c (first ∷ second ∷ pairs) h all six =
    ap (option_and_then (λ separator. pairs_exactly 6 None (Some separator) (first ++ led (Some c) (second ∷ pairs)))) (ether_separator-led c first second pairs h all.0)
    ∙ pairs_found 6 (Some c) (first ∷ second ∷ pairs) all six

-- a text of a form is read as the form's bytes
pub ether_found : (t : List ℕ) (f : PairsForm) → IsEtherForm f → t ≡ pairs_text f → ether_of t ≡ Some (pairs_value f)
ether_found t f h e =
    ap ether_of e ∙ ⊎_elim (by 58 refl) (by 45 refl) h.separator
  where
    by : (c : ℕ) → (eqb c 58 || eqb c 45) ≡ true → f.separator ≡ Some c → ether_of (pairs_text f) ≡ Some (pairs_value f)
    by c known same =
        ap (λ s. ether_of (pairs_text (record { separator = s; pairs = f.pairs }))) same ∙ ether_of-pairs c f.pairs known h.pairs h.six

abbrev pub IsReading : List ℕ → List ℕ → Type 0
IsReading t v = (f : PairsForm) × IsEtherForm f × (t ≡ pairs_text f) × (v ≡ pairs_value f)

known_separator : (t : List ℕ) (c : ℕ) → ether_separator t ≡ Some c → (Some c ≡ Some 58) ⊎ (Some c ≡ Some 45)
known_separator [] c h = absurd (none-some _ h)
known_separator (high ∷ []) c h = absurd (none-some _ h)
known_separator (high ∷ low ∷ []) c h = absurd (none-some _ h)
known_separator (high ∷ low ∷ d ∷ ds) c h =
    let (known, same) = cond_some (eqb d 58 || eqb d 45) d c h in
    elim (or_cases (eqb d 58) (eqb d 45) known) [ inl e ↦ inl (ap Some (sym same ∙ eqb-true d 58 e)) | inr e ↦ inr (ap Some (sym same ∙ eqb-true d 45 e)) ]

ether_reading : (t v : List ℕ) → ether_of t ≡ Some v → IsReading t v
unfolding ether_of
ether_reading t v h =
    option_and_then_some (λ separator. pairs_exactly 6 None (Some separator) t) (ether_separator t) v h (λ c es ep.
    let (pairs, (all, six, values), text) = pairs_reading 6 (Some c) t v ep in
    (record { separator = Some c; pairs = pairs }, record { pairs = all; six = six; separator = known_separator t c es }, text, values))

pub ether_only : (t : List ℕ) (r : Option (List ℕ)) → r ≡ ether_of t → IfSome r (IsReading t)
ether_only t None e = tt
ether_only t (Some v) e = ether_reading t v (sym e)

-- the text of an address is read as the address
pub ether_from_shown : (v : List ℕ) → length v ≡ 6 → ((i : ℕ) → get_or v i 0 < 256) → ether_of (ether_shown v) ≡ Some v
unfolding ether_shown
ether_from_shown v six small =
    let all = all_hex_pairs v small in
    ap ether_of (sym (as_pairs v)) ∙ ether_of-pairs 58 (map hex_pair v) refl all.0 (length-map v hex_pair ∙ six) ∙ ap Some all.1
  where
    as_pairs : (bytes : List ℕ) → pairs_text (record { separator = Some 58; pairs = map hex_pair bytes }) ≡ join_by hex_pair (codes ":") bytes
    as_pairs [] = refl
    as_pairs (byte ∷ bytes) = ap (λ rest. hex_pair byte ++ rest) (flat_map-map (λ digits. 58 ∷ digits) hex_pair bytes)
