-- `bytes_of` reads the texts of pairs of digits with one of the separators or none, and no other.
use Rattle.std.proofs.Common.{◌≡◌, ℕ, suc, ◌+◌, ◌*◌, ◌<◌, false, eqb, List, [], ◌∷◌, ◌++◌, length, map, Option, Some, None, IfSome, IfOk, Result, Ok, Err, IsTrue, refl, sym, ap, ◌∙◌, arith, length-append}
use Rattle.std.specs.Option.{option_to_list}
use Rattle.std.specs.List.{AllByRecursion}
use Rattle.std.specs.Char.{digit_value}
use Rattle.std.specs.Str.Parse.{digits_value}
use Rattle.std.proofs.lemmas.Bool.{cond-true, cond-false, cond_both, ne_eqb, eqb-false, or_from}
use Rattle.std.proofs.lemmas.Option.{none-some}
use Rattle.pk_text.specs.Pairs.{PairsForm, IsPair, pairs_text, pairs_value, pairs_exactly}
use Rattle.pk_text.specs.Octets.{IsOctetsForm, is_separator, octets_separator, pair_count, bytes_of}
use Rattle.pk_text.proofs.PairsLemmas.{led, ArePairs, pairs_found, pairs_reading}

length-led : (separator : Option ℕ) (pairs : List (List ℕ)) → AllByRecursion IsPair pairs → length (led separator pairs) ≡ length pairs * (length (option_to_list separator) + 2)
length-led None [] all = refl
length-led (Some c) [] all = refl
length-led None (pair ∷ pairs) all =
    omega (arith, length-led None pairs all.1, length-append pair (led None pairs), all.0.0)
length-led (Some c) (pair ∷ pairs) all =
    omega (arith, length-led (Some c) pairs all.1, length-append (c ∷ pair) (led (Some c) pairs), all.0.0)

count_found : (separator : Option ℕ) (pair : List ℕ) (pairs : List (List ℕ)) → IsPair pair → AllByRecursion IsPair pairs → pair_count separator (pair ++ led separator pairs) ≡ suc (length pairs)
count_found None pair pairs two all = omega (arith, length-append pair (led None pairs), length-led None pairs all, two.0)
count_found (Some c) pair pairs two all = omega (arith, length-append pair (led (Some c) pairs), length-led (Some c) pairs all, two.0)

bytes_of-pairs : (separator : Option ℕ) (pair : List ℕ) (pairs : List (List ℕ)) → IsPair pair → AllByRecursion IsPair pairs → octets_separator (pair ++ led separator pairs) ≡ separator → bytes_of (pair ++ led separator pairs) ≡ Some (digits_value 16 pair ∷ map (digits_value 16) pairs)
unfolding bytes_of
bytes_of-pairs separator pair pairs two all same =
    let text = pair ++ led separator pairs in
    let some : eqb (length text) 0 ≡ false = ne_eqb _ 0 (λ none. absurd (omega (arith, none, length-append pair (led separator pairs), two.0))) in
    cond-false (eqb (length text) 0) _ _ some
    ∙ ap (λ s. pairs_exactly (pair_count s text) None s text) same
    ∙ ap (λ n. pairs_exactly n None separator text) (count_found separator pair pairs two all)
    ∙ pairs_found (suc (length pairs)) separator (pair ∷ pairs) (two, all) refl

digit_no_separator : (c : ℕ) → digit_value c < 16 → is_separator c ≡ false
digit_no_separator c digit =
    or_from (eqb c 58) _ (ne_eqb c 58 (λ e. absurd (omega (arith, ap digit_value e))))
    (or_from (eqb c 45) _ (ne_eqb c 45 (λ e. absurd (omega (arith, ap digit_value e)))) (ne_eqb c 46 (λ e. absurd (omega (arith, ap digit_value e)))))

-- the separator behind the first of two pairs or more, and of one alone
separator_between : (separator : Option ℕ) (first second : List ℕ) (pairs : List (List ℕ)) → IsPair first → IsPair second → IfSome separator (λ c. IsTrue (is_separator c)) → octets_separator (first ++ led separator (second ∷ pairs)) ≡ separator
separator_between separator [] second pairs one two known = absurd (omega (arith, one.0))
separator_between separator (high ∷ []) second pairs one two known = absurd (omega (arith, one.0))
separator_between separator (high ∷ low ∷ c ∷ cs) second pairs one two known = absurd (omega (arith, one.0))
separator_between (Some c) (high ∷ low ∷ []) second pairs one two known = cond-true (is_separator c) _ _ known
separator_between None (high ∷ low ∷ []) [] pairs one two known = absurd (omega (arith, two.0))
separator_between None (high ∷ low ∷ []) (c ∷ cs) pairs one two known =
    cond-false (is_separator c) _ _ (digit_no_separator c two.1.0)

separator_alone : (pair : List ℕ) → IsPair pair → octets_separator (pair ++ []) ≡ None
separator_alone [] two = refl
separator_alone (high ∷ []) two = refl
separator_alone (high ∷ low ∷ []) two = refl
separator_alone (high ∷ low ∷ c ∷ cs) two = absurd (omega (arith, two.0))

bytes_of-form : (separator : Option ℕ) (pairs : List (List ℕ)) → AllByRecursion IsPair pairs → 0 < length pairs → IfSome separator (λ c. IsTrue (is_separator c)) → bytes_of (pairs_text (record { separator = separator; pairs = pairs })) ≡ Some (map (digits_value 16) pairs)
bytes_of-form separator [] all some known = absurd (omega arith)
bytes_of-form separator (pair ∷ []) all some known = bytes_of-pairs None pair [] all.0 tt (separator_alone pair all.0)
bytes_of-form separator (pair ∷ second ∷ pairs) all some known =
    bytes_of-pairs separator pair (second ∷ pairs) all.0 all.1 (separator_between separator pair second pairs all.0 all.1.0 known)

-- a text of a form is read as the form's bytes
pub bytes_found : {E : Type 0} (t : List ℕ) (r : Result (Option (List ℕ)) E) (f : PairsForm) → IfOk r (λ answer. answer ≡ bytes_of t) → IsOctetsForm f → t ≡ pairs_text f → IfOk r (λ answer. answer ≡ Some (pairs_value f))
bytes_found t (Err e) f read h same = tt
bytes_found t (Ok answer) f read h same = read ∙ ap bytes_of same ∙ bytes_of-form f.separator f.pairs h.pairs h.some h.separator

abbrev pub IsReading : List ℕ → List ℕ → Type 0
IsReading t v = (f : PairsForm) × IsOctetsForm f × (t ≡ pairs_text f) × (v ≡ pairs_value f)

separator_known : (t : List ℕ) → IfSome (octets_separator t) (λ c. IsTrue (is_separator c))
separator_known [] = tt
separator_known (high ∷ []) = tt
separator_known (high ∷ low ∷ []) = tt
separator_known (high ∷ low ∷ c ∷ rest) =
    cond_both (is_separator c) (Some c) None (λ o. IfSome o (λ d. IsTrue (is_separator d))) (λ known. known) (λ _. tt)

form_reading : (separator : Option ℕ) (t v : List ℕ) (n : ℕ) (pairs : List (List ℕ)) → IfSome separator (λ c. IsTrue (is_separator c)) → 0 < length t → ArePairs n v pairs → t ≡ pairs_text (record { separator = separator; pairs = pairs }) → IsReading t v
form_reading separator t v n [] known some all text = absurd (omega (arith, ap length text))
form_reading separator t v n (pair ∷ pairs) known some all text =
    (record { separator = separator; pairs = pair ∷ pairs }, record { pairs = all.0; some = omega arith; separator = known }, text, all.2)

bytes_reading : (t v : List ℕ) → bytes_of t ≡ Some v → IsReading t v
unfolding bytes_of
bytes_reading t v h =
    cond_both (eqb (length t) 0) None _ (λ r. r ≡ Some v → IsReading t v)
    (λ _ r. absurd (none-some v r))
    (λ some r.
    let (pairs, all, text) = pairs_reading (pair_count (octets_separator t) t) (octets_separator t) t v r in
    form_reading (octets_separator t) t v _ pairs (separator_known t) (omega (arith, eqb-false (length t) 0 some)) all text) h

-- what is read is the text of a form
pub bytes_only : {E : Type 0} (t : List ℕ) (r : Result (Option (List ℕ)) E) → IfOk r (λ answer. answer ≡ bytes_of t) → IfOk r (λ answer. IfSome answer (IsReading t))
bytes_only t (Err e) read = tt
bytes_only t (Ok None) read = tt
bytes_only t (Ok (Some v)) read = bytes_reading t v (sym read)
