-- `number_of` reads the texts of a number's forms, and no other.
use Rattle.std.proofs.Common.{◌≡◌, ◌≢◌, ℕ, ◌^◌, ◌<◌, cond, eqb, ltb, List, [], ◌∷◌, ◌++◌, codes, length, get_or, Option, Some, None, IfSome, refl, sym, ◌∙◌, ap, subst, arith}
use Rattle.std.specs.Fmt.{decimal}
use Rattle.std.proofs.lemmas.Bool.{cond_both, cond-false, cond-true, lt-ltb, ne_eqb, eqb-true, eqb-false}
use Rattle.std.proofs.lemmas.Option.{none-some}
use Rattle.std.proofs.lemmas.Fmt.{decimal_is_IsNumeral}
use Rattle.pk_text.specs.declared.number.Wide.{Wide}
use Rattle.pk_text.specs.declared.number.Wide.TheVariants.{Fits}
use Rattle.pk_text.specs.Digits.{wide, digits_read}
use Rattle.pk_text.specs.Number.{NumberForm, Decimal, Hexadecimal, IsNumberForm, number_form_text, number_form_value, number_of}
use Rattle.pk_text.proofs.DigitsLemmas.{digits_read-IsNumeral, IsNumeral-digits_read, decimal_leading}

number_of-form : (f : NumberForm) → IsNumberForm f → number_of (number_form_text f) ≡ Some (wide (number_form_value f))
unfolding number_of
number_of-form (Hexadecimal ds) h = digits_read-IsNumeral 16 ds h
number_of-form (Decimal []) h = digits_read-IsNumeral 10 [] h.0
number_of-form (Decimal (c ∷ [])) h = digits_read-IsNumeral 10 (c ∷ []) h.0
number_of-form (Decimal (c ∷ d ∷ ds)) h =
    let no_zero : c ≢ 48 = λ e. absurd (omega (arith, h.1 e)) in
    cond-false (eqb c 48) _ _ (ne_eqb c 48 no_zero) ∙ digits_read-IsNumeral 10 (c ∷ d ∷ ds) h.0

-- a text of a form is read as the form's number
pub number_found : (t : List ℕ) (f : NumberForm) → IsNumberForm f → t ≡ number_form_text f → number_of t ≡ Some (wide (number_form_value f))
number_found t f h e = ap number_of e ∙ number_of-form f h

abbrev pub IsReading : List ℕ → Wide → Type 0
IsReading t w = (f : NumberForm) × IsNumberForm f × (t ≡ number_form_text f) × (w ≡ wide (number_form_value f))

decimal_reading : (ds : List ℕ) (w : Wide) → (get_or ds 0 0 ≡ 48 → length ds ≡ 1) → digits_read 10 ds ≡ Some w → IsReading ds w
decimal_reading ds w one h = let read = IsNumeral-digits_read 10 ds w h in (Decimal ds, (read.0, one), refl, read.1)

hexadecimal_reading : (ds : List ℕ) (w : Wide) → digits_read 16 ds ≡ Some w → IsReading (codes "0x" ++ ds) w
hexadecimal_reading ds w h = let read = IsNumeral-digits_read 16 ds w h in (Hexadecimal ds, read.0, refl, read.1)

leading_zero_reading : (letter : ℕ) (ds : List ℕ) (w : Wide) → cond (eqb letter 120) (digits_read 16 ds) None ≡ Some w → IsReading (48 ∷ letter ∷ ds) w
leading_zero_reading letter ds w h =
    cond_both (eqb letter 120) (digits_read 16 ds) None (λ r. r ≡ Some w → IsReading (48 ∷ letter ∷ ds) w)
    (λ x r. subst (λ (c : ℕ). IsReading (48 ∷ c ∷ ds) w) (sym (eqb-true letter 120 x)) (hexadecimal_reading ds w r))
    (λ _ r. absurd (none-some w r)) h

-- what is read is the text of a form
number_reading : (t : List ℕ) (w : Wide) → number_of t ≡ Some w → IsReading t w
unfolding number_of
number_reading [] w h = decimal_reading [] w (λ e. absurd (omega arith)) h
number_reading (c ∷ []) w h = decimal_reading (c ∷ []) w (λ _. refl) h
number_reading (c ∷ d ∷ ds) w h =
    cond_both (eqb c 48) _ _ (λ r. r ≡ Some w → IsReading (c ∷ d ∷ ds) w)
    (λ zero r. subst (λ (c : ℕ). IsReading (c ∷ d ∷ ds) w) (sym (eqb-true c 48 zero)) (leading_zero_reading d ds w r))
    (λ other r. decimal_reading (c ∷ d ∷ ds) w (λ e. absurd (eqb-false c 48 other e)) r) h

pub number_only : (t : List ℕ) (r : Option Wide) → r ≡ number_of t → IfSome r (IsReading t)
number_only t None e = tt
number_only t (Some w) e = number_reading t w (sym e)

-- the decimal digits of a number are read as the number
pub number_from_decimal : (n : ℕ) → n < 2 ^ 64 → number_of (decimal n) ≡ Some (Fits n)
number_from_decimal n small =
    let digits = decimal_is_IsNumeral n small in
    number_of-form (Decimal (decimal n)) (digits.0, decimal_leading n small) ∙ ap (λ v. Some (wide v)) digits.1 ∙ ap Some (cond-true (ltb n (2 ^ 64)) _ _ (lt-ltb n (2 ^ 64) small))
