-- `time_of` reads the texts of a time's forms, and no other.
use Rattle.std.proofs.Common.{◌≡◌, ◌≢◌, ℕ, zero, suc, ◌+◌, ◌*◌, ◌-◌, ◌^◌, ◌<◌, ◌≤◌, List, [], ◌∷◌, ◌++◌, Bool, true, false, cond, ltb, length, drop, replicate, Option, Some, None, IfSome, ℤ, pos, negsuc, refl, ap, ap₂, sym, arith, ◌∙◌, lit<, lit≤, append-nil, length-append}
use Rattle.std.specs.Prelude.{option_and_then}
use Rattle.std.specs.Option.{option_map}
use Rattle.std.specs.Char.{encode_utf8, digit_value}
use Rattle.std.specs.Fmt.{decimal, digits, sign_text}
use Rattle.std.specs.Int.{is_negative}
use Rattle.std.specs.Int.RustNames.{unsigned_abs}
use Rattle.std.specs.Str.Parse.{starts_with_minus, AllDigits, IsNumeral, digits_value}
use Rattle.std.proofs.lemmas.Bool.{ne_eqb, cond-false, le-ltb, false≢true, eqb-true}
use Rattle.std.proofs.lemmas.Option.{option_and_then_some}
use Rattle.std.proofs.lemmas.Nat.{pow-add}
use Rattle.std.proofs.lemmas.Str.Ascii.{encode_ascii}
use Rattle.std.proofs.lemmas.Fmt.{decimal_is_IsNumeral, length-decimal-le}
use Rattle.std.proofs.lemmas.List.{length-replicate}
use Rattle.std.proofs.Math.Nat.{mul-lt-mul_of_pos_right, one-le-pow}
use Rattle.pk_text.specs.Cut.{cut_at}
use Rattle.pk_text.specs.Digits.{short_read}
use Rattle.pk_text.specs.Time.{TimeForm, IsTimeForm, time_form_text, time_form_value, fraction_text, fraction_value, signed, time_of, time_shown, whole_seconds, nanoseconds_over, decimal_in, size_read, size_from, seconds_read, fraction_read}
use Rattle.pk_text.proofs.OptionLemmas.{option_map_some}
use Rattle.pk_text.proofs.CutLemmas.{Lacks-from_AllDigits, cut_at-first, cut_at-none, cut_parts}
use Rattle.pk_text.proofs.DigitsLemmas.{short_read-IsNumeral, IsNumeral-short_read}

-- a text that begins with no minus
pub no_minus : (t : List ℕ) → ((rest : List ℕ) → t ≢ encode_utf8 45 ++ rest) → starts_with_minus t ≡ false
no_minus [] h = refl
no_minus (c ∷ cs) h =
    ne_eqb c 45 (λ e. h cs (ap (λ (b : ℕ). b ∷ cs) e ∙ ap (λ (bs : List ℕ). bs ++ cs) (sym (encode_ascii 45 (lit< tt)))))

-- the nanoseconds of k digits of a fraction
pub scaled_below : (n k : ℕ) → k ≤ 9 → n < 10 ^ k → n * 10 ^ (9 - k) < 10 ^ 9
scaled_below n k h below =
    let rest : k + (9 - k) ≡ 9 = omega arith in
    let all : 10 ^ k * 10 ^ (9 - k) ≡ 10 ^ 9 = sym (pow-add 10 k (9 - k)) ∙ ap (λ m. 10 ^ m) rest in
    let less = mul-lt-mul_of_pos_right {k = 10 ^ (9 - k)} below (one-le-pow (9 - k) 10 (lit< tt)) in
    omega arith

seconds_read-IsNumeral : (ds : List ℕ) → IsNumeral 10 ds → length ds ≤ 18 → seconds_read ds ≡ Some (digits_value 10 ds * 10 ^ 9)
unfolding seconds_read
seconds_read-IsNumeral ds h short =
    ap (option_map (λ n. n * 10 ^ 9)) (short_read-IsNumeral 10 18 ds (lit< tt) (lit≤ tt) h short)

fraction_read-IsNumeral : (ds : List ℕ) → IsNumeral 10 ds → length ds ≤ 9 → fraction_read ds ≡ Some (digits_value 10 ds * 10 ^ (9 - length ds))
unfolding fraction_read
fraction_read-IsNumeral ds h short =
    ap (option_map (λ n. n * 10 ^ (9 - length ds))) (short_read-IsNumeral 10 9 ds (lit< tt) (lit≤ tt) h short)

abbrev IsFraction : Option (List ℕ) → Type 0
IsFraction o = IfSome o (λ ds. IsNumeral 10 ds × (length ds ≤ 9))

size_read-form : (whole : List ℕ) (o : Option (List ℕ)) → IsNumeral 10 whole → length whole ≤ 18 → IsFraction o → size_read (whole ++ fraction_text o) ≡ Some (digits_value 10 whole * 10 ^ 9 + fraction_value o)
unfolding size_read
size_read-form whole None h short f =
    rw append-nil (ap (size_from whole) (cut_at-none 46 whole (Lacks-from_AllDigits 46 10 whole (lit≤ tt) h.1))
    ∙ seconds_read-IsNumeral whole h short ∙ ap Some (omega arith))
size_read-form whole (Some ds) h short f =
    ap (size_from _) (cut_at-first 46 whole ds (Lacks-from_AllDigits 46 10 whole (lit≤ tt) h.1))
    ∙ ap (option_and_then (λ s. option_map (λ n. s + n) (fraction_read ds))) (seconds_read-IsNumeral whole h short)
    ∙ ap (option_map (λ n. digits_value 10 whole * 10 ^ 9 + n)) (fraction_read-IsNumeral ds f.0 f.1)

time_of-form : (negative : Bool) (whole : List ℕ) (o : Option (List ℕ)) → IsNumeral 10 whole → length whole ≤ 18 → IsFraction o → time_of (sign_text negative ++ (whole ++ fraction_text o)) ≡ Some (signed negative (digits_value 10 whole * 10 ^ 9 + fraction_value o))
unfolding time_of
time_of-form true whole o h short f = ap (option_map (signed true)) (size_read-form whole o h short f)
time_of-form false [] o h short f = absurd (omega (arith, h.0))
time_of-form false (c ∷ cs) o h short f =
    let digit : c ≢ 45 = λ e. absurd (omega (arith, ap digit_value e, h.1.0)) in
    let text = (c ∷ cs) ++ fraction_text o in
    ap (λ b. option_map (signed b) (size_read (cond b (drop 1 text) text))) (ne_eqb c 45 digit)
    ∙ ap (option_map (signed false)) (size_read-form (c ∷ cs) o h short f)

-- a text of a form is read as the form's time
pub time_found : (t : List ℕ) (f : TimeForm) → IsTimeForm f → t ≡ time_form_text f → time_of t ≡ Some (time_form_value f)
time_found t f h e = ap time_of e ∙ time_of-form f.negative f.whole f.fraction h.0 h.1 h.2

abbrev pub IsReading : List ℕ → ℤ → Type 0
IsReading t v = (f : TimeForm) × IsTimeForm f × (t ≡ time_form_text f) × (v ≡ time_form_value f)

abbrev IsSize : List ℕ → ℕ → Type 0
IsSize t n = (whole : List ℕ) × (o : Option (List ℕ)) × IsNumeral 10 whole × (length whole ≤ 18) × IsFraction o × (t ≡ whole ++ fraction_text o) × (n ≡ digits_value 10 whole * 10 ^ 9 + fraction_value o)

seconds_reading : (t : List ℕ) (n : ℕ) → seconds_read t ≡ Some n → IsNumeral 10 t × (length t ≤ 18) × (n ≡ digits_value 10 t * 10 ^ 9)
unfolding seconds_read
seconds_reading t n h =
    let (s, read, value) = option_map_some (λ n. n * 10 ^ 9) (short_read 10 18 t) n h in
    let digits = IsNumeral-short_read 10 18 t s read in
    (digits.0, digits.1, value ∙ ap (λ n. n * 10 ^ 9) digits.2)

fraction_reading : (t : List ℕ) (n : ℕ) → fraction_read t ≡ Some n → IsNumeral 10 t × (length t ≤ 9) × (n ≡ digits_value 10 t * 10 ^ (9 - length t))
unfolding fraction_read
fraction_reading t n h =
    let (s, read, value) = option_map_some (λ n. n * 10 ^ (9 - length t)) (short_read 10 9 t) n h in
    let digits = IsNumeral-short_read 10 9 t s read in
    (digits.0, digits.1, value ∙ ap (λ n. n * 10 ^ (9 - length t)) digits.2)

size_reading : (t : List ℕ) (n : ℕ) → size_read t ≡ Some n → IsSize t n
unfolding size_read
size_reading t n h = from (cut_at 46 t) refl h
  where
    from : (o : Option (List ℕ × List ℕ)) → cut_at 46 t ≡ o → size_from t o ≡ Some n → IsSize t n
    from None e r =
        let whole = seconds_reading t n r in
        (t, None, whole.0, whole.1, tt, sym (append-nil t), whole.2 ∙ omega arith)
    from (Some p) e r =
        option_and_then_some (λ s. option_map (λ k. s + k) (fraction_read p.1)) (seconds_read p.0) n r (λ s es ef.
        let whole = seconds_reading p.0 s es in
        let (k, read, value) = option_map_some (λ k. s + k) (fraction_read p.1) n ef in
        let fraction = fraction_reading p.1 k read in
        (p.0, Some p.1, whole.0, whole.1, (fraction.0, fraction.1), cut_parts 46 t p e, value ∙ ap₂ (λ a b. a + b) whole.2 fraction.2))

minus_first : (t : List ℕ) → starts_with_minus t ≡ true → t ≡ 45 ∷ drop 1 t
minus_first [] h = absurd (false≢true h)
minus_first (c ∷ cs) h = ap (λ (b : ℕ). b ∷ cs) (eqb-true c 45 h)

-- what is read is the text of a form
time_reading : (t : List ℕ) (v : ℤ) → time_of t ≡ Some v → IsReading t v
unfolding time_of
time_reading t v h = from (starts_with_minus t) refl h
  where
    from : (negative : Bool) → starts_with_minus t ≡ negative → option_map (signed negative) (size_read (cond negative (drop 1 t) t)) ≡ Some v → IsReading t v
    from true e r =
        let (n, read, value) = option_map_some (signed true) (size_read (drop 1 t)) v r in
        let (whole, o, digits, short, fraction, text, size) = size_reading (drop 1 t) n read in
        (record { negative = true; whole = whole; fraction = o }, (digits, short, fraction), minus_first t e ∙ ap (λ s. 45 ∷ s) text, value ∙ ap (signed true) size)
    from false e r =
        let (n, read, value) = option_map_some (signed false) (size_read t) v r in
        let (whole, o, digits, short, fraction, text, size) = size_reading t n read in
        (record { negative = false; whole = whole; fraction = o }, (digits, short, fraction), text, value ∙ ap (signed false) size)

pub time_only : (t : List ℕ) (r : Option ℤ) → r ≡ time_of t → IfSome r (IsReading t)
time_only t None e = tt
time_only t (Some v) e = time_reading t v (sym e)

AllDigits-zeros : (k : ℕ) (ds : List ℕ) → AllDigits 10 ds → AllDigits 10 (replicate k 48 ++ ds)
AllDigits-zeros zero ds h = h
AllDigits-zeros (suc k) ds h = (lit< tt, AllDigits-zeros k ds h)

digits_value-zeros : (k : ℕ) (ds : List ℕ) → digits_value 10 (replicate k 48 ++ ds) ≡ digits_value 10 ds
digits_value-zeros zero ds = refl
digits_value-zeros (suc k) ds = digits_value-zeros k ds

length-decimal_in : (n : ℕ) → n < 10 ^ 9 → length (decimal_in 9 n) ≡ 9
length-decimal_in n small =
    let short = length-decimal-le 9 n (lit< tt) small (omega arith) in
    omega (arith, length-append (replicate (9 - length (decimal n)) 48) (decimal n), length-replicate {A = ℕ} (9 - length (decimal n)) 48)

fraction_value-nine : (ds : List ℕ) → length ds ≡ 9 → fraction_value (Some ds) ≡ digits_value 10 ds
fraction_value-nine ds e = ap (λ k. digits_value 10 ds * 10 ^ (9 - k)) e ∙ omega arith

signed-unsigned_abs : (z : ℤ) → signed (is_negative z) (unsigned_abs z) ≡ z
signed-unsigned_abs (pos n) = cond-false (ltb n 0) _ _ (le-ltb n 0 (omega arith))
signed-unsigned_abs (negsuc n) = refl

-- the text of a time is read as the time
pub time_from_shown : (time : ℤ) → whole_seconds time < 10 ^ 18 → time_of (time_shown time) ≡ Some time
unfolding time_shown
time_from_shown time small =
    let q = whole_seconds time in
    let r = nanoseconds_over time in
    let below : r < 10 ^ 9 = omega arith in
    let whole = decimal_is_IsNumeral q (omega arith) in
    let over = decimal_is_IsNumeral r (omega arith) in
    let nine = length-decimal_in r below in
    let short = length-decimal-le 18 q (lit< tt) small (omega arith) in
    let digits = AllDigits-zeros (9 - length (decimal r)) (decimal r) over.0.1 in
    let value = digits_value-zeros (9 - length (decimal r)) (decimal r) in
    let fraction = fraction_value-nine (decimal_in 9 r) nine in
    let total : digits_value 10 (decimal q) * 10 ^ 9 + fraction_value (Some (decimal_in 9 r)) ≡ unsigned_abs time =
    omega (arith, whole.1, over.1, value, fraction) in
    time_of-form (is_negative time) (decimal q) (Some (decimal_in 9 r)) whole.0 short ((omega (arith, nine), digits), omega (arith, nine))
    ∙ ap Some (ap (signed (is_negative time)) total ∙ signed-unsigned_abs time)
