-- The texts of a time in seconds, which is a number of nanoseconds.
use Rattle.std.specs.Prelude.{ℕ, ◌+◌, ◌-◌, ◌*◌, ◌/◌, ◌%◌, ◌^◌, ◌≤◌, Bool, if◌then◌else◌, List, [], ◌∷◌, ◌++◌, length, drop, replicate, Option, Some, None, IfSome, option_and_then, ℤ, pos, neg_ℤ, unsigned_abs}
use Rattle.std.specs.Option.{option_map}
use Rattle.std.specs.Fmt.{decimal, sign_text}
use Rattle.std.specs.Int.{is_negative}
use Rattle.std.specs.Str.Parse.{IsNumeral, digits_value, starts_with_minus}
use Rattle.pk_text.specs.Digits.{short_read}
use Rattle.pk_text.specs.Cut.{cut_at}

-- the whole seconds of a time, without its sign, and the nanoseconds over
abbrev pub whole_seconds : ℤ → ℕ
whole_seconds time = unsigned_abs time / 10 ^ 9

abbrev pub nanoseconds_over : ℤ → ℕ
nanoseconds_over time = unsigned_abs time % 10 ^ 9

-- a number in at least n digits, with leading zeros
abbrev pub decimal_in : ℕ → ℕ → List ℕ
decimal_in n number = replicate (n - length (decimal number)) 48 ++ decimal number

-- the text of a time: `-` if it is negative, the whole seconds, a point, nine digits
unfoldable pub time_shown : ℤ → List ℕ
time_shown time = sign_text (is_negative time)
    ++ (decimal (whole_seconds time) ++ (46 ∷ decimal_in 9 (nanoseconds_over time)))

-- a time as it is written: whether a minus stands first, the digits of the whole seconds, and those of a fraction, if any
pub record TimeForm : Type 0 where
  pub negative : Bool
  pub whole : List ℕ
  pub fraction : Option (List ℕ)

-- 1 to 18 digits, and 1 to 9 of a fraction
abbrev pub IsTimeForm : TimeForm → Type 0
IsTimeForm f = IsNumeral 10 f.whole × (length f.whole ≤ 18)
    × IfSome f.fraction (λ ds. IsNumeral 10 ds × (length ds ≤ 9))

-- the text of a fraction behind its point, 46, and its nanoseconds
abbrev pub fraction_text : Option (List ℕ) → List ℕ
fraction_text None = []
fraction_text (Some ds) = 46 ∷ ds

abbrev pub fraction_value : Option (List ℕ) → ℕ
fraction_value None = 0
fraction_value (Some ds) = digits_value 10 ds * 10 ^ (9 - length ds)

-- a number with its sign
abbrev pub signed : Bool → ℕ → ℤ
signed negative n = if negative then neg_ℤ (pos n) else pos n

-- the text, and the time in nanoseconds
abbrev pub time_form_text : TimeForm → List ℕ
time_form_text f = sign_text f.negative ++ (f.whole ++ fraction_text f.fraction)

abbrev pub time_form_value : TimeForm → ℤ
time_form_value f = signed f.negative (digits_value 10 f.whole * 10 ^ 9 + fraction_value f.fraction)

-- the nanoseconds of the digits of whole seconds, and of those of a fraction, computed
unfoldable pub seconds_read : List ℕ → Option ℕ
seconds_read ds = option_map (λ n. n * 10 ^ 9) (short_read 10 18 ds)

unfoldable pub fraction_read : List ℕ → Option ℕ
fraction_read ds = option_map (λ n. n * 10 ^ (9 - length ds)) (short_read 10 9 ds)

abbrev pub size_from : List ℕ → Option (List ℕ × List ℕ) → Option ℕ
size_from t None = seconds_read t
size_from t (Some p) =
    option_and_then (λ s. option_map (λ f. s + f) (fraction_read p.1)) (seconds_read p.0)

-- the nanoseconds of a time without a sign, computed
unfoldable pub size_read : List ℕ → Option ℕ
size_read t = size_from t (cut_at 46 t)

-- the time that a text writes, computed
unfoldable pub time_of : List ℕ → Option ℤ
time_of t = option_map (signed (starts_with_minus t))
    (size_read (if starts_with_minus t then drop 1 t else t))
