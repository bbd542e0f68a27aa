-- What sums, differences and products of numbers are, and the least and the greatest of some numbers. Each result is
-- exact: one below 0 or above the greatest number of 64 bits is no value.
use Rattle.std.specs.Prelude.{◌≡◌, ℕ, ◌+◌, ◌-◌, ◌*◌, ◌^◌, ◌≤◌, if◌then◌else◌, nat_lt, nat_le, min, max, List, [], ◌∷◌, Option, Some, None}
use Rattle.std.specs.List.{All, Contains}
use Rattle.std.specs.Option.{option_map}
use Rattle.flt_syntax.specs.declared.ast.Arithmetic.{Arithmetic}
use Rattle.flt_syntax.specs.declared.ast.Arithmetic.TheVariants.{Sum, Difference, Product}
use Rattle.flt_typed.specs.declared.arithmetic.Extreme.{Extreme}
use Rattle.flt_typed.specs.declared.arithmetic.Extreme.TheVariants.{Least, Greatest}
use Rattle.pk_base.specs.declared.value.Value.{Value}
use Rattle.pk_base.specs.declared.value.Value.TheVariants as values

-- a number that 64 bits have room for
abbrev pub in_64_bits : ℕ → Option ℕ
in_64_bits number = if nat_lt number (2 ^ 64) then Some number else None

abbrev pub result_of : Arithmetic → ℕ → ℕ → Option ℕ
result_of Sum a b = in_64_bits (a + b)
result_of Difference a b = if nat_le b a then Some (a - b) else None
result_of Product a b = in_64_bits (a * b)

-- what two numbers give; other values give nothing
abbrev pub calculated : Arithmetic → Value → Value → Option Value
calculated operation (values.Uint a) (values.Uint b) =
    option_map values.Uint (result_of operation a b)
calculated operation v w = None

-- the numbers among values
abbrev pub number_in : Value → Option ℕ
number_in (values.Uint number) = Some number
number_in value = None

-- of two numbers, the one that is asked for, as far as they are there
abbrev pub nearer : Extreme → ℕ → ℕ → ℕ
nearer Least a b = min a b
nearer Greatest a b = max a b

abbrev pub nearer_of : Extreme → Option ℕ → Option ℕ → Option ℕ
nearer_of extreme None b = b
nearer_of extreme (Some a) None = Some a
nearer_of extreme (Some a) (Some b) = Some (nearer extreme a b)

-- the least or the greatest number among values; there is none where no value is a number
abbrev pub extreme_number : Extreme → List Value → Option ℕ
extreme_number extreme [] = None
extreme_number extreme (value ∷ rest) =
    nearer_of extreme (number_in value) (extreme_number extreme rest)

abbrev pub extreme_of : Extreme → List Value → Option Value
extreme_of extreme vs = option_map values.Uint (extreme_number extreme vs)

-- no number among values is beyond this one
abbrev pub IsWithin : Extreme → ℕ → ℕ → Type 0
IsWithin Least bound number = bound ≤ number
IsWithin Greatest bound number = number ≤ bound

-- the same as a relation: it is one of the values, and no number among them is beyond it
pub record IsExtreme (extreme : Extreme) (vs : List Value) (value : Value) : Type 0 where
  pub number : ℕ
  pub is_number : value ≡ values.Uint number
  pub among : Contains vs value
  pub bounds : All (λ v. (other : ℕ) → v ≡ values.Uint other → IsWithin extreme number other) vs
