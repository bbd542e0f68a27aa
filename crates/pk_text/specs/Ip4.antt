-- The text of an IPv4 address: four decimal numbers from 0 to 255 without leading zeros, joined by `.`.
use Rattle.std.specs.Prelude.{ℕ, ◌==◌, ◌&&◌, nat_lt, if◌then◌else◌, List, [], ◌∷◌, codes, length, slice_index, Option, Some, None, option_and_then}
use Rattle.std.specs.List.{join_by}
use Rattle.std.specs.Fmt.{decimal}
use Rattle.std.specs.Int.{w32, to_be_bytes, from_be_bytes}
use Rattle.pk_text.specs.Cut.{cut_at}
use Rattle.pk_text.specs.Digits.{short_read}

-- the text of an address, which has no other
unfoldable pub ip4_shown : ℕ → List ℕ
ip4_shown address = join_by decimal (codes ".") (to_be_bytes w32 address)

-- a number from 0 to 255, computed; 48 is `0`
unfoldable pub part_read : List ℕ → Option ℕ
part_read digits =
    if nat_lt 1 (length digits) && slice_index digits 0 == 48 then None
    else option_and_then (λ n. if nat_lt n 256 then Some n else None) (short_read 10 3 digits)

infixl 10 ◌>>=◌
abbrev pub ◌>>=◌ : {A B : Type 0} → Option A → (A → Option B) → Option B
o >>= f = option_and_then f o

-- the address of four numbers, computed
abbrev pub address_of : List ℕ → List ℕ → List ℕ → List ℕ → Option ℕ
address_of first second third fourth = do
  a ← part_read first
  b ← part_read second
  c ← part_read third
  d ← part_read fourth
  Some (from_be_bytes w32 (a ∷ b ∷ c ∷ d ∷ []))

-- the address that a text writes, computed; 46 is `.`
unfoldable pub ip4_of : List ℕ → Option ℕ
ip4_of text = do
  first ← cut_at 46 text
  second ← cut_at 46 first.1
  third ← cut_at 46 second.1
  address_of first.0 second.0 third.0 third.1
