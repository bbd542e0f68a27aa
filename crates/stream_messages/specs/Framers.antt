-- Where a message ends whose head tells its length.
use Rattle.std.specs.Prelude.{◌==◌, ℕ, ◌+◌, ◌*◌, if◌then◌else◌, ◌||◌, List, [], ◌∷◌, length, take, drop, nat_le, nat_lt, Option, Some, None}

-- the number of bytes, the highest first, behind one so far
abbrev pub number_on : ℕ → List ℕ → ℕ
number_on number [] = number
number_on number (b ∷ bytes) = number_on (number * 256 + b) bytes

abbrev pub number_of : List ℕ → ℕ
number_of bytes = number_on 0 bytes

-- an end that lies in the bytes
abbrev pub fit : ℕ → List ℕ → Option ℕ
fit end bytes = if nat_le end (length bytes) then Some end else None

-- the bytes of the first message: those of its head, and so many more as the number in the head from a place on tells; a head of no
-- bytes begins no message
abbrev pub first_sized : ℕ → ℕ → ℕ → List ℕ → Option ℕ
first_sized head at width bytes =
    if head == 0 || nat_lt (length bytes) head then None
    else fit (head + number_of (take width (drop at (take head bytes)))) bytes
