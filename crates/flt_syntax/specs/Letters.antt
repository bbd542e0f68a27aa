-- The bytes of a filter's text, and its words.
use Rattle.std.specs.Prelude.{ℕ, suc, ◌+◌, ◌==◌, Bool, not, ◌&&◌, ◌||◌, nat_eq, nat_le, nat_lt, if◌then◌else◌, List, [], ◌∷◌, length, take, codes, slice_get, Option, Some, None}
use Rattle.std.specs.Char.{is_ascii_alphanumeric, is_ascii_digit}
use Rattle.std.specs.List.{list_all, starts_with}
use Rattle.std.specs.Str.{bytes_eq}

-- a space, a tab, a line feed, a carriage return: what may stand between tokens
abbrev pub is_blank : ℕ → Bool
is_blank b = b == 32 || (b == 9 || (b == 10 || b == 13))

-- how many of them stand in front
abbrev pub blanks : List ℕ → ℕ
blanks [] = 0
blanks (b ∷ bytes) = if is_blank b then suc (blanks bytes) else 0

-- a letter, a digit, or one of `_ . : - /`
abbrev pub is_word_byte : ℕ → Bool
is_word_byte b =
    is_ascii_alphanumeric b || (b == 95 || (b == 46 || (b == 58 || (b == 45 || b == 47))))

-- the longest run of such bytes in front, ended before the first `..`
abbrev pub word_len : List ℕ → ℕ
word_len [] = 0
word_len (b ∷ bytes) = if is_word_byte b && not (starts_with nat_eq (b ∷ bytes) (codes ".."))
    then suc (word_len bytes) else 0

-- a word stands in front where such a run does, other than `-` alone, which is a sign
abbrev pub begins_word : List ℕ → Bool
begins_word bytes =
    nat_lt 0 (word_len bytes) && not (bytes_eq (take (word_len bytes) bytes) (codes "-"))

-- how many digits stand in front
abbrev pub digits_len : List ℕ → ℕ
digits_len [] = 0
digits_len (b ∷ bytes) = if is_ascii_digit b then suc (digits_len bytes) else 0

-- one to nine digits
abbrev pub is_number : List ℕ → Bool
is_number text = nat_lt 0 (length text) && (nat_le (length text) 9 && list_all is_ascii_digit text)

-- how many bytes there are up to and with the `(` that follows, if only blanks stand before it; 40 is `(`
abbrev pub opening_at : ℕ → Option ℕ → Option ℕ
opening_at passed None = None
opening_at passed (Some b) = if b == 40 then Some (passed + 1) else None

abbrev pub opening : List ℕ → Option ℕ
opening bytes = opening_at (blanks bytes) (slice_get bytes (blanks bytes))
