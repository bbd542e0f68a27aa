-- Lines that end in CR LF, of which a part may be there (RFC 9112, 7.1).
use Rattle.std.specs.Prelude.{ℕ, ◌+◌, if◌then◌else◌, Bool, true, not, ◌&&◌, ◌||◌, ◌==◌, List, [], ◌∷◌, length, take, drop, nat_le, nat_lt, Option, Some, None}
use Rattle.std.specs.List.{prefix_len}
use Rattle.std.specs.Char.{is_ascii_hexdigit}
use Rattle.std.specs.Str.Parse.{digits_value}
use Rattle.httparse.specs.Ascii.{line_feed, carriage_return, semicolon}
use Rattle.httparse.specs.Grammar.{is_ows}
use Rattle.httparse.specs.Pieces.{is_newline}
use Rattle.stream_messages.specs.declared.lines.Line.{Line}
use Rattle.stream_messages.specs.declared.lines.Line.TheVariants.{Whole, Short, Wrong}

abbrev pub is_text : ℕ → Bool
is_text b = not (is_newline b)

-- whether the bytes behind so many are CR LF
abbrev pub feed_at : ℕ → List ℕ → Line
feed_at n [] = Short
feed_at n (b ∷ rest) = if b == line_feed then Whole n else Wrong

abbrev pub crlf_at : ℕ → List ℕ → Line
crlf_at n [] = Short
crlf_at n (b ∷ rest) = if b == carriage_return then feed_at n rest else Wrong

-- the bytes of a line up to its CR or LF, of which so many were looked at
abbrev pub text_from : ℕ → List ℕ → ℕ
text_from text bytes = text + prefix_len is_text (drop text bytes)

-- the line at the front of bytes: an empty one, or one of at most so many bytes with its CR LF
abbrev pub line_by : ℕ → ℕ → List ℕ → Line
line_by most n bytes = if n == 0 || nat_le (n + 2) most then crlf_at n (drop n bytes) else Wrong

abbrev pub line_of : ℕ → ℕ → List ℕ → Line
line_of most text bytes = line_by most (text_from text bytes) bytes

-- what may stand behind a chunk's size
abbrev pub is_tail : List ℕ → Bool
is_tail [] = true
is_tail (b ∷ rest) = is_ows b || b == semicolon

abbrev pub size_by : List ℕ → List ℕ → Option ℕ
size_by digits tail =
    if (nat_lt 0 (length digits) && nat_le (length digits) 8) && is_tail tail
    then Some (digits_value 16 digits) else None

-- the size that a chunk's line tells: 1 to 8 hexadecimal digits and a tail
unfoldable pub size_in : List ℕ → Option ℕ
size_in line = size_by (take (prefix_len is_ascii_hexdigit line) line)
    (drop (prefix_len is_ascii_hexdigit line) line)
