-- The texts of an IPv6 address: the one that RFC 5952 recommends, and all that RFC 4291, 2.2 allows but the dotted ones.
use Rattle.std.specs.Prelude.{◌≡◌, ◌⊎◌, ℕ, ◌+◌, ◌-◌, ◌*◌, ◌/◌, ◌%◌, ◌^◌, ◌<◌, ◌≤◌, ◌==◌, ◌&&◌, false, nat_lt, nat_le, if◌then◌else◌, List, [], ◌∷◌, ◌++◌, codes, length, take, drop, map, replicate, slice_index, Option, Some, None, option_and_then}
use Rattle.std.specs.Option.{option_map}
use Rattle.std.specs.List.{AllByRecursion, join_by, prefix_len, slice_split}
use Rattle.std.specs.Fmt.{digits}
use Rattle.std.specs.Int.Digits.{number_from_digits}
use Rattle.std.specs.Str.Parse.{IsNumeral, digits_value}
use Rattle.pk_text.specs.Digits.{short_read}

-- the eight groups of 16 bits of an address, the highest first
unfoldable pub groups_of : ℕ → List ℕ
groups_of address =
    map (λ place. address / 2 ^ place % 2 ^ 16) (112 ∷ 96 ∷ 80 ∷ 64 ∷ 48 ∷ 32 ∷ 16 ∷ 0 ∷ [])

-- groups in lower case without leading zeros (RFC 5952, 4.1 and 4.3), joined by `:`
abbrev pub groups_shown : List ℕ → List ℕ
groups_shown groups = join_by (digits 16 false) (codes ":") groups

-- the count groups from place at on are zeros
pub record IsRun (groups : List ℕ) (at count : ℕ) : Type 0 where
  pub inside : at + count ≤ length groups
  pub zeros : (i : ℕ) → i < count → slice_index groups (at + i) ≡ 0

-- no run of zeros is longer, and no other run as long comes first (RFC 5952, 4.2.3)
pub record IsBestRun (groups : List ℕ) (at count : ℕ) : Type 0 where
  pub run : IsRun groups at count
  pub longest : (a n : ℕ) → IsRun groups a n → n ≤ count
  pub first : (a : ℕ) → IsRun groups a count → 0 < count → at ≤ a

-- the best run is shortened to `::`, all of it (RFC 5952, 4.2.1), unless it is a single group (4.2.2)
abbrev pub IsIp6Text : List ℕ → List ℕ → Type 0
IsIp6Text groups text =
    ((at : ℕ) × (count : ℕ) × IsBestRun groups at count × (2 ≤ count)
    × (text ≡ groups_shown (take at groups)
    ++ (codes "::" ++ groups_shown (drop (at + count) groups))))
    ⊎ (((at count : ℕ) → IsRun groups at count → count < 2) × (text ≡ groups_shown groups))

-- the best run, computed: its place and how many groups; best is the best of those before place at, from which groups stand
abbrev pub best_run_from : ℕ → ℕ × ℕ → List ℕ → ℕ × ℕ
best_run_from at best [] = best
best_run_from at best (group ∷ groups) =
    let count = prefix_len (λ g. g == 0) (group ∷ groups) in
    best_run_from (at + 1) (if nat_lt best.1 count then (at, count) else best) groups

abbrev pub groups_written : List ℕ → ℕ × ℕ → List ℕ
groups_written groups run =
    if nat_lt run.1 2 then groups_shown groups
    else groups_shown (take run.0 groups)
    ++ (codes "::" ++ groups_shown (drop (run.0 + run.1) groups))

-- that text, computed
unfoldable pub ip6_shown : ℕ → List ℕ
ip6_shown address = groups_written (groups_of address) (best_run_from 0 (0, 0) (groups_of address))

-- an address as it is written: eight words, or the words before and behind `::`
pub data Ip6Form : Type 0 where
  Whole : List (List ℕ) → Ip6Form
  Shortened : List (List ℕ) → List (List ℕ) → Ip6Form

-- one to four hexadecimal digits, in either case
abbrev pub IsWord : List ℕ → Type 0
IsWord word = IsNumeral 16 word × (length word ≤ 4)

-- `::` stands for at least one group
abbrev pub IsIp6Form : Ip6Form → Type 0
IsIp6Form (Whole words) = AllByRecursion IsWord words × (length words ≡ 8)
IsIp6Form (Shortened front back) =
    AllByRecursion IsWord front × AllByRecursion IsWord back × (length front + length back ≤ 7)

-- the text
abbrev pub joined : List (List ℕ) → List ℕ
joined words = join_by (λ word. word) (codes ":") words

abbrev pub ip6_form_text : Ip6Form → List ℕ
ip6_form_text (Whole words) = joined words
ip6_form_text (Shortened front back) = joined front ++ (codes "::" ++ joined back)

-- the address
abbrev pub words_values : List (List ℕ) → List ℕ
words_values words = map (digits_value 16) words

abbrev pub ip6_form_value : Ip6Form → ℕ
ip6_form_value (Whole words) = number_from_digits (2 ^ 16) (words_values words)
ip6_form_value (Shortened front back) =
    number_from_digits (2 ^ 16)
    (words_values front ++ (replicate (8 - (length front + length back)) 0
    ++ words_values back))

-- what stands before the first `::` and behind it, computed; 58 is `:`
unfoldable pub gap_in : List ℕ → Option (List ℕ × List ℕ)
gap_in [] = None
gap_in (c ∷ []) = None
gap_in (c ∷ d ∷ rest) = if c == 58 && d == 58 then Some ([], rest)
    else option_map (λ p. (c ∷ p.0, p.1)) (gap_in (d ∷ rest))

-- one more group behind those of a side, which are eight at most; a side is how many groups, and the number that they make
abbrev pub side_more : ℕ × ℕ → ℕ → Option (ℕ × ℕ)
side_more side group = if nat_lt side.0 8 then Some (side.0 + 1, side.1 * 2 ^ 16 + group) else None

abbrev pub side_after : ℕ × ℕ → List (List ℕ) → Option (ℕ × ℕ)
side_after side [] = Some side
side_after side (word ∷ words) =
    option_and_then (λ more.
    side_after more words) (option_and_then (side_more side) (short_read 16 4 word))

-- what stands between colons
abbrev pub words_in : List ℕ → List (List ℕ)
words_in text = slice_split (λ c. c == 58) text

-- the groups of a text without `::`
unfoldable pub side_of : List ℕ → Option (ℕ × ℕ)
side_of text = if length text == 0 then Some (0, 0) else side_after (0, 0) (words_in text)

-- the address that the text before and behind a `::` write, or the whole text
unfoldable pub shortened_of : List ℕ × List ℕ → Option ℕ
shortened_of sides =
    option_and_then (λ front. option_and_then (λ back.
    if nat_le (front.0 + back.0) 7 then Some (front.1 * (2 ^ 16) ^ (8 - front.0) + back.1)
    else None)
    (side_of sides.1)) (side_of sides.0)

unfoldable pub whole_of : List ℕ → Option ℕ
whole_of text = option_and_then (λ side. if side.0 == 8 then Some side.1 else None) (side_of text)

abbrev pub ip6_from : List ℕ → Option (List ℕ × List ℕ) → Option ℕ
ip6_from text None = whole_of text
ip6_from text (Some sides) = shortened_of sides

-- the address that a text writes, computed
unfoldable pub ip6_of : List ℕ → Option ℕ
ip6_of text = ip6_from text (gap_in text)
