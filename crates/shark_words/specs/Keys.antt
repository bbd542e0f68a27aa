-- What `-E` sets: a key, the sign `=`, and a value of the key.
use Rattle.std.specs.Prelude.{ℕ, ◌==◌, nat_le, Bool, true, false, ◌&&◌, List, [], ◌∷◌, length, take, drop, codes, Option, Some, None, is_some, if◌then◌else◌}
use Rattle.std.specs.Str.{bytes_eq}
use Rattle.out_lines.specs.declared.style.Occurrence.{Occurrence}
use Rattle.out_lines.specs.declared.style.Occurrence.TheVariants as occurrences
use Rattle.out_lines.specs.declared.style.Quote.{Quote}
use Rattle.out_lines.specs.declared.style.Quote.TheVariants as quotes
use Rattle.shark_words.specs.declared.key.Key.{Key}
use Rattle.shark_words.specs.declared.key.Key.TheVariants.{Header, Separator, Aggregator, Occurrence as OccurrenceKey, Quote as QuoteKey}

abbrev pub key_name : Key → List ℕ
key_name Header = codes "header="
key_name Separator = codes "separator="
key_name Aggregator = codes "aggregator="
key_name OccurrenceKey = codes "occurrence="
key_name QuoteKey = codes "quote="

-- what stands behind a key in a text that begins with it
abbrev pub behind_name : List ℕ → List ℕ → Option (List ℕ)
behind_name name text =
    if nat_le (length name) (length text) && bytes_eq (take (length name) text) name
    then Some (drop (length name) text) else None

abbrev pub behind_key : Key → List ℕ → Option (List ℕ)
behind_key key text = behind_name (key_name key) text

-- the key that a text begins with
unfoldable pub begins : Key → List ℕ → Bool
begins key text = is_some (behind_key key text)

unfoldable pub key_of : List ℕ → Option Key
key_of text =
    if begins Header text then Some Header
    else if begins Separator text then Some Separator
    else if begins Aggregator text then Some Aggregator
    else if begins OccurrenceKey text then Some OccurrenceKey
    else if begins QuoteKey text then Some QuoteKey
    else None

-- `y` or `n`
abbrev pub header_of : List ℕ → Option Bool
header_of (b ∷ []) = if b == 121 then Some true else if b == 110 then Some false else None
header_of text = None

-- one character from 0x20 to 0x7E, or `/t` for a tab or `/s` for a space
abbrev pub character_of : List ℕ → Option ℕ
character_of (b ∷ []) = if nat_le 32 b && nat_le b 126 then Some b else None
character_of (slash ∷ b ∷ []) =
    if slash == 47 && b == 116 then Some 9 else if slash == 47 && b == 115 then Some 32 else None
character_of text = None

-- `f`, `l` or `a`: the first value, the last or all
abbrev pub occurrence_of : List ℕ → Option Occurrence
occurrence_of (b ∷ []) =
    if b == 102 then Some occurrences.First else if b == 108 then Some occurrences.Last
    else if b == 97 then Some occurrences.All else None
occurrence_of text = None

-- `d`, `s` or `n`: double quotes, single ones or none
abbrev pub quote_of : List ℕ → Option Quote
quote_of (b ∷ []) = if b == 100 then Some quotes.Double else if b == 115 then Some quotes.Single
    else if b == 110 then Some quotes.None else None
quote_of text = None

-- whether a text is one of a key's values
abbrev pub is_choice : Key → List ℕ → Bool
is_choice Header value = is_some (header_of value)
is_choice Separator value = is_some (character_of value)
is_choice Aggregator value = is_some (character_of value)
is_choice OccurrenceKey value = is_some (occurrence_of value)
is_choice QuoteKey value = is_some (quote_of value)

abbrev pub is_choice_if : Key → Option (List ℕ) → Bool
is_choice_if key None = false
is_choice_if key (Some value) = is_choice key value

abbrev pub is_setting_of : Option Key → List ℕ → Bool
is_setting_of None text = false
is_setting_of (Some key) text = is_choice_if key (behind_key key text)

-- whether a text is a key and one of its values
abbrev pub is_setting : List ℕ → Bool
is_setting text = is_setting_of (key_of text) text

abbrev pub key_number : Key → ℕ
key_number Header = 0
key_number Separator = 1
key_number Aggregator = 2
key_number OccurrenceKey = 3
key_number QuoteKey = 4

abbrev pub is_same_key : Key → Key → Bool
is_same_key one other = key_number one == key_number other
