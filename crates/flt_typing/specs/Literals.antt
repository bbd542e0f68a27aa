-- What the literals of filters write (wireshark-filter(4)): a value of the kind that is asked for, or that its kind
-- doesn't read them, or that they write what is out of its range.
use Rattle.std.specs.Prelude.{ℕ, ◌^◌, Bool as Truth, true, false, if◌then◌else◌, nat_lt, nat_le, List, [], ◌∷◌, codes, Option, Some, None}
use Rattle.std.specs.Char.{is_ascii_digit}
use Rattle.std.specs.List.{list_any, list_all}
use Rattle.std.specs.Option.{option_map}
use Rattle.std.specs.Str.{bytes_eq}
use Rattle.flt_typed.specs.declared.constant.Constant.{Constant}
use Rattle.flt_typing.specs.declared.literal.Family.{Family}
use Rattle.flt_typing.specs.declared.literal.Family.TheVariants.{Ip4, Ip6}
use Rattle.flt_typing.specs.declared.literal.Reading.{Reading}
use Rattle.flt_typing.specs.declared.literal.Reading.TheVariants as readings
use Rattle.pk_fields.specs.declared.value_kind.ValueKind.{ValueKind}
use Rattle.pk_fields.specs.declared.value_kind.ValueKind.TheVariants as kinds
use Rattle.pk_text.specs.Cut.{cut_at}
use Rattle.pk_text.specs.Ether.{ether_of}
use Rattle.pk_text.specs.Ip4.{ip4_of}
use Rattle.pk_text.specs.Ip6.{ip6_of}
use Rattle.pk_text.specs.Number.{number_of}
use Rattle.pk_text.specs.Octets.{bytes_of}
use Rattle.pk_text.specs.Time.{time_of}
use Rattle.pk_text.specs.declared.number.Wide.{Wide}
use Rattle.pk_text.specs.declared.number.Wide.TheVariants as wides
use Rattle.pk_base.specs.declared.value.Value.{Value}
use Rattle.pk_base.specs.declared.value.Value.TheVariants as values

-- a literal that isn't written as a string
abbrev pub plain : Value → Option ℕ → Constant
plain value prefix = record { value = value; prefix = prefix; quoted = false }

-- a string
abbrev pub quoted : Value → Constant
quoted value = record { value = value; prefix = None; quoted = true }

abbrev pub value_read : Option Value → Reading
value_read None = readings.Unread
value_read (Some value) = readings.Reads (plain value None)

-- a number, as far as a width has room for it
abbrev pub number_within : ℕ → Option Wide → Option Wide
number_within width (Some (wides.Fits n)) =
    if nat_lt n (2 ^ width) then Some (wides.Fits n) else Some wides.Beyond
number_within width number = number

abbrev pub number_read : Option Wide → Reading
number_read None = readings.Unread
number_read (Some wides.Beyond) = readings.Beyond
number_read (Some (wides.Fits n)) = readings.Reads (plain (values.Uint n) None)

-- the words for true, and those for false
abbrev pub true_words : List (List ℕ)
true_words = codes "true" ∷ codes "True" ∷ codes "TRUE" ∷ codes "1" ∷ []

abbrev pub false_words : List (List ℕ)
false_words = codes "false" ∷ codes "False" ∷ codes "FALSE" ∷ codes "0" ∷ []

abbrev pub is_one_of : List (List ℕ) → List ℕ → Truth
is_one_of words text = list_any (λ word. bytes_eq text word) words

unfoldable pub truth_of : List ℕ → Option Truth
truth_of text = if is_one_of true_words text then Some true
    else if is_one_of false_words text then Some false else None

-- the number behind the `/` of a prefix: decimal digits without a leading zero
unfoldable pub prefix_of : List ℕ → Option Wide
prefix_of digits = if list_all is_ascii_digit digits then number_of digits else None

-- an address, and a prefix length of at most so many bits
abbrev pub leading_read : ℕ → Option Value → Option Wide → Reading
leading_read most None prefix = readings.Unread
leading_read most (Some address) None = readings.Unread
leading_read most (Some address) (Some wides.Beyond) = readings.Beyond
leading_read most (Some address) (Some (wides.Fits n)) =
    if nat_le n most then readings.Reads (plain address (Some n)) else readings.Beyond

-- the bits of an address, and the address that a text writes
abbrev pub bits_of : Family → ℕ
bits_of Ip4 = 32
bits_of Ip6 = 128

abbrev pub address_of : Family → List ℕ → Option Value
address_of Ip4 text = option_map values.Ip4 (ip4_of text)
address_of Ip6 text = option_map values.Ip6 (ip6_of text)

-- an address, with a prefix length where one is written; it isn't read where none may stand
abbrev pub address_cut : Family → Truth → List ℕ → Option (List ℕ × List ℕ) → Reading
address_cut family prefixed text None = value_read (address_of family text)
address_cut family prefixed text (Some parts) =
    if prefixed then leading_read (bits_of family) (address_of family parts.0) (prefix_of parts.1)
    else readings.Unread

-- 47 is `/`
abbrev pub address_read : Family → Truth → List ℕ → Reading
address_read family prefixed text = address_cut family prefixed text (cut_at 47 text)

abbrev pub ether_value : List ℕ → Option Value
ether_value text = option_map values.Ether (ether_of text)

-- what a word writes as a literal of a kind, which may have a prefix length or not. Text is written as strings alone.
unfoldable pub word_read : Truth → ValueKind → List ℕ → Reading
word_read prefixed (kinds.Uint width) text = number_read (number_within width (number_of text))
word_read prefixed kinds.Bool text = value_read (option_map values.Bool (truth_of text))
word_read prefixed kinds.Bytes text = value_read (option_map values.Bytes (bytes_of text))
word_read prefixed kinds.Text text = readings.Unread
word_read prefixed kinds.Ether text = value_read (ether_value text)
word_read prefixed kinds.Ip4 text = address_read Ip4 prefixed text
word_read prefixed kinds.Ip6 text = address_read Ip6 prefixed text
word_read prefixed kinds.Time text = value_read (option_map values.Time (time_of text))
word_read prefixed kinds.Proto text = value_read (option_map values.Proto (bytes_of text))

-- what a string writes as a literal of a kind
abbrev pub quote_read : ValueKind → List ℕ → Reading
quote_read kinds.Bytes bytes = readings.Reads (quoted (values.Bytes bytes))
quote_read kinds.Text bytes = readings.Reads (quoted (values.Text bytes))
quote_read kinds.Proto bytes = readings.Reads (quoted (values.Proto bytes))
quote_read kind bytes = readings.Unread
