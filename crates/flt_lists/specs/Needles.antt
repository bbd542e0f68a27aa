-- Texts that are looked for in others, ordered by their length first. Each is the key of its bytes, with their number as its amount.
use Rattle.std.specs.Prelude.{◌≡◌, ℕ, pos, not, nat_eq, Bool as Truth, false, List, length, Option}
use Rattle.std.specs.List.{list_any, filter_map}
use Rattle.std.specs.List.Sorted.{IsSorted}
use Rattle.std.specs.Option.{option_map, option_map_or}
use Rattle.flt_lists.specs.Keys.{KeyShown, key_shown, order_of_keys}
use Rattle.flt_lists.specs.declared.keys.Key.{Key}
use Rattle.flt_typed.specs.Contains.{contains}
use Rattle.flt_typed.specs.Relations.{octets_of}
use Rattle.pk_base.specs.declared.value.Value.{Value}

abbrev pub needle_of : List ℕ → KeyShown
needle_of bytes = record { amount = length bytes; octets = bytes; moment = pos 0 }

abbrev pub needle_in : Value → Option KeyShown
needle_in v = option_map needle_of (octets_of v)

-- the bytes of the values that have some
abbrev pub texts_of : List Value → List (List ℕ)
texts_of vs = filter_map octets_of vs

-- whether the bytes of a value have a text in them
abbrev pub has_text : Value → List ℕ → Truth
has_text v text = option_map_or (λ bytes. contains bytes text) (octets_of v) false

-- keys in order that are those of texts, in whatever order these stand
pub record AreNeedles (texts : List (List ℕ)) (keys : List Key) : Type 0 where
  pub sorted : IsSorted order_of_keys keys
  pub same : (test : KeyShown → Truth) → list_any (λ k. test (key_shown k)) keys ≡ list_any (λ t. test (needle_of t)) texts

abbrev pub has_length : List ℕ → KeyShown → Truth
has_length lengths k = list_any (λ n. nat_eq n (length k.octets)) lengths

-- each key's length is among some
abbrev pub AreLengths : List Key → List ℕ → Type 0
AreLengths keys lengths = list_any (λ k. not (has_length lengths (key_shown k))) keys ≡ false
