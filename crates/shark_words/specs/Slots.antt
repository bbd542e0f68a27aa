-- What no two options of a command line may both give.
use Rattle.std.specs.Prelude.{ℕ, Bool, false, List, ◌∷◌, [], ◌++◌, Option, Some, None, option_map}
use Rattle.std.specs.List.{list_any}
use Rattle.shark_words.specs.declared.letter.Letter.{Letter}
use Rattle.shark_words.specs.declared.letter.Letter.TheVariants.{Capture, Name, Style, Decode, Report, SelfRun}
use Rattle.shark_words.specs.declared.slot.Slot.{Slot}
use Rattle.shark_words.specs.declared.slot.Slot.TheVariants as slots
use Rattle.shark_words.specs.Letters.{is_same}
use Rattle.shark_words.specs.Keys.{key_of, is_same_key}
use Rattle.shark_words.specs.Ports.{port_in, is_same_port}

-- what an option with this value gives, where it may come once: `-e` and `-z` may come again and again, `-E` once with each
-- key, `-d` once with each port of one transport, and `-r` and `--self-run` both give the capture
abbrev pub slot_of : Letter → List ℕ → Option Slot
slot_of Name text = None
slot_of Report text = None
slot_of Style text = option_map slots.Key (key_of text)
slot_of Decode text = option_map slots.Port (port_in text)
slot_of SelfRun text = Some (slots.Letter Capture)
slot_of letter text = Some (slots.Letter letter)

abbrev pub is_same_slot : Slot → Slot → Bool
is_same_slot (slots.Letter one) (slots.Letter other) = is_same one other
is_same_slot (slots.Key one) (slots.Key other) = is_same_key one other
is_same_slot (slots.Port one) (slots.Port other) = is_same_port one other
is_same_slot one other = false

-- whether this is given
abbrev pub is_slot : Slot → Option Slot → Bool
is_slot slot None = false
is_slot slot (Some other) = is_same_slot slot other

-- whether it is among what was given before
abbrev pub is_held : Slot → List Slot → Bool
is_held slot held = list_any (is_same_slot slot) held

abbrev pub is_taken : Option Slot → List Slot → Bool
is_taken None held = false
is_taken (Some slot) held = is_held slot held

-- what was given, with one thing more
abbrev pub with_slot : Option Slot → List Slot → List Slot
with_slot None held = held
with_slot (Some slot) held = held ++ slot ∷ []
