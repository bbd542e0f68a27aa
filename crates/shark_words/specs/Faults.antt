-- What is wrong with words.
use Rattle.std.specs.Prelude.{ℕ, Bool, false, List, [], ◌∷◌, Option, Some, None, if◌then◌else◌}
use Rattle.std.specs.List.{list_any}
use Rattle.std.specs.Option.{option_or}
use Rattle.shark_words.specs.declared.letter.Letter.{Letter}
use Rattle.shark_words.specs.declared.slot.Slot.{Slot}
use Rattle.shark_words.specs.declared.uses.Value.{Value}
use Rattle.shark_words.specs.declared.uses.Given.{Given}
use Rattle.shark_words.specs.declared.uses.Use.{Use}
use Rattle.shark_words.specs.declared.uses.Use.TheVariants as use_
use Rattle.shark_words.specs.declared.fault.WordFault.{WordFault}
use Rattle.shark_words.specs.declared.fault.WordReason.{WordReason}
use Rattle.shark_words.specs.declared.fault.WordReason.TheVariants.{UnknownOption, MissingValue, StrayWord, Repeated, BadValue}
use Rattle.shark_words.specs.Letters.{is_same, has_value}
use Rattle.shark_words.specs.Slots.{slot_of, is_taken, with_slot}
use Rattle.shark_words.specs.Values.{is_value}

abbrev pub fault : ℕ → WordReason → WordFault
fault word reason = record { word = word; reason = reason }

-- whether an option is given
abbrev pub is_use_of : Letter → Use → Bool
is_use_of letter (use_.Given given) = is_same letter given.letter
is_use_of letter other = false

abbrev pub is_given : Letter → List Use → Bool
is_given letter uses = list_any (is_use_of letter) uses

-- what a use gives that may come once
abbrev pub text_in : Option Value → List ℕ
text_in None = []
text_in (Some value) = value.text

abbrev pub slot_in : Use → Option Slot
slot_in (use_.Given given) = slot_of given.letter (text_in given.value)
slot_in other = None

-- what is wrong with an option's value
abbrev pub value_fault : ℕ → Letter → Option Value → Option WordFault
value_fault word letter None = if has_value letter then Some (fault word MissingValue) else None
value_fault word letter (Some value) =
    if is_value letter value.text then None else Some (fault value.word BadValue)

-- what is wrong with an option, given what came before it
abbrev pub given_fault : List Slot → Given → Option WordFault
given_fault held given =
    if is_taken (slot_of given.letter (text_in given.value)) held
    then Some (fault given.word Repeated)
    else value_fault given.word given.letter given.value

-- what is wrong with a use, given what came before it
abbrev pub fault_of : List Slot → Use → Option WordFault
fault_of held (use_.Unknown word) = Some (fault word UnknownOption)
fault_of held (use_.Stray word) = Some (fault word StrayWord)
fault_of held (use_.Given given) = given_fault held given

-- the first fault of uses, behind others that gave this
unfoldable pub first_fault : List Slot → List Use → Option WordFault
first_fault held [] = None
first_fault held (used ∷ uses) =
    option_or (fault_of held used) (first_fault (with_slot (slot_in used) held) uses)
