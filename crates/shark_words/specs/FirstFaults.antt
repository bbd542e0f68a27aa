-- What is wrong with words, and which fault is told: the one at the least place such that nothing is wrong with what stands
-- before it.
use Rattle.std.specs.Prelude.{◌≡◌, ◌⊎◌, ◌<◌, ◌↔◌, ℕ, suc, Bool, true, false, max, List, length, take, slice_get, Option, Some, None, Err}
use Rattle.shark_words.specs.Asked.{is_clashing, is_unused, value_of}
use Rattle.shark_words.specs.Faults.{fault, is_given, slot_in}
use Rattle.shark_words.specs.Letters.{has_value, is_same}
use Rattle.shark_words.specs.Options.{is_filtered, options_of, source_of}
use Rattle.shark_words.specs.Uses.{uses_of}
use Rattle.shark_words.specs.Values.{is_value, kind_asked}
use Rattle.shark_words.specs.declared.fault.WordFault.{WordFault}
use Rattle.shark_words.specs.declared.fault.WordReason.TheVariants.{BadValue, Clash, MissingValue, NoFields, NoFile, Repeated, StrayWord, UnknownOption, Unused}
use Rattle.shark_words.specs.declared.letter.Letter.{Letter}
use Rattle.shark_words.specs.declared.letter.Letter.TheVariants.{Kind, Name, Output}
use Rattle.shark_words.specs.declared.options.LineKind.TheVariants.{Fields}
use Rattle.shark_words.specs.declared.options.Source.{Source}
use Rattle.shark_words.specs.declared.slot.Slot.{Slot}
use Rattle.shark_words.specs.declared.uses.Given.{Given}
use Rattle.shark_words.specs.declared.uses.Use.{Use}
use Rattle.shark_words.specs.declared.uses.Use.TheVariants as use_
use Rattle.shark_words.specs.declared.uses.Value.{Value}

-- what an option gives that may come once is given in front of it too
abbrev pub IsTwice : List Use → Use → Type 0
IsTwice front used = (n : ℕ) × (earlier : Use) × (slot : Slot)
    × (slice_get front n ≡ Some earlier) × (slot_in earlier ≡ Some slot)
    × (slot_in used ≡ Some slot)

-- a value is missing, or is none of the option's
abbrev pub IsValueWrong : ℕ → Letter → Option Value → WordFault → Type 0
IsValueWrong word letter None f = (has_value letter ≡ true) × (f ≡ fault word MissingValue)
IsValueWrong word letter (Some value) f =
    (is_value letter value.text ≡ false) × (f ≡ fault value.word BadValue)

-- what is wrong with a use behind others: one that comes twice is told so, whatever its value
abbrev pub IsWrong : List Use → Use → WordFault → Type 0
IsWrong front (use_.Unknown word) f = f ≡ fault word UnknownOption
IsWrong front (use_.Stray word) f = f ≡ fault word StrayWord
IsWrong front (use_.Given given) f =
    (IsTwice front (use_.Given given) × (f ≡ fault given.word Repeated))
    ⊎ ((IsTwice front (use_.Given given) → ⊥)
    × IsValueWrong given.word given.letter given.value f)

-- nothing is wrong with any of them
abbrev pub AreRight : List Use → Type 0
AreRight uses = (n : ℕ) (used : Use) (f : WordFault) → slice_get uses n ≡ Some used
    → IsWrong (take n uses) used f → ⊥

-- something is wrong with one of them, and nothing with those before it alone
abbrev pub IsFirstWrong : List Use → WordFault → Type 0
IsFirstWrong uses f = (n : ℕ) × (used : Use) × (slice_get uses n ≡ Some used)
    × IsWrong (take n uses) used f × AreRight (take n uses)

-- the word of an option whose letter passes a test, where none before it does
abbrev pub IsFirstOf : (Letter → Bool) → List Use → ℕ → Type 0
IsFirstOf test uses word = (n : ℕ) × (given : Given)
    × (slice_get uses n ≡ Some (use_.Given given)) × (test given.letter ≡ true)
    × (given.word ≡ word)
    × ((m : ℕ) (other : Given) → m < n → slice_get uses m ≡ Some (use_.Given other)
    → test other.letter ≡ false)

-- no option's letter does
abbrev pub HasNone : (Letter → Bool) → List Use → Type 0
HasNone test uses = (n : ℕ) (given : Given) → slice_get uses n ≡ Some (use_.Given given)
    → test given.letter ≡ false

-- lines of fields are asked for, and no field
abbrev pub IsWithoutFields : List Use → Type 0
IsWithoutFields uses =
    (kind_asked (value_of Kind uses) ≡ Fields) × (is_given Name uses ≡ false)

-- an option has no effect
abbrev pub is_idle : List Use → Letter → Bool
is_idle uses letter =
    is_unused (kind_asked (value_of Kind uses)) (is_given Output uses) (is_filtered uses) letter

-- what is wrong with uses together, where nothing is with each: fields are missing; else an option has no effect; else one
-- stands beside `-w` that can't
abbrev pub IsWrongTogether : ℕ → List Use → WordFault → Type 0
IsWrongTogether behind uses f = (IsWithoutFields uses × (f ≡ fault behind NoFields))
    ⊎ ((IsWithoutFields uses → ⊥)
    × (((word : ℕ) × IsFirstOf (is_idle uses) uses word × (f ≡ fault word Unused))
    ⊎ (HasNone (is_idle uses) uses
    × ((one other : ℕ) × IsFirstOf (is_same Output) uses one × IsFirstOf is_clashing uses other
    × (f ≡ fault (max one other) Clash)))))

-- there is no capture, or something is wrong with them together
abbrev pub IsWrongInAll : ℕ → List Use → WordFault → Type 0
IsWrongInAll behind uses f = ((source_of uses ≡ None) × (f ≡ fault behind NoFile))
    ⊎ ((source : Source) × (source_of uses ≡ Some source) × IsWrongTogether behind uses f)

-- the fault of words: the first that is wrong by what stands before it, or else what is wrong in all, which is told
-- behind the last word where something is missing
abbrev pub IsFaultOf : List (List ℕ) → WordFault → Type 0
IsFaultOf words f = IsFirstWrong (uses_of words) f
    ⊎ (AreRight (uses_of words) × IsWrongInAll (suc (length words)) (uses_of words) f)

-- what is computed is that fault
abbrev pub FaultsAreFirst : Type 0
FaultsAreFirst = (words : List (List ℕ)) (f : WordFault)
    → (options_of words ≡ Err f) ↔ IsFaultOf words f
