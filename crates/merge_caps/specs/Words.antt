-- The words of merging: `-F FORMAT` once at most, and the names of 1 to 16 files, in any order.
use Rattle.std.specs.Prelude.{◌≡◌, ℕ, suc, ◌==◌, nat_lt, Bool, true, false, List, [], ◌∷◌, ◌++◌, length, Option, Some, None, is_some, Result, Ok, Err, if◌then◌else◌}
use Rattle.capture_write.specs.declared.format.Format.{Format}
use Rattle.capture_write.specs.declared.format.Format.TheVariants.{Pcapng}
use Rattle.shark_words.specs.declared.fault.WordFault.{WordFault}
use Rattle.shark_words.specs.declared.fault.WordReason.TheVariants.{UnknownOption, MissingValue, StrayWord, NoFile, Repeated, BadValue}
use Rattle.shark_words.specs.declared.fault.WordsError.{WordsError}
use Rattle.shark_words.specs.declared.fault.WordsError.TheVariants as error
use Rattle.shark_words.specs.Faults.{fault}
use Rattle.shark_words.specs.Values.{format_of}
use Rattle.merge_caps.specs.declared.words.Heard.{Heard as HeardValue}
use Rattle.merge_caps.specs.declared.words.Wanted.{Wanted as WantedValue}

-- what the words ask for
pub record Wanted : Type 0 where
  pub format : Format
  pub names : List (List ℕ)

-- what the words so far ask for; `waiting` where the last is `-F` and the next its value
pub record Heard : Type 0 where
  pub waiting : Bool
  pub format : Option Format
  pub names : List (List ℕ)

abbrev pub nothing_heard : Heard
nothing_heard = record { waiting = false; format = None; names = [] }

abbrev pub most_names : ℕ
most_names = 16

-- the value of `-F`, in the word of this number
abbrev pub with_format : ℕ → Heard → Option Format → Result Heard WordFault
with_format word heard None = Err (fault word BadValue)
with_format word heard (Some format) =
    Ok (record { waiting = false; format = Some format; names = heard.names })

-- the value is what is left of the word of `-F`, or the next word where nothing is left
abbrev pub with_rest : ℕ → Heard → List ℕ → Result Heard WordFault
with_rest word heard [] = Ok (record { waiting = true; format = heard.format; names = heard.names })
with_rest word heard (b ∷ rest) = with_format word heard (format_of (b ∷ rest))

-- `-F`, which may come once
abbrev pub with_option : ℕ → Heard → List ℕ → Result Heard WordFault
with_option word heard rest =
    if is_some heard.format then Err (fault word Repeated) else with_rest word heard rest

-- a word that begins with `-`, by its letters; 70 is `F`
abbrev pub with_letters : ℕ → Heard → List ℕ → Result Heard WordFault
with_letters word heard [] = Err (fault word StrayWord)
with_letters word heard (letter ∷ rest) =
    if letter == 70 then with_option word heard rest else Err (fault word UnknownOption)

abbrev pub is_empty : List ℕ → Bool
is_empty [] = true
is_empty (b ∷ rest) = false

-- the name of a file
abbrev pub with_name : ℕ → Heard → List ℕ → Result Heard WordFault
with_name word heard name =
    if nat_lt (length heard.names) most_names then
    (if is_empty name then Err (fault word BadValue)
    else Ok (record {
      waiting = heard.waiting;
      format = heard.format;
      names = heard.names ++ name ∷ [];
    }))
    else Err (fault word StrayWord)

-- a word that isn't a value; 45 is `-`
abbrev pub with_use : ℕ → Heard → List ℕ → Result Heard WordFault
with_use word heard [] = with_name word heard []
with_use word heard (first ∷ rest) =
    if first == 45 then with_letters word heard rest else with_name word heard (first ∷ rest)

-- one word more, by its number
abbrev pub with_word : ℕ → Heard → List ℕ → Result Heard WordFault
with_word word heard text =
    if heard.waiting then with_format word heard (format_of text) else with_use word heard text

-- the words that follow so many others, as far as the first that is refused
abbrev pub then_words : (Heard → Result Heard WordFault) → Result Heard WordFault
    → Result Heard WordFault
then_words more (Ok heard) = more heard
then_words more (Err fault) = Err fault

unfoldable pub heard_from : ℕ → Heard → List (List ℕ) → Result Heard WordFault
heard_from before heard [] = Ok heard
heard_from before heard (text ∷ texts) =
    then_words (λ next. heard_from (suc before) next texts) (with_word (suc before) heard text)

-- at the end, behind so many words, a value or all names may be missing; the format is pcapng where none is named
abbrev pub format_or_default : Option Format → Format
format_or_default None = Pcapng
format_or_default (Some format) = format

abbrev pub wanted_at_end : ℕ → Heard → Result Wanted WordFault
wanted_at_end last heard =
    if heard.waiting then Err (fault last MissingValue)
    else if nat_lt 0 (length heard.names)
    then Ok (record { format = format_or_default heard.format; names = heard.names })
    else Err (fault (suc last) NoFile)

abbrev pub ended_words : ℕ → Result Heard WordFault → Result Wanted WordFault
ended_words last (Ok heard) = wanted_at_end last heard
ended_words last (Err fault) = Err fault

unfoldable pub wanted_of : List (List ℕ) → Result Wanted WordFault
wanted_of words = ended_words (length words) (heard_from 0 nothing_heard words)

-- how the program keeps them
abbrev pub heard : HeardValue → Heard
heard value = record { waiting = value.waiting; format = value.format; names = value.names.items }

abbrev pub wanted : WantedValue → Wanted
wanted value = record { format = value.format; names = value.names.items }

-- an answer is what is heard, or the fault, or had no memory
abbrev pub Hears : {A : Type 0} → Result A WordsError → Heard → Result Heard WordFault → Type 0
Hears (Ok a) now expected = expected ≡ Ok now
Hears (Err (error.Fault first)) now expected = expected ≡ Err first
Hears (Err error.NoMemory) now expected = Unit {0}

abbrev pub Wants : Result WantedValue WordsError → Result Wanted WordFault → Type 0
Wants (Ok value) expected = expected ≡ Ok (wanted value)
Wants (Err (error.Fault first)) expected = expected ≡ Err first
Wants (Err error.NoMemory) expected = Unit {0}
