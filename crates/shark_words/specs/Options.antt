-- What a list of words asks for, or the first reason to refuse it.
use Rattle.std.specs.Prelude.{◌≡◌, ℕ, suc, Bool, List, [], length, Option, Some, None, is_some, option_and_then, option_map, Result, Ok, Err, if◌then◌else◌}
use Rattle.std.specs.Option.{option_or}
use Rattle.capture_write.specs.declared.format.Format.{Format as CaptureFormat}
use Rattle.shark_words.specs.declared.letter.Letter.TheVariants.{Capture, Filter, Two, Kind, Name, Style, Most, Quiet, Decode, Report, Output, Format, SelfRun, FilterStats}
use Rattle.shark_words.specs.declared.uses.Use.{Use}
use Rattle.shark_words.specs.declared.fault.WordFault.{WordFault}
use Rattle.shark_words.specs.declared.fault.WordReason.TheVariants.{NoFile, NoFields, Unused, Clash}
use Rattle.shark_words.specs.declared.fault.WordsError.{WordsError}
use Rattle.shark_words.specs.declared.fault.WordsError.TheVariants as error
use Rattle.shark_words.specs.declared.options.LineKind.{LineKind}
use Rattle.shark_words.specs.declared.options.LineKind.TheVariants.{Text, Fields, Json}
use Rattle.shark_words.specs.declared.options.Source.{Source}
use Rattle.shark_words.specs.declared.options.Source.TheVariants.{Named}
use Rattle.shark_words.specs.declared.options.Options.{Options}
use Rattle.shark_words.specs.Asked.{clash_word, is_unused, style_of, value_of, values_of, word_of}
use Rattle.shark_words.specs.Uses.{uses_of}
use Rattle.shark_words.specs.Faults.{fault, is_given, first_fault}
use Rattle.shark_words.specs.Ports.{rules_in}
use Rattle.shark_words.specs.Reports.{reports_in}
use Rattle.shark_words.specs.Values.{count_of, format_asked, generated_by, kind_asked, shown_filter}

-- where the frames come from: a file or a generated capture
abbrev pub source_by : Option (List ℕ) → Option (List ℕ) → Option Source
source_by name numbers = option_or (option_map Named name) (option_and_then generated_by numbers)

unfoldable pub source_of : List Use → Option Source
source_of uses = source_by (value_of Capture uses) (value_of SelfRun uses)

-- the format of the capture that is written, where `-w` is given
abbrev pub format_written : Bool → Option (List ℕ) → Option CaptureFormat
format_written given value = if given then Some (format_asked value) else None

-- the options of words without a fault
abbrev pub options_by : Source → List Use → Options
options_by source uses = record {
  source = source;
  filter = shown_filter (value_of Filter uses);
  two = is_given Two uses;
  kind = kind_asked (value_of Kind uses);
  names = values_of Name uses;
  style = style_of (values_of Style uses);
  most = option_and_then count_of (value_of Most uses);
  quiet = is_given Quiet uses;
  decode = record { rules = rules_in (values_of Decode uses) };
  reports = reports_in (values_of Report uses);
  stats = is_given FilterStats uses;
  written = format_written (is_given Output uses) (value_of Format uses);
}

-- the lines of fields need a name; `behind` is one above the number of the last word
abbrev pub fields_fault : ℕ → List Use → LineKind → Option WordFault
fields_fault behind uses Fields = if is_given Name uses then None else Some (fault behind NoFields)
fields_fault behind uses Text = None
fields_fault behind uses Json = None

-- whether there is a filter
abbrev pub is_filtered : List Use → Bool
is_filtered uses = is_some (shown_filter (value_of Filter uses))

-- the first option that has no effect
abbrev pub unused_fault : List Use → LineKind → Option WordFault
unused_fault uses kind =
    option_map (λ word. fault word Unused)
    (word_of (is_unused kind (is_given Output uses) (is_filtered uses)) uses)

-- the first option that makes a clash
abbrev pub clash_fault : List Use → Option WordFault
clash_fault uses = option_map (λ word. fault word Clash) (clash_word uses)

-- what is wrong with options together
unfoldable pub together_fault : ℕ → List Use → LineKind → Option WordFault
together_fault behind uses kind =
    option_or (fields_fault behind uses kind)
    (option_or (unused_fault uses kind) (clash_fault uses))

abbrev pub unless : Option WordFault → Options → Result Options WordFault
unless None options = Ok options
unless (Some first) options = Err first

-- what is missing in all, then what is of no use, then what can't stand together
abbrev pub asked : ℕ → List Use → Option Source → Result Options WordFault
asked behind uses None = Err (fault behind NoFile)
asked behind uses (Some source) =
    unless (together_fault behind uses (kind_asked (value_of Kind uses))) (options_by source uses)

-- first the faults word by word
abbrev pub judged : ℕ → List Use → Option WordFault → Result Options WordFault
judged behind uses (Some first) = Err first
judged behind uses None = asked behind uses (source_of uses)

unfoldable pub options_of : List (List ℕ) → Result Options WordFault
options_of words = judged (suc (length words)) (uses_of words) (first_fault [] (uses_of words))

-- an answer is the options of the words, or their first fault, or had no memory
abbrev pub Gives : Result Options WordsError → Result Options WordFault → Type 0
Gives (Ok options) expected = expected ≡ Ok options
Gives (Err (error.Fault first)) expected = expected ≡ Err first
Gives (Err error.NoMemory) expected = Unit {0}
