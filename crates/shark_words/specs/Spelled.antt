-- Options as they are written: clusters of letters, with values in the same word or the next, `--self-run` with its value
-- in the next, and `--filter-stats`.
use Rattle.std.specs.Prelude.{◌≡◌, ℕ, ◌+◌, ◌≤◌, nat_lt, Bool, true, false, not, ◌&&◌, length, map, List, [], ◌∷◌, ◌++◌, Option, Some, None, is_some, option_and_then, option_to_list, if◌then◌else◌}
use Rattle.std.specs.List.{list_all, list_any}
use Rattle.shark_words.specs.declared.letter.Letter.{Letter}
use Rattle.shark_words.specs.declared.letter.Letter.TheVariants.{Capture, Filter, Two, Kind, Name, Style, Most, Quiet, Decode, Report, Output, Format, SelfRun, FilterStats}
use Rattle.shark_words.specs.declared.slot.Slot.{Slot}
use Rattle.shark_words.specs.declared.options.LineKind.{LineKind}
use Rattle.shark_words.specs.declared.options.LineKind.TheVariants.{Text, Fields, Json}
use Rattle.shark_words.specs.declared.options.Source.{Source}
use Rattle.shark_words.specs.declared.options.Options.{Options}
use Rattle.shark_words.specs.Letters.{letter_byte, is_same, has_letter, has_value}
use Rattle.shark_words.specs.Slots.{slot_of, is_slot}
use Rattle.shark_words.specs.Ports.{rules_in}
use Rattle.shark_words.specs.Reports.{reports_in}
use Rattle.shark_words.specs.Values.{is_value, count_of, kind_asked, shown_filter}
use Rattle.shark_words.specs.Options.{format_written, source_by}
use Rattle.shark_words.specs.Uses.{self_run_name, filter_stats_name}
use Rattle.shark_words.specs.Asked.{head_of, style_of}

-- how a cluster ends: `q`; `c2`, where the value has a first byte; `c`, where the value is the next word
pub data End : Type 0 where
  Bare : End
  Together : Letter → ℕ → List ℕ → End
  Apart : Letter → List ℕ → End

-- a cluster: letters without a value, then its end
pub record Cluster : Type 0 where
  pub flags : List Letter
  pub end : End

-- one or two words
pub data Spelled : Type 0 where
  Clustered : Cluster → Spelled
  Generate : List ℕ → Spelled
  Stats : Spelled

abbrev pub end_letters : End → List ℕ
end_letters Bare = []
end_letters (Together letter first rest) = letter_byte letter ∷ first ∷ rest
end_letters (Apart letter text) = letter_byte letter ∷ []

abbrev pub end_words : End → List (List ℕ)
end_words Bare = []
end_words (Together letter first rest) = []
end_words (Apart letter text) = text ∷ []

abbrev pub letters_of : Cluster → List ℕ
letters_of one = map letter_byte one.flags ++ end_letters one.end

-- the words; 45 is `-`
abbrev pub spelled_words : List Spelled → List (List ℕ)
spelled_words [] = []
spelled_words (Clustered one ∷ more) =
    (45 ∷ letters_of one) ∷ (end_words one.end ++ spelled_words more)
spelled_words (Generate text ∷ more) = (45 ∷ self_run_name) ∷ text ∷ spelled_words more
spelled_words (Stats ∷ more) = (45 ∷ filter_stats_name) ∷ spelled_words more

-- a cluster has a letter; its end alone has a value
abbrev pub is_flag : Letter → Bool
is_flag letter = has_letter letter && not (has_value letter)

abbrev pub is_ended_by : Letter → Bool
is_ended_by letter = has_letter letter && has_value letter

abbrev pub is_end : End → Bool
is_end Bare = true
is_end (Together letter first rest) = is_ended_by letter
is_end (Apart letter text) = is_ended_by letter

abbrev pub is_cluster : Cluster → Bool
is_cluster one =
    list_all is_flag one.flags && (is_end one.end && nat_lt 0 (length (letters_of one)))

abbrev pub is_spelled : Spelled → Bool
is_spelled (Clustered one) = is_cluster one
is_spelled (Generate text) = true
is_spelled Stats = true

-- an option that is given, with its value, if it has one
pub record Written : Type 0 where
  pub letter : Letter
  pub text : Option (List ℕ)

abbrev pub flag : Letter → Written
flag letter = record { letter = letter; text = None }

abbrev pub valued : Letter → List ℕ → Written
valued letter text = record { letter = letter; text = Some text }

abbrev pub end_written : End → List Written
end_written Bare = []
end_written (Together letter first rest) = valued letter (first ∷ rest) ∷ []
end_written (Apart letter text) = valued letter text ∷ []

abbrev pub written_by : List Spelled → List Written
written_by [] = []
written_by (Clustered one ∷ more) = map flag one.flags ++ (end_written one.end ++ written_by more)
written_by (Generate text ∷ more) = valued SelfRun text ∷ written_by more
written_by (Stats ∷ more) = flag FilterStats ∷ written_by more

-- whether an option's value is one of its own
abbrev pub fits_text : Letter → Option (List ℕ) → Bool
fits_text letter None = not (has_value letter)
fits_text letter (Some text) = is_value letter text

abbrev pub fits : Written → Bool
fits one = fits_text one.letter one.text

-- how often what may come once is given
abbrev pub text_or_none : Option (List ℕ) → List ℕ
text_or_none None = []
text_or_none (Some text) = text

abbrev pub one_if : Bool → ℕ
one_if true = 1
one_if false = 0

abbrev pub times : Slot → List Written → ℕ
times slot [] = 0
times slot (one ∷ more) =
    one_if (is_slot slot (slot_of one.letter (text_or_none one.text))) + times slot more

-- the values of one option
abbrev pub values_in : Letter → List Written → List (List ℕ)
values_in letter [] = []
values_in letter (one ∷ more) =
    (if is_same letter one.letter then option_to_list one.text else []) ++ values_in letter more

abbrev pub spelled_values : Letter → List Spelled → List (List ℕ)
spelled_values letter all = values_in letter (written_by all)

-- whether an option is written
abbrev pub is_written : Letter → List Written → Bool
is_written letter all = list_any (λ one. is_same letter one.letter) all

-- columns are named for the lines of fields, and for no others
abbrev pub HasColumns : LineKind → List Written → Type 0
HasColumns Fields all = is_written Name all ≡ true
HasColumns Text all = (is_written Name all ≡ false) × (is_written Style all ≡ false)
HasColumns Json all = (is_written Name all ≡ false) × (is_written Style all ≡ false)

abbrev pub kind_by : List Spelled → LineKind
kind_by all = kind_asked (head_of (spelled_values Kind all))

-- where no capture is written it has no format, and where one is, it comes from a file and nothing is asked for beside it
abbrev pub HasOutput : Bool → List Written → Type 0
HasOutput false all = is_written Format all ≡ false
HasOutput true all = (is_written Kind all ≡ false) × (is_written Quiet all ≡ false)
    × (is_written Report all ≡ false) × (is_written SelfRun all ≡ false)
    × (is_written FilterStats all ≡ false)

-- statistics of a filter are asked for only where there is one
abbrev pub IsFiltered : Bool → List Written → Type 0
IsFiltered true all = Unit {0}
IsFiltered false all = is_written FilterStats all ≡ false

abbrev pub filter_by : List Spelled → Option (List ℕ)
filter_by all = shown_filter (head_of (spelled_values Filter all))

-- where the frames come from
abbrev pub spelled_source : List Spelled → Option Source
spelled_source all =
    source_by (head_of (spelled_values Capture all)) (head_of (spelled_values SelfRun all))

-- a command line with this source: each value is one of its option's, nothing comes twice that may come once, there is a
-- capture, the columns are those of the kind of line, nothing stands beside a capture that is written, and there is a filter
-- where its statistics are asked for
pub record IsCommand (source : Source) (all : List Spelled) : Type 0 where
  pub spelled : list_all is_spelled all ≡ true
  pub values : list_all fits (written_by all) ≡ true
  pub once : (slot : Slot) → times slot (written_by all) ≤ 1
  pub captured : spelled_source all ≡ Some source
  pub columns : HasColumns (kind_by all) (written_by all)
  pub output : HasOutput (is_written Output (written_by all)) (written_by all)
  pub filtered : IsFiltered (is_some (filter_by all)) (written_by all)

-- what it asks for
abbrev pub asked_by : Source → List Spelled → Options
asked_by source all = record {
  source = source;
  filter = filter_by all;
  two = is_written Two (written_by all);
  kind = kind_by all;
  names = spelled_values Name all;
  style = style_of (spelled_values Style all);
  most = option_and_then count_of (head_of (spelled_values Most all));
  quiet = is_written Quiet (written_by all);
  decode = record { rules = rules_in (spelled_values Decode all) };
  reports = reports_in (spelled_values Report all);
  stats = is_written FilterStats (written_by all);
  written =
      format_written (is_written Output (written_by all)) (head_of (spelled_values Format all));
}

-- such options, and no others, are asked for
abbrev pub IsAsked : List (List ℕ) → Options → Type 0
IsAsked words options =
    (all : List Spelled) × (source : Source) × (words ≡ spelled_words all) × IsCommand source all
    × (options ≡ asked_by source all)
