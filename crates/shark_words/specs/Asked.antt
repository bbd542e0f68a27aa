-- Options that are looked up among the uses of words.
use Rattle.std.specs.Prelude.{ℕ, Bool, true, false, not, max, List, [], ◌∷◌, ◌++◌, Option, Some, None, option_and_then, if◌then◌else◌}
use Rattle.std.specs.Option.{option_or, unwrap_or}
use Rattle.out_lines.specs.declared.style.Occurrence.TheVariants as occurrences
use Rattle.out_lines.specs.declared.style.Quote.TheVariants as quotes
use Rattle.out_lines.specs.declared.style.Style.{Style}
use Rattle.shark_words.specs.declared.asked.Sought.{Sought}
use Rattle.shark_words.specs.declared.asked.Sought.TheVariants as sought
use Rattle.shark_words.specs.declared.key.Key.{Key}
use Rattle.shark_words.specs.declared.key.Key.TheVariants.{Header, Separator, Aggregator, Occurrence as OccurrenceKey, Quote as QuoteKey}
use Rattle.shark_words.specs.declared.letter.Letter.{Letter}
use Rattle.shark_words.specs.declared.letter.Letter.TheVariants.{Kind, Name, Style as StyleLetter, Quiet, Report, Output, Format, SelfRun, FilterStats}
use Rattle.shark_words.specs.declared.options.LineKind.{LineKind}
use Rattle.shark_words.specs.declared.options.LineKind.TheVariants.{Text, Fields, Json}
use Rattle.shark_words.specs.declared.uses.Value.{Value}
use Rattle.shark_words.specs.declared.uses.Use.{Use}
use Rattle.shark_words.specs.declared.uses.Use.TheVariants as use_
use Rattle.shark_words.specs.Keys.{behind_key, character_of, header_of, occurrence_of, quote_of}
use Rattle.shark_words.specs.Letters.{is_same}

-- the values of an option, in the order of the words
abbrev pub value_text : Option Value → List (List ℕ)
value_text None = []
value_text (Some value) = value.text ∷ []

abbrev pub value_in : Letter → Use → List (List ℕ)
value_in letter (use_.Given given) =
    if is_same letter given.letter then value_text given.value else []
value_in letter other = []

abbrev pub values_of : Letter → List Use → List (List ℕ)
values_of letter [] = []
values_of letter (used ∷ uses) = value_in letter used ++ values_of letter uses

-- the first of them
abbrev pub head_of : List (List ℕ) → Option (List ℕ)
head_of [] = None
head_of (text ∷ texts) = Some text

abbrev pub value_of : Letter → List Use → Option (List ℕ)
value_of letter uses = head_of (values_of letter uses)

-- what the values of `-E` set a key to
abbrev pub keyed : Key → List (List ℕ) → Option (List ℕ)
keyed key [] = None
keyed key (text ∷ texts) = option_or (behind_key key text) (keyed key texts)

-- how the lines of fields are written; where nothing is set there is no header line, a tab, 9, between columns, all values of a field,
-- a comma, 44, between them, and no quotes
abbrev pub style_of : List (List ℕ) → Style
style_of texts = record {
  header = unwrap_or (option_and_then header_of (keyed Header texts)) false;
  separator = unwrap_or (option_and_then character_of (keyed Separator texts)) 9;
  occurrence =
      unwrap_or (option_and_then occurrence_of (keyed OccurrenceKey texts)) occurrences.All;
  aggregator = unwrap_or (option_and_then character_of (keyed Aggregator texts)) 44;
  quote = unwrap_or (option_and_then quote_of (keyed QuoteKey texts)) quotes.None;
}

-- whether lines have columns
abbrev pub has_columns : LineKind → Bool
has_columns Fields = true
has_columns Text = false
has_columns Json = false

-- whether an option has no effect: `-e` and `-E` are for the lines of fields alone, `-F` for a capture that is written,
-- `--filter-stats` for a filter
abbrev pub is_unused : LineKind → Bool → Bool → Letter → Bool
is_unused kind written filtered Name = not (has_columns kind)
is_unused kind written filtered StyleLetter = not (has_columns kind)
is_unused kind written filtered Format = not written
is_unused kind written filtered FilterStats = not filtered
is_unused kind written filtered letter = false

-- whether an option can't stand beside `-w`
abbrev pub is_clashing : Letter → Bool
is_clashing Kind = true
is_clashing Quiet = true
is_clashing Report = true
is_clashing SelfRun = true
is_clashing FilterStats = true
is_clashing letter = false

-- whether an option is looked for
abbrev pub is_sought : Sought → Letter → Bool
is_sought sought.Output letter = is_same Output letter
is_sought sought.Clashing letter = is_clashing letter
is_sought (sought.Unused kind written filtered) letter = is_unused kind written filtered letter

abbrev pub word_in : (Letter → Bool) → Use → Option ℕ
word_in test (use_.Given given) = if test given.letter then Some given.word else None
word_in test other = None

-- the word of the first option that passes a test
abbrev pub word_of : (Letter → Bool) → List Use → Option ℕ
word_of test [] = None
word_of test (used ∷ uses) = option_or (word_in test used) (word_of test uses)

-- the word up to which two both stand
abbrev pub later : Option ℕ → Option ℕ → Option ℕ
later (Some one) (Some other) = Some (max one other)
later one other = None

-- the first word up to which `-w` stands and an option that can't stand beside it
abbrev pub clash_word : List Use → Option ℕ
clash_word uses = later (word_of (is_same Output) uses) (word_of is_clashing uses)
