-- The options, by their letters.
use Rattle.std.specs.Prelude.{ℕ, ◌==◌, Bool, true, false, Option, Some, None, if◌then◌else◌}
use Rattle.shark_words.specs.declared.letter.Letter.{Letter}
use Rattle.shark_words.specs.declared.letter.Letter.TheVariants.{Capture, Filter, Two, Kind, Name, Style, Most, Quiet, Decode, Report, Output, Format, SelfRun, FilterStats}

-- the bytes of the letters `r`, `Y`, `2`, `T`, `e`, `E`, `c`, `q`, `d`, `z`, `w`, `F`; `--self-run` and `--filter-stats`
-- have no letters, and numbers beyond the bytes
abbrev pub letter_byte : Letter → ℕ
letter_byte Capture = 114
letter_byte Filter = 89
letter_byte Two = 50
letter_byte Kind = 84
letter_byte Name = 101
letter_byte Style = 69
letter_byte Most = 99
letter_byte Quiet = 113
letter_byte Decode = 100
letter_byte Report = 122
letter_byte Output = 119
letter_byte Format = 70
letter_byte SelfRun = 256
letter_byte FilterStats = 257

-- the option of a byte
abbrev pub letter_of : ℕ → Option Letter
letter_of b =
    if b == letter_byte Capture then Some Capture
    else if b == letter_byte Filter then Some Filter
    else if b == letter_byte Two then Some Two
    else if b == letter_byte Kind then Some Kind
    else if b == letter_byte Name then Some Name
    else if b == letter_byte Style then Some Style
    else if b == letter_byte Most then Some Most
    else if b == letter_byte Quiet then Some Quiet
    else if b == letter_byte Decode then Some Decode
    else if b == letter_byte Report then Some Report
    else if b == letter_byte Output then Some Output
    else if b == letter_byte Format then Some Format
    else None

abbrev pub is_same : Letter → Letter → Bool
is_same one other = letter_byte one == letter_byte other

-- whether an option has a letter
abbrev pub has_letter : Letter → Bool
has_letter SelfRun = false
has_letter FilterStats = false
has_letter letter = true

-- whether a value belongs to an option
abbrev pub has_value : Letter → Bool
has_value Two = false
has_value Quiet = false
has_value FilterStats = false
has_value letter = true
