-- What an option's value may be.
use Rattle.std.specs.Prelude.{ℕ, suc, ◌==◌, ◌^◌, ◌-◌, nat_lt, Bool, true, false, ◌||◌, List, length, take, drop, codes, Option, Some, None, is_some, option_and_then, if◌then◌else◌}
use Rattle.std.specs.List.{list_all}
use Rattle.std.specs.Option.{unwrap_or}
use Rattle.std.specs.Str.{bytes_eq}
use Rattle.capture_write.specs.declared.format.Format.{Format as CaptureFormat}
use Rattle.capture_write.specs.declared.format.Format.TheVariants.{Pcap, Pcapng}
use Rattle.shark_words.specs.declared.letter.Letter.{Letter}
use Rattle.shark_words.specs.declared.letter.Letter.TheVariants.{Capture, Filter, Two, Kind, Name, Style, Most, Quiet, Decode, Report, Output, Format, SelfRun, FilterStats}
use Rattle.shark_words.specs.declared.options.LineKind.{LineKind}
use Rattle.shark_words.specs.declared.options.LineKind.TheVariants.{Text, Fields, Json}
use Rattle.shark_words.specs.declared.options.Source.{Source}
use Rattle.shark_words.specs.declared.options.Source.TheVariants.{Generated}
use Rattle.shark_words.specs.Keys.{is_setting}
use Rattle.shark_words.specs.Numbers.{comma_in, decimal_of, up_to}
use Rattle.shark_words.specs.Ports.{rule_of}
use Rattle.shark_words.specs.Reports.{report_of}

-- a number from 1 to 4,294,967,295
unfoldable pub count_of : List ℕ → Option ℕ
count_of text = option_and_then (up_to (2 ^ 32 - 1)) (decimal_of text)

-- a capture is generated with 200,000 frames at most
abbrev pub most_generated : ℕ
most_generated = 200000

-- a number of 64 bits, a comma, 44, and how many frames
abbrev pub generated : Option ℕ → Option ℕ → Option Source
generated (Some number) (Some frames) = Some (Generated number frames)
generated number frames = None

abbrev pub generated_at : List ℕ → Option ℕ → Option Source
generated_at text None = None
generated_at text (Some comma) =
    generated (decimal_of (take comma text))
    (option_and_then (up_to most_generated) (decimal_of (drop (suc comma) text)))

unfoldable pub generated_by : List ℕ → Option Source
generated_by text = generated_at text (comma_in text)

-- a kind of line
abbrev pub kind_of : List ℕ → Option LineKind
kind_of text =
    if bytes_eq text (codes "text") then Some Text
    else if bytes_eq text (codes "fields") then Some Fields
    else if bytes_eq text (codes "json") then Some Json
    else None

-- the kind that a value asks for, a summary where there is none
abbrev pub kind_asked : Option (List ℕ) → LineKind
kind_asked None = Text
kind_asked (Some text) = unwrap_or (kind_of text) Text

-- a format of capture files
abbrev pub format_of : List ℕ → Option CaptureFormat
format_of text =
    if bytes_eq text (codes "pcap") then Some Pcap
    else if bytes_eq text (codes "pcapng") then Some Pcapng
    else None

-- the format that a value asks for, pcapng where there is none
abbrev pub format_asked : Option (List ℕ) → CaptureFormat
format_asked None = Pcapng
format_asked (Some text) = unwrap_or (format_of text) Pcapng

-- whether a text is one of an option's values; `-2`, `-q` and
-- `--filter-stats` have none, and `-w` only `-`, which stands for the standard output
abbrev pub is_value : Letter → List ℕ → Bool
is_value Capture text = nat_lt 0 (length text)
is_value Filter text = true
is_value Two text = false
is_value Kind text = is_some (kind_of text)
is_value Name text = true
is_value Style text = is_setting text
is_value Most text = is_some (count_of text)
is_value Quiet text = false
is_value Decode text = is_some (rule_of text)
is_value Report text = is_some (report_of text)
is_value Output text = bytes_eq text (codes "-")
is_value Format text = is_some (format_of text)
is_value SelfRun text = is_some (generated_by text)
is_value FilterStats text = false

-- spaces, tabs, line feeds and carriage returns alone
abbrev pub is_blank : List ℕ → Bool
is_blank text = list_all (λ b. b == 32 || (b == 9 || (b == 10 || b == 13))) text

-- a filter that isn't blank
abbrev pub shown_filter : Option (List ℕ) → Option (List ℕ)
shown_filter None = None
shown_filter (Some text) = if is_blank text then None else Some text
