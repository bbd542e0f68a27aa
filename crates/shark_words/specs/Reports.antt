-- What `-z` asks for: `follow,tcp,raw,N` for the bytes of the stream of number N, and `conv,tcp`, `conv,ip` and `io,phs` for
-- tables of statistics.
use Rattle.std.specs.Prelude.{ℕ, ◌^◌, ◌-◌, List, [], ◌∷◌, ◌++◌, codes, Option, Some, None, option_and_then, option_map, option_to_list, if◌then◌else◌}
use Rattle.std.specs.Option.{option_or}
use Rattle.std.specs.Str.{bytes_eq}
use Rattle.cap_stats.specs.declared.kind.StatKind.{StatKind}
use Rattle.cap_stats.specs.declared.kind.StatKind.TheVariants.{ConvTcp, ConvIp, Phs}
use Rattle.shark_words.specs.declared.options.Report.{Report}
use Rattle.shark_words.specs.declared.options.Report.TheVariants.{Follow, Table}
use Rattle.shark_words.specs.Keys.{behind_name}
use Rattle.shark_words.specs.Numbers.{at_most, decimal_of}

abbrev pub table_of : List ℕ → Option StatKind
table_of text =
    if bytes_eq text (codes "conv,tcp") then Some ConvTcp
    else if bytes_eq text (codes "conv,ip") then Some ConvIp
    else if bytes_eq text (codes "io,phs") then Some Phs
    else None

abbrev pub follow_name : List ℕ
follow_name = codes "follow,tcp,raw,"

-- the number of a stream is at most 4,294,967,295
abbrev pub stream_of : List ℕ → Option ℕ
stream_of text =
    option_and_then (at_most (2 ^ 32 - 1))
    (option_and_then decimal_of (behind_name follow_name text))

unfoldable pub report_of : List ℕ → Option Report
report_of text = option_or (option_map Table (table_of text)) (option_map Follow (stream_of text))

-- the reports of texts, in their order
abbrev pub reports_in : List (List ℕ) → List Report
reports_in [] = []
reports_in (text ∷ texts) = option_to_list (report_of text) ++ reports_in texts
