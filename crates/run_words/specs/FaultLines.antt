-- A line for standard error, as it is kept until it is written.
use Rattle.std.specs.Prelude.{ℕ, List, string_bytes}
use Rattle.run_words.specs.declared.fault_text.FaultLine.{FaultLine}
use Rattle.run_words.specs.declared.fault_text.FaultLine.TheVariants.{Fixed, Made}

-- its bytes
abbrev pub line_bytes : FaultLine → List ℕ
line_bytes (Fixed text) = text.now
line_bytes (Made text) = string_bytes text
