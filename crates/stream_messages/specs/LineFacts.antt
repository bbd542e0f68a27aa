-- A line that is whole lies in the bytes that are there.
use Rattle.std.specs.Prelude.{ℕ, ◌+◌, ◌≤◌}
use Rattle.stream_messages.specs.declared.lines.Line.{Line}
use Rattle.stream_messages.specs.declared.lines.Line.TheVariants.{Whole, Short, Wrong}

abbrev pub IsWholeIn : ℕ → Line → Type 0
IsWholeIn most (Whole n) = n + 2 ≤ most
IsWholeIn most Short = Unit {0}
IsWholeIn most Wrong = Unit {0}
