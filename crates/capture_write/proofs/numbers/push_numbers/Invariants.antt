use Rattle.std.proofs.Common.{◌≡◌, ◌++◌, drop}
use Rattle.std.specs.List.{flat_map}
use Rattle.capture_write.specs.Numbers.{number_bytes}
use Rattle.capture_write.proofs.numbers.push_numbers.Given as goal

-- what is left of the numbers leads where all of them do
abbrev pub invariant-loop-number : goal.invariant-loop-number
invariant-loop-number l =
    l.bytes.items ++ flat_map (number_bytes l.little) (drop l.number-index l.numbers)
    ≡ l.initial.bytes.items ++ flat_map (number_bytes l.little) l.numbers
