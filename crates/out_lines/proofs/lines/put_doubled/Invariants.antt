use Rattle.std.proofs.Common.{◌≡◌, ◌++◌, drop}
use Rattle.std.specs.List.{flat_map}
use Rattle.out_lines.specs.Lines.{doubled}
use Rattle.out_lines.proofs.lines.put_doubled.Given as goal

abbrev pub invariant-loop-byte : goal.invariant-loop-byte
invariant-loop-byte l =
    l.line ++ flat_map (doubled l.quote) (drop l.byte-index l.text) ≡ l.initial.line ++ flat_map (doubled l.quote) l.text
