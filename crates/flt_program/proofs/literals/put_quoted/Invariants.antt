use Rattle.std.proofs.Common.{◌≡◌, ◌++◌, drop}
use Rattle.std.specs.List.{flat_map}
use Rattle.flt_program.specs.Literals.{quoted_byte}
use Rattle.flt_program.proofs.literals.put_quoted.Given as goal

abbrev pub invariant-loop-byte : goal.invariant-loop-byte
invariant-loop-byte l =
    l.line.items ++ flat_map quoted_byte (drop l.byte-index l.bytes) ≡ l.initial.line.items ++ flat_map quoted_byte l.bytes
