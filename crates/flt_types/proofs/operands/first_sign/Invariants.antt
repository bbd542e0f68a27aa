use Rattle.std.proofs.Common.{◌≡◌}
use Rattle.flt_syntax.specs.Written.{operand_of}
use Rattle.flt_types.specs.Faults.{first_sign}
use Rattle.flt_types.proofs.operands.first_sign.Given as goal

abbrev pub invariant-signs : goal.invariant-signs
invariant-signs l = first_sign l.at (operand_of l.first) ≡ first_sign l.fn.at (operand_of l.fn.operand)
