use Rattle.std.proofs.Common.{◌≡◌}
use Rattle.flt_typing.specs.Terms.{are_numbers}
use Rattle.flt_types.proofs.operand.are_numbers.Given as goal

abbrev pub invariant-arguments : goal.invariant-arguments
invariant-arguments l = are_numbers l.first ≡ are_numbers l.term
