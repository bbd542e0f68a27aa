use Rattle.std.proofs.Common.{◌+◌, ◌*◌, vec_len}
use Rattle.flt_chains.specs.Chains.{Reaches}
use Rattle.flt_chains.specs.Parts.{left_of_operand, operands_in}
use Rattle.flt_syntax.specs.Written.{operand_of}
use Rattle.flt_typing.specs.Terms.{IsTerm}
use Rattle.flt_types.proofs.operand.+terms.Given as goal

abbrev pub decreases-term : goal.decreases-term
decreases-term l = 6 * operands_in l.operand.now + 2

abbrev pub decreases-part : goal.decreases-part
decreases-part l = 6 * operands_in l.operand.now + 1

abbrev pub decreases-around : goal.decreases-around
decreases-around l = 6 * operands_in l.operand.now

abbrev pub decreases-with : goal.decreases-with
decreases-with l = 6 * operands_in l.join.now

abbrev pub decreases-compute : goal.decreases-compute
decreases-compute l = 6 * operands_in l.operand.now + 4

abbrev pub decreases-second_number : goal.decreases-second_number
decreases-second_number l = 6 * operands_in l.operand.now + 3

abbrev pub decreases-add_argument : goal.decreases-add_argument
decreases-add_argument l = 6 * operands_in l.operand.now + 4

abbrev pub invariant-term-above : goal.invariant-term-above
invariant-term-above l = Reaches left_of_operand (λ part. IsTerm l.position.standing (operand_of part) l.term) l.fn.operand l.above.items

abbrev pub decreases-term-above : goal.decreases-term-above
decreases-term-above l = vec_len l.above
