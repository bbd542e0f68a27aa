use Rattle.std.proofs.Common.{◌≤◌}
use Rattle.flt_syntax.specs.declared.ast.Operand.{size-Operand}
use Rattle.flt_syntax.proofs.ast.Operand.+drop.Given as goal

abbrev pub invariant-loop-self : goal.invariant-loop-self
invariant-loop-self l = size-Operand l.self ≤ size-Operand l.initial.self
