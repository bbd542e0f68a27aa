use Rattle.std.proofs.Common.{◌≤◌}
use Rattle.flt_syntax.specs.declared.ast.Ast.{size-Ast}
use Rattle.flt_syntax.proofs.ast.Ast.+drop.Given as goal

abbrev pub invariant-loop-self : goal.invariant-loop-self
invariant-loop-self l = size-Ast l.self ≤ size-Ast l.initial.self
