use Rattle.std.proofs.Common.{◌≤◌}
use Rattle.flt_typed.specs.declared.typed.Term.{size-Term}
use Rattle.flt_typed.proofs.typed.Term.+drop.Given as goal

abbrev pub invariant-loop-self : goal.invariant-loop-self
invariant-loop-self l = size-Term l.self ≤ size-Term l.initial.self
