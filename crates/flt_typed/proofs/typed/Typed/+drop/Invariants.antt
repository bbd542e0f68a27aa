use Rattle.std.proofs.Common.{◌≤◌}
use Rattle.flt_typed.specs.declared.typed.Typed.{size-Typed}
use Rattle.flt_typed.proofs.typed.Typed.+drop.Given as goal

abbrev pub invariant-loop-self : goal.invariant-loop-self
invariant-loop-self l = size-Typed l.self ≤ size-Typed l.initial.self
