use Rattle.std.proofs.Common.{drop}
use Rattle.std.specs.List.{AllByRecursion as Each}
use Rattle.dissect.specs.Keeping.{IsOwnOrUnasked}
use Rattle.dissect.proofs.keeping.asks_no_others.Given as goal

abbrev pub invariant-loop-app : goal.invariant-loop-app
invariant-loop-app l = Each (IsOwnOrUnasked l.protocol l.wanted) (drop l.app-index l.apps) → Each (IsOwnOrUnasked l.protocol l.wanted) l.apps
