use Rattle.std.proofs.Common.{drop}
use Rattle.std.specs.List.{AllByRecursion as Each}
use Rattle.dissect.proofs.Asked.{IsUnasked}
use Rattle.dissect.proofs.keeping.asks_apps.Given as goal

abbrev pub invariant-loop-app : goal.invariant-loop-app
invariant-loop-app l = Each (IsUnasked l.wanted) (drop l.app-index l.apps) → Each (IsUnasked l.wanted) l.apps
