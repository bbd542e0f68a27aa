use Rattle.std.proofs.Common.{subst, sym}
use Rattle.std.specs.List.{AllByRecursion as Each}
use Rattle.std.proofs.lemmas.List.{drop_all}
use Rattle.dissect.specs.Keeping.{IsOwnOrUnasked}
use Rattle.dissect.proofs.keeping.asks_no_others.Goals as goal

pub returns : goal.returns
returns c = λ _. c.loop-app.invariant (subst (Each (IsOwnOrUnasked c.args.protocol c.args.wanted.now)) (sym (drop_all c.loop-app.app-index c.args.apps.now c.loop-app-test.false)) tt)
