use Rattle.std.proofs.Common.{subst, sym}
use Rattle.std.specs.List.{AllByRecursion as Each}
use Rattle.std.proofs.lemmas.List.{drop_all}
use Rattle.dissect.proofs.Asked.{IsUnasked, none_asked}
use Rattle.dissect.proofs.keeping.asks_apps.Goals as goal

pub returns : goal.returns
returns c = λ _. none_asked c.args.apps.now c.args.wanted.now (c.loop-app.invariant (subst (Each (IsUnasked c.args.wanted.now)) (sym (drop_all c.loop-app.app-index c.args.apps.now c.loop-app-test.false)) tt))
