use Rattle.std.proofs.Common.{subst}
use Rattle.std.specs.List.{AllByRecursion as Each}
use Rattle.dissect.specs.Keeping.{IsOwnOrUnasked}
use Rattle.dissect.proofs.KeepingLemmas.{no_others}
use Rattle.dissect.proofs.keeping.asks_it_alone.Goals as goal

pub returns : goal.returns
returns c = λ yes. no_others c.args.protocol c.args.wanted.now (subst (Each (IsOwnOrUnasked c.args.protocol c.args.wanted.now)) c.framed_apps.ensures (c.asks_no_others.ensures yes))
