use Rattle.std.proofs.Common.{subst}
use Rattle.std.proofs.lemmas.Result.{IfOk-weaker}
use Rattle.dissect.specs.Stands.{IsKept, StandsWithin}
use Rattle.dissect.proofs.KeepingLemmas.{all_asked}
use Rattle.dissect.proofs.dissector.Dissector.take_plain.Goals as goal

pub returns-clause-values : goal.returns-clause-values
unfolding StandsWithin
returns-clause-values c = c.take_headers.ensures.values

pub returns-clause-lacks : goal.returns-clause-lacks
unfolding StandsWithin
returns-clause-lacks c = c.take_headers.ensures.lacks

pub returns-clause-stands : goal.returns-clause-stands
unfolding StandsWithin
returns-clause-stands c = c.take_headers.ensures.after

pub returns-clause-tree : goal.returns-clause-tree
unfolding StandsWithin
returns-clause-tree c =
    IfOk-weaker c.take_headers.result _ _
    (λ taken tree is asks whole past stands. tree is past stands (all_asked c.args.self.now (subst IsKept c.self.view_is c.self.invariant.0) asks whole)) c.take_headers.ensures.tree
