use Rattle.std.proofs.Common.{Option, None, Some, subst}
use Rattle.std.specs.Prelude.{IfOk, IfSome, Result, Ok, Err}
use Rattle.dissect.specs.Stands.{IsKept, StandsWithin}
use Rattle.dissect.specs.declared.plain_trees.TakenBy.{TakenBy}
use Rattle.dissect.proofs.KeepingLemmas.{all_asked}
use Rattle.dissect.proofs.dissector.Dissector.take_fed.Goals as goal

if_taken : {E : Type 0} (P Q : TakenBy → Type 0) (r : Result (Option TakenBy) E) → ((by : TakenBy) → P by → Q by) → IfOk r (λ (taken : Option TakenBy). IfSome taken P) → IfOk r (λ (taken : Option TakenBy). IfSome taken Q)
if_taken P Q (Ok None) more is = tt
if_taken P Q (Ok (Some by)) more is = more by is
if_taken P Q (Err e) more is = tt

pub returns-clause-values : goal.returns-clause-values
unfolding StandsWithin
returns-clause-values c = c.feed_frame.ensures.values

pub returns-clause-lacks : goal.returns-clause-lacks
unfolding StandsWithin
returns-clause-lacks c = c.feed_frame.ensures.lacks

pub returns-clause-stands : goal.returns-clause-stands
unfolding StandsWithin
returns-clause-stands c = c.feed_frame.ensures.after

pub returns-clause-tree : goal.returns-clause-tree
unfolding StandsWithin
returns-clause-tree c =
    if_taken _ _ c.feed_frame.result
    (λ by tree asks whole past stands. tree past stands (all_asked c.args.self.now (subst IsKept c.self.view_is c.self.invariant.0) asks whole)) c.feed_frame.ensures.tree
