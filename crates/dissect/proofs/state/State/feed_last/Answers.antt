use Rattle.std.proofs.Common.{sym, subst}
use Rattle.dissect.specs.Feeding.{IsFed}
use Rattle.dissect.specs.declared.feeding.Fed.{Fed}
use Rattle.dissect.specs.declared.ways.Carried.TheVariants as carries
use Rattle.dissect.proofs.FedLemmas.{all_passes, passed-fed}
use Rattle.dissect.proofs.state.State.feed_last.Goals as goal

pub returns-in_ok-found-clause-fed : goal.returns-in_ok-found-clause-fed
returns-in_ok-found-clause-fed c = λ passes.
    let rules = c.args.rules.now in
    let frame = c.args.frame.now in
    let way = carries.Segment c.args.last.now in
    let old = c.args.self.now in
    let new = c.carry_segment.new.self in
    let found = c.in_ok-found.found in
    subst (λ (fed : Fed). IsFed rules frame passes way old new fed) (sym c.as_fed.ensures)
    (passed-fed rules frame passes way old new found (all_passes rules frame passes way old new found c.in_ok-found.ensures.tells) c.in_ok-found.ensures.passed)
