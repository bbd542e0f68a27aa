use Rattle.tcp_streams.proofs.RunLemmas.{last_begun, not_past}
use Rattle.tcp_streams.proofs.runs.last_begun.Goals as goal

pub returns-in-Some-clause-some : goal.returns-in-Some-clause-some
returns-in-Some-clause-some c =
    let last = (c.range.ensures.in_range tt).3 _ _ c.in-Some.ensures.steps in
    let greatest = (c.range.ensures.in_range tt).4 _ _ c.in-Some.ensures.steps in
    last_begun c.args.runs.now.entries c.args.at _ _ last.1 last.0.1 (λ q low there. greatest q (tt, low) there)

pub returns-in-None-clause-none : goal.returns-in-None-clause-none
returns-in-None-clause-none c = λ start low. (c.range.ensures.in_range tt).5 (c.in-None.ensures.steps).0 start (tt, not_past start c.args.at low)
