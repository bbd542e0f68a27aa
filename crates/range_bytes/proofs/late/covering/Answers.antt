use Rattle.range_bytes.proofs.Covering.{late_covers, late_free, late_empty}
use Rattle.range_bytes.proofs.late.covering.Goals as goal

pub returns-then-at-piece-clause-some : goal.returns-then-at-piece-clause-some
returns-then-at-piece-clause-some c =
    let last = (c.range.ensures.in_range tt).3 _ _ c.in-Some.ensures.steps in
    late_covers c.args.late.now.entries c.requires.apart.0 c.args.at _ _ c.requires.keyed c.requires.apart.1 last.1 last.0.1 c.if-at-piece.true

pub returns-else-at-piece-clause-none : goal.returns-else-at-piece-clause-none
returns-else-at-piece-clause-none c =
    let last = (c.range.ensures.in_range tt).3 _ _ c.in-Some.ensures.steps in
    let greatest = (c.range.ensures.in_range tt).4 _ _ c.in-Some.ensures.steps in
    late_free c.args.late.now.entries c.requires.apart.0 c.args.at _ _ c.requires.keyed c.requires.apart.1 last.1 c.if-at-piece.false (λ q low there. greatest q (tt, low) there)

pub returns-in-None-clause-none : goal.returns-in-None-clause-none
returns-in-None-clause-none c =
    late_empty c.args.late.now.entries c.requires.apart.0 c.args.at c.requires.keyed c.requires.apart.1 (λ q low. (c.range.ensures.in_range tt).5 (c.in-None.ensures.steps).0 q (tt, low))
