use Rattle.range_bytes.proofs.Covering.{first_is, late_next, late_last}
use Rattle.range_bytes.proofs.late.next_start.Goals as goal

pub returns-in-Some : goal.returns-in-Some
returns-in-Some c =
    let range = c.range.ensures.in_range tt in
    let first = first_is _ _ _ _ c.in-Some.ensures.steps range.1 in
    late_next c.args.late.now.entries c.requires.apart.0 c.args.from _ _ c.requires.keyed c.requires.apart.1 c.requires.free first.1 first.0.0
    (λ q low there. first_is _ _ _ _ c.in-Some.ensures.steps (range.2 q (low, tt) there))

pub returns-in-None : goal.returns-in-None
returns-in-None c =
    late_last c.args.late.now.entries c.requires.apart.0 c.args.from c.requires.keyed c.requires.apart.1 c.requires.free (λ q low. (c.range.ensures.in_range tt).5 (c.in-None.ensures.steps).0 q (low, tt))
