use Rattle.std.proofs.Common.{Bool, Some, None, cond, sym, ap}
use Rattle.ip_join.proofs.FragmentLemmas.{holds_below_front, not_held_past}
use Rattle.ip_join.proofs.parts.end_if_held.Goals as goal

pub returns-then-end-front-clause-end : goal.returns-then-end-front-clause-end
returns-then-end-front-clause-end c =
    sym (ap (λ (b : Bool). cond b (Some c.args.end) None) (holds_below_front c.args.held.now c.front.result c.args.end c.front.ensures c.if-end-front.true))

pub returns-else-end-front-clause-end : goal.returns-else-end-front-clause-end
returns-else-end-front-clause-end c =
    sym (ap (λ (b : Bool). cond b (Some c.args.end) None) (not_held_past c.args.held.now c.front.result c.args.end c.front.ensures c.if-end-front.false))
