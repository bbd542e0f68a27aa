use Rattle.std.proofs.Common.{◌≤◌, arith, subst}
use Rattle.stream_messages.specs.Limits.{head_limit, body_limit}
use Rattle.stream_messages.specs.PlanFacts.{IsShort}
use Rattle.stream_messages.proofs.resuming.shape_by.Goals as goal

pub overflow_add-start : goal.overflow_add-start
unfolding head_limit body_limit
overflow_add-start c =
    let short : c.in-Fixed.len ≤ body_limit = subst IsShort c.in-Fixed.is c.requires.body in
    let head : c.args.start.head ≤ head_limit = c.requires.head in
    omega arith
