use Rattle.std.proofs.Common.{◌∙◌}
use Rattle.flt_lists.proofs.KeyLemmas.{ends_joined}
use Rattle.flt_lists.specs.Keys.{key_shown}
use Rattle.flt_lists.proofs.ends.ends_hold.Goals as goal

pub returns : goal.returns
returns c =
    c.holds_in.ensures
    ∙ ends_joined c.args.relation c.args.choice c.args.prefix c.args.left.now c.args.right.now c.decisive-extreme.result c.opposite.result
    (key_shown c.end_of-end.result) (key_shown c.end_of-other.result) c.cmp.result
    c.decisive-extreme.ensures c.opposite.ensures c.end_of-end.ensures c.end_of-other.ensures c.cmp.ensures
    c.requires.order c.requires.some_left c.requires.some_right
