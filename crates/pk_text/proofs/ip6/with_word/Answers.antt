use Rattle.std.proofs.Common.{arith, lit<}
use Rattle.pk_text.proofs.Ip6Lemmas.{group_fits}
use Rattle.pk_text.proofs.ip6.with_word.Goals as goal

pub overflow_mul-result : goal.overflow_mul-result
overflow_mul-result c =
    let side = c.args.side in
    let room = group_fits side.number side.count 0 c.requires.below c.requires.count (omega arith) (lit< tt) in
    omega (arith, room)

pub overflow_add-result-2 : goal.overflow_add-result-2
overflow_add-result-2 c =
    let side = c.args.side in
    let room = group_fits side.number side.count c.from.result c.requires.below c.requires.count (omega arith) (omega (arith, c.in_ok-group.ensures.fits)) in
    omega (arith, room)
