use Rattle.std.proofs.Common.{arith}
use Rattle.pk_text.proofs.Ip6Lemmas.{sum_fits}
use Rattle.pk_text.proofs.ip6.read_shortened.Goals as goal

pub overflow_add-result : goal.overflow_add-result
overflow_add-result c =
    let front = c.in_ok-front.front in
    let back = c.in_ok-back.back in
    let sum = sum_fits c.placed_first.result front.count back.count back.number c.placed_first.ensures.room c.in_ok-back.ensures.below (omega arith) in
    omega (arith, sum)
