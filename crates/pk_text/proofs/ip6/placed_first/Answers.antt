use Rattle.std.proofs.Common.{◌-◌, refl, arith}
use Rattle.pk_text.proofs.Ip6Lemmas.{placed, power_fits}
use Rattle.pk_text.proofs.ip6.placed_first.Goals as goal

pub pow-requires : goal.pow-requires
pow-requires c = omega (arith, power_fits (7 - c.args.side.count) (omega arith))

pub overflow_mul-result : goal.overflow_mul-result
overflow_mul-result c =
    let side = c.args.side in
    let p = placed side.number side.count (7 - side.count) c.pow.result c.requires.below c.requires.count refl c.pow.ensures in
    omega (arith, p.moved)

pub overflow_mul-result-2 : goal.overflow_mul-result-2
overflow_mul-result-2 c =
    let side = c.args.side in
    let p = placed side.number side.count (7 - side.count) c.pow.result c.requires.below c.requires.count refl c.pow.ensures in
    omega (arith, p.moved)

pub returns-clause-value : goal.returns-clause-value
returns-clause-value c =
    let side = c.args.side in
    let p = placed side.number side.count (7 - side.count) c.pow.result c.requires.below c.requires.count refl c.pow.ensures in
    p.value

pub returns-clause-room : goal.returns-clause-room
returns-clause-room c =
    let side = c.args.side in
    let p = placed side.number side.count (7 - side.count) c.pow.result c.requires.below c.requires.count refl c.pow.ensures in
    p.room
