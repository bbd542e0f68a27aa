use Rattle.std.proofs.Common.{arith, map}
use Rattle.flt_lists.specs.Keys.{key_shown}
use Rattle.flt_lists.proofs.NeedleLemmas.{all_made, needles_are}
use Rattle.flt_lists.proofs.needles.needles_of.Goals as goal

pub returns : goal.returns
returns c =
    needles_are c.args.values.now c.loop-value.keys.items c.sort_unstable.new.self.items
    (all_made c.args.values.now (map (λ k. key_shown k) c.loop-value.keys.items) c.loop-value.value-index (omega (arith, c.loop-value-test.false)) c.loop-value.invariant)
    c.sort_unstable.ensures.permutation c.sort_unstable.ensures.sorted
