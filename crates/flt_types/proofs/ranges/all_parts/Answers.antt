use Rattle.flt_types.proofs.Lists.{more_mapped}
use Rattle.flt_types.proofs.ranges.all_parts.Goals as goal

pub loop-range-preserved : goal.loop-range-preserved
loop-range-preserved c =
    more_mapped (λ r. r.part) c.args.ranges.now c.loop-range.range-index _ c.loop-range.parts.items c.push.new.self.items _ c.loop-range-test.true c.in_ok-push.ensures.items
    c.loop-range.invariant
