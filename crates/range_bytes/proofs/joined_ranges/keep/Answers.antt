use Rattle.range_bytes.proofs.Joining.{kept_more}
use Rattle.range_bytes.proofs.joined_ranges.keep.Goals as goal

pub loop-count-preserved-in_ok-put : goal.loop-count-preserved-in_ok-put
loop-count-preserved-in_ok-put c =
    kept_more c.args.rest.now c.loop-count.rest c.put.new.self c.args.start c.args.bytes.now c.args.marks.now c.loop-count.at c.loop-count.count (record { end = 0; frame = 0 })
    c.in_ok-part.field-0 c.loop-count.invariant c.loop-count-test.true c.in_ok-part.ensures c.in_ok-put.ensures.ok

pub loop-count-preserved : goal.loop-count-preserved
loop-count-preserved c =
    kept_more c.args.rest.now c.loop-count.rest c.put.new.self c.args.start c.args.bytes.now c.args.marks.now c.loop-count.at c.loop-count.count (record { end = 0; frame = 0 })
    c.in_ok-part.field-0 c.loop-count.invariant c.loop-count-test.true c.in_ok-part.ensures c.in_ok-put.ensures.ok
