use Rattle.std.proofs.Common.{rules}
use Rattle.capture_write.specs.Made.{generator_after}
use Rattle.capture_write.proofs.Sending.{drawn_more, drawn_none}
use Rattle.capture_write.proofs.made.put_records.Goals as goal

pub frames-init : goal.frames-init
unfolding generator_after
frames-init c = rw c.new-generator.ensures (drawn_none c.args.start c.args.out.now.items)

pub frames-preserved : goal.frames-preserved
frames-preserved c =
    drawn_more c.args.start c.frames.index _ _ _ _ _ _ _ c.next_word-word.result _ c.frames.invariant c.next_word-word.ensures
    (search rules) c.in_ok-put_record.ensures (search rules) c.in_ok-put_frame.ensures.sent
