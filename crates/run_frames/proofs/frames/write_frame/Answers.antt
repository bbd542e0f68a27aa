use Rattle.run_frames.specs.Taken.{heads_tree}
use Rattle.run_frames.proofs.ToldLemmas.{after_told}
use Rattle.run_frames.proofs.WantedLemmas.{plain_told}
use Rattle.run_frames.proofs.frames.write_frame.Goals as goal

pub returns-in-Ok-Some-clause-after : goal.returns-in-Ok-Some-clause-after
returns-in-Ok-Some-clause-after g c =
    let taken = rw c.in-Ok-Some.field-0-is at c.in-Ok-Some.ensures.plain in
    after_told c.write_plain.result c.args.later.now c.args.dissector.now c.args.plan.now c.args.frame.now
    (heads_tree c.args.frame.now.bytes c.take_heads.new.dissector.wanted c.in-Ok-Some.heads.value)
    c.args.lines.now.notes c.write_plain.new.lines.notes c.args.lines.now.capture c.write_plain.new.lines.capture
    (g.O.Sink.written c.args.out.now) (g.O.Sink.written c.write_plain.new.out)
    (λ passes past serves stands. plain_told passes c.args.later.now c.args.dissector.now c.take_heads.new.dissector c.args.plan.now past c.args.frame.now c.in-Ok-Some.heads.value
    (c.is_known.ensures c.if-is_known.false) serves c.requires.serves c.requires.rules c.take_heads.ensures.kept taken stands)
    c.write_plain.ensures.after

pub returns-in-Ok-Some-clause-part : goal.returns-in-Ok-Some-clause-part
returns-in-Ok-Some-clause-part g c =
    let taken = rw c.in-Ok-Some.field-0-is at c.in-Ok-Some.ensures.plain in λ passes past serves stands keeps.
    c.write_plain.ensures.part passes past
    (plain_told passes c.args.later.now c.args.dissector.now c.take_heads.new.dissector c.args.plan.now past c.args.frame.now c.in-Ok-Some.heads.value
    (c.is_known.ensures c.if-is_known.false) serves c.requires.serves c.requires.rules c.take_heads.ensures.kept taken stands) keeps
