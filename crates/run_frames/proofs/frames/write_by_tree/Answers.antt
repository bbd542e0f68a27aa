use Rattle.run_frames.proofs.ToldLemmas.{after_told}
use Rattle.run_frames.proofs.frames.write_by_tree.Goals as goal

pub returns-in-Ok-clause-after : goal.returns-in-Ok-clause-after
returns-in-Ok-clause-after g c =
    after_told c.write_taken.result c.args.later.now c.args.dissector.now c.args.plan.now c.args.frame.now c.in-Ok.tree
    c.args.lines.now.notes c.write_taken.new.lines.notes c.args.lines.now.capture c.write_taken.new.lines.capture
    (g.O.Sink.written c.args.out.now) (g.O.Sink.written c.write_taken.new.out) c.in-Ok.ensures.told c.write_taken.ensures.after

pub returns-in-Ok-clause-part : goal.returns-in-Ok-clause-part
returns-in-Ok-clause-part g c = λ passes past serves stands keeps. c.write_taken.ensures.part passes past (c.in-Ok.ensures.told passes past serves stands) keeps
