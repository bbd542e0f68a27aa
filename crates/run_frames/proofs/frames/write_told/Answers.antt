use Rattle.std.proofs.Common.{Option, ap}
use Rattle.run_frames.specs.Compiled.{CompiledShown}
use Rattle.run_frames.specs.Satisfied.{satisfies}
use Rattle.run_frames.proofs.ToldLemmas.{after_line, after_packet, part_of_line, part_of_packet}
use Rattle.run_frames.proofs.frames.write_told.Goals as goal

pub returns-in-Some-clause-after : goal.returns-in-Some-clause-after
returns-in-Some-clause-after g c =
    after_packet c.write_packet.result c.in-Some.field-0 c.args.plan.now c.args.frame.now c.args.source.now c.args.lines.now.notes c.args.lines.now.capture
    c.write_packet.new.writer (g.O.Sink.written c.args.out.now) (g.O.Sink.written c.write_packet.new.out) (satisfies c.args.lines.now.judge c.args.source.now) c.in-Some.is
    (ap (λ (chosen : Option CompiledShown). satisfies chosen c.args.source.now) c.requires.judge) c.write_packet.ensures.packed

pub returns-in-Some-clause-part : goal.returns-in-Some-clause-part
returns-in-Some-clause-part g c =
    part_of_packet c.in-Some.field-0 c.args.plan.now c.args.frame.now c.args.source.now c.args.lines.now.notes c.args.lines.now.capture
    (g.O.Sink.written c.args.out.now) (g.O.Sink.written c.write_packet.new.out) (satisfies c.args.lines.now.judge c.args.source.now) c.in-Some.is
    (ap (λ (chosen : Option CompiledShown). satisfies chosen c.args.source.now) c.requires.judge) c.write_packet.ensures.part

pub returns-in-Ok-clause-after : goal.returns-in-Ok-clause-after
returns-in-Ok-clause-after g c =
    after_line c.args.plan.now c.args.frame.now c.args.source.now c.args.lines.now.notes c.write_tree.new.lines.notes c.args.lines.now.capture c.write_tree.new.lines.capture
    (g.O.Sink.written c.args.out.now) (g.O.Sink.written c.write_tree.new.out) c.in-None.is c.in-Ok.ensures.noted c.in-Ok.ensures.whole

pub returns-in-Ok-clause-part : goal.returns-in-Ok-clause-part
returns-in-Ok-clause-part g c = λ passes past told keeps.
    part_of_line c.args.plan.now c.args.frame.now c.args.source.now (g.O.Sink.written c.args.out.now) (g.O.Sink.written c.write_tree.new.out) c.in-None.is c.write_tree.ensures.part passes past told

pub returns-in-Err-clause-part : goal.returns-in-Err-clause-part
returns-in-Err-clause-part g c = λ passes past told keeps.
    part_of_line c.args.plan.now c.args.frame.now c.args.source.now (g.O.Sink.written c.args.out.now) (g.O.Sink.written c.write_tree.new.out) c.in-None.is c.write_tree.ensures.part passes past told
