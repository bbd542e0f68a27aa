use Rattle.std.proofs.Common.{sym, ap, ◌∙◌}
use Rattle.flt_vm.specs.declared.run.Verdict.{Verdict}
use Rattle.run_frames.specs.Satisfied.{satisfies}
use Rattle.run_frames.proofs.PacketLemmas.{packed_as, packed_left, part_as}
use Rattle.run_frames.proofs.packet.write_packet.Goals as goal

pub returns-then-verdict-clause-packed : goal.returns-then-verdict-clause-packed
returns-then-verdict-clause-packed g c =
    packed_as c.write_added.result (satisfies c.args.judge.now c.args.source.now) c.args.writer.now.format c.args.frame.now c.args.writer.now c.write_added.new.writer
    (g.O.Sink.written c.args.out.now) (g.O.Sink.written c.write_added.new.out) (sym (ap (λ (v : Verdict). v.holds) c.in-Ok.ensures.verdict) ∙ c.if-verdict.true) c.write_added.ensures.packed

pub returns-then-verdict-clause-part : goal.returns-then-verdict-clause-part
returns-then-verdict-clause-part g c =
    part_as (satisfies c.args.judge.now c.args.source.now) c.args.writer.now.format c.args.frame.now c.args.writer.now
    (g.O.Sink.written c.args.out.now) (g.O.Sink.written c.write_added.new.out) (sym (ap (λ (v : Verdict). v.holds) c.in-Ok.ensures.verdict) ∙ c.if-verdict.true) c.write_added.ensures.part

pub returns-else-verdict-clause-packed : goal.returns-else-verdict-clause-packed
returns-else-verdict-clause-packed g c =
    packed_left (satisfies c.args.judge.now c.args.source.now) c.args.frame.now c.args.writer.now (g.O.Sink.written c.args.out.now)
    (sym (ap (λ (v : Verdict). v.holds) c.in-Ok.ensures.verdict) ∙ c.if-verdict.false)
