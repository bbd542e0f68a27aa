use Rattle.std.proofs.Common.{◌∙◌, ap, sym, subst, ℕ, List, [], ◌∷◌, suc, Err, refl, arith}
use Rattle.pk_fields.specs.declared.rules.DecodeAs.{DecodeAs}
use Rattle.pk_base.specs.Limits.{file_limit}
use Rattle.capture_read.specs.declared.ending.Ending.TheVariants.{Whole}
use Rattle.capture_read.proofs.TakenLemmas.{took_none}
use Rattle.run_passes.proofs.FaultLemmas.{caused_write, cut_off, never_spent, read_further, rose_before, write_caused}
use Rattle.run_passes.proofs.Together.{few_taken, has_taken, takeable, together_after}
use Rattle.run_frames.specs.declared.frames.RunFault.TheVariants.{WriteFault}
use Rattle.run_frames.proofs.CalmLemmas.{calm_err, calm_ok}
use Rattle.run_frames.proofs.NoteLemmas.{notes_few, notes_few_after}
use Rattle.run_passes.proofs.WayLemmas.{way_begun, way_further, way_stopped, way_full, read_full, full_near, way_ended, read_ended, ended_near, end_near, end_unfit, way_unread, way_unfit, read_unfit, broken_part, broken_near, way_took, serves_once}
use Rattle.run_frames.specs.Job.{One}
use Rattle.run_frames.proofs.WantedLemmas.{serves_on}
use Rattle.run_passes.proofs.once.write_each.Goals as goal

pub loop-most-init : goal.loop-most-init
loop-most-init g c =
    record {
      way = way_begun c.args.plan.now (g.C.Capture.left c.args.capture.now) c.args.reader.now c.args.dissector.now c.args.lines.now.notes c.args.lines.now.capture (g.O.Sink.written c.args.out.now) c.requires.alone c.requires.reads c.requires.stands c.requires.keeps;
      together = record {
        number = omega (arith, c.requires.number, c.requires.taken);
        captured = omega (arith, c.requires.captured);
        taken = omega (arith, c.requires.taken);
        limit = omega (arith, c.requires.at);
      };
      took = took_none (suc file_limit) (g.C.Capture.left c.args.capture.now) (g.C.Capture.left c.args.capture.now) refl;
      serves = c.requires.serves;
      rules = c.requires.rules;
      stands = ([], c.requires.stands);
      judge = c.requires.judge;
      writer = c.requires.lines;
      few = notes_few 0 c.args.dissector.now.taken c.args.lines.now.notes (omega arith) c.requires.few;
      on = record { asked = refl; begun = refl; missed = refl };
      fresh = c.requires.fresh;
      calm = record { reads = refl; writes = refl };
    }

pub returns-then-is_full-clause-ended : goal.returns-then-is_full-clause-ended
returns-then-is_full-clause-ended g c =
    way_full c.args.plan.now c.loop-most.most (g.C.Capture.left c.args.capture.now) c.loop-most.reader (g.C.Capture.left c.loop-most.capture) c.loop-most.dissector c.loop-most.lines.notes c.loop-most.lines.capture (g.O.Sink.written c.args.out.now) (g.O.Sink.written c.loop-most.out) (c.is_full.ensures.full c.if-is_full.true) c.loop-most.invariant.way

pub returns-then-is_full-clause-read : goal.returns-then-is_full-clause-read
returns-then-is_full-clause-read g c =
    read_full c.args.plan.now c.loop-most.most (g.C.Capture.left c.args.capture.now) c.loop-most.reader (g.C.Capture.left c.loop-most.capture) c.loop-most.dissector c.loop-most.lines.notes c.loop-most.lines.capture (g.O.Sink.written c.args.out.now) (g.O.Sink.written c.loop-most.out) (c.is_full.ensures.full c.if-is_full.true) c.loop-most.invariant.way

pub returns-then-is_full-clause-full : goal.returns-then-is_full-clause-full
returns-then-is_full-clause-full g c =
    end_near c.args.plan.now (g.C.Capture.left c.args.capture.now) (g.C.Capture.left c.loop-most.capture) Whole
    (full_near c.args.plan.now c.loop-most.most (g.C.Capture.left c.args.capture.now) c.loop-most.reader (g.C.Capture.left c.loop-most.capture) c.loop-most.dissector c.loop-most.lines.notes c.loop-most.lines.capture (g.O.Sink.written c.args.out.now) (g.O.Sink.written c.loop-most.out) (c.is_full.ensures.full c.if-is_full.true) c.loop-most.invariant.way)

pub returns-then-is_full-clause-part : goal.returns-then-is_full-clause-part
returns-then-is_full-clause-part g c =
    way_stopped c.args.plan.now c.loop-most.most (g.C.Capture.left c.args.capture.now) c.loop-most.reader (g.C.Capture.left c.loop-most.capture) c.loop-most.dissector c.loop-most.lines.notes c.loop-most.lines.capture (g.O.Sink.written c.args.out.now) (g.O.Sink.written c.loop-most.out) c.loop-most.invariant.way

pub returns-in-Ok-End-clause-ended : goal.returns-in-Ok-End-clause-ended
returns-in-Ok-End-clause-ended g c =
    way_ended c.args.plan.now c.loop-most.most (g.C.Capture.left c.args.capture.now) c.loop-most.reader c.next_frame.new.self (g.C.Capture.left c.loop-most.capture) (g.C.Capture.left c.next_frame.new.capture) c.loop-most.dissector c.loop-most.lines.notes c.loop-most.lines.capture (g.O.Sink.written c.args.out.now) (g.O.Sink.written c.loop-most.out) c.in-Ok-End.ending (c.is_full.ensures.more c.if-is_full.false) c.loop-most.invariant.way (rw c.in-Ok-End.field-0-is at c.in-Ok-End.ensures.answers)

pub returns-in-Ok-End-clause-read : goal.returns-in-Ok-End-clause-read
returns-in-Ok-End-clause-read g c =
    read_ended c.args.plan.now c.loop-most.most (g.C.Capture.left c.args.capture.now) c.loop-most.reader c.next_frame.new.self (g.C.Capture.left c.loop-most.capture) (g.C.Capture.left c.next_frame.new.capture) c.loop-most.dissector c.loop-most.lines.notes c.loop-most.lines.capture (g.O.Sink.written c.args.out.now) (g.O.Sink.written c.loop-most.out) c.in-Ok-End.ending (c.is_full.ensures.more c.if-is_full.false) c.loop-most.invariant.way (rw c.in-Ok-End.field-0-is at c.in-Ok-End.ensures.answers)

pub returns-in-Ok-End-clause-full : goal.returns-in-Ok-End-clause-full
returns-in-Ok-End-clause-full g c =
    end_near c.args.plan.now (g.C.Capture.left c.args.capture.now) (g.C.Capture.left c.next_frame.new.capture) c.in-Ok-End.ending
    (ended_near c.args.plan.now c.loop-most.most (g.C.Capture.left c.args.capture.now) c.loop-most.reader c.next_frame.new.self (g.C.Capture.left c.loop-most.capture) (g.C.Capture.left c.next_frame.new.capture) c.loop-most.dissector c.loop-most.lines.notes c.loop-most.lines.capture (g.O.Sink.written c.args.out.now) (g.O.Sink.written c.loop-most.out) c.in-Ok-End.ending (c.is_full.ensures.more c.if-is_full.false) c.loop-most.invariant.way (rw c.in-Ok-End.field-0-is at c.in-Ok-End.ensures.answers))

pub returns-in-Ok-End-clause-part : goal.returns-in-Ok-End-clause-part
returns-in-Ok-End-clause-part g c =
    way_stopped c.args.plan.now c.loop-most.most (g.C.Capture.left c.args.capture.now) c.loop-most.reader (g.C.Capture.left c.loop-most.capture) c.loop-most.dissector c.loop-most.lines.notes c.loop-most.lines.capture (g.O.Sink.written c.args.out.now) (g.O.Sink.written c.loop-most.out) c.loop-most.invariant.way

pub returns-in-Ok-End-clause-took : goal.returns-in-Ok-End-clause-took
returns-in-Ok-End-clause-took g c =
    way_took c.args.plan.now c.loop-most.most (g.C.Capture.left c.args.capture.now) c.loop-most.reader (g.C.Capture.left c.loop-most.capture) (g.C.Capture.left c.next_frame.new.capture) c.loop-most.dissector c.loop-most.lines.notes c.loop-most.lines.capture (g.O.Sink.written c.args.out.now) (g.O.Sink.written c.loop-most.out) c.loop-most.invariant.way c.next_frame.ensures.took

pub returns-in-Err-ReadFault-clause-part : goal.returns-in-Err-ReadFault-clause-part
returns-in-Err-ReadFault-clause-part g c =
    way_stopped c.args.plan.now c.loop-most.most (g.C.Capture.left c.args.capture.now) c.loop-most.reader (g.C.Capture.left c.loop-most.capture) c.loop-most.dissector c.loop-most.lines.notes c.loop-most.lines.capture (g.O.Sink.written c.args.out.now) (g.O.Sink.written c.loop-most.out) c.loop-most.invariant.way

pub returns-in-Err-ReadFault-clause-broken : goal.returns-in-Err-ReadFault-clause-broken
returns-in-Err-ReadFault-clause-broken g c =
    way_unread c.args.plan.now c.loop-most.most (g.C.Capture.left c.args.capture.now) c.loop-most.reader (g.C.Capture.left c.loop-most.capture) (g.C.Capture.left c.next_frame.new.capture) c.loop-most.dissector c.loop-most.lines.notes c.loop-most.lines.capture (g.O.Sink.written c.args.out.now) (g.O.Sink.written c.loop-most.out) (c.is_full.ensures.more c.if-is_full.false) c.loop-most.invariant.way (c.in-Err-ReadFault.ensures.fails (ap Err c.in-Err-ReadFault.field-0-is))

pub returns-in-Err-ReadFault-clause-took : goal.returns-in-Err-ReadFault-clause-took
returns-in-Err-ReadFault-clause-took g c =
    way_took c.args.plan.now c.loop-most.most (g.C.Capture.left c.args.capture.now) c.loop-most.reader (g.C.Capture.left c.loop-most.capture) (g.C.Capture.left c.next_frame.new.capture) c.loop-most.dissector c.loop-most.lines.notes c.loop-most.lines.capture (g.O.Sink.written c.args.out.now) (g.O.Sink.written c.loop-most.out) c.loop-most.invariant.way c.next_frame.ensures.took

pub returns-in-Err-NoMemory-clause-part : goal.returns-in-Err-NoMemory-clause-part
returns-in-Err-NoMemory-clause-part g c =
    way_stopped c.args.plan.now c.loop-most.most (g.C.Capture.left c.args.capture.now) c.loop-most.reader (g.C.Capture.left c.loop-most.capture) c.loop-most.dissector c.loop-most.lines.notes c.loop-most.lines.capture (g.O.Sink.written c.args.out.now) (g.O.Sink.written c.loop-most.out) c.loop-most.invariant.way

pub returns-in-Err-NoMemory-clause-took : goal.returns-in-Err-NoMemory-clause-took
returns-in-Err-NoMemory-clause-took g c =
    way_took c.args.plan.now c.loop-most.most (g.C.Capture.left c.args.capture.now) c.loop-most.reader (g.C.Capture.left c.loop-most.capture) (g.C.Capture.left c.next_frame.new.capture) c.loop-most.dissector c.loop-most.lines.notes c.loop-most.lines.capture (g.O.Sink.written c.args.out.now) (g.O.Sink.written c.loop-most.out) c.loop-most.invariant.way c.next_frame.ensures.took

pub write_frame-written-requires-clause-few : goal.write_frame-written-requires-clause-few
write_frame-written-requires-clause-few g c =
    few_taken c.loop-most.reader.state c.loop-most.dissector c.loop-most.lines.notes c.loop-most.invariant.together c.loop-most.invariant.few

pub write_frame-written-requires-clause-number : goal.write_frame-written-requires-clause-number
write_frame-written-requires-clause-number g c =
    (takeable c.loop-most.reader.state c.next_frame.new.self.state c.loop-most.dissector c.in-Ok-Frame.frame c.loop-most.invariant.together (rw c.in-Ok-Frame.field-0-is at c.in-Ok-Frame.ensures.counts) c.next_frame.ensures.limit).0

pub write_frame-written-requires-clause-time : goal.write_frame-written-requires-clause-time
write_frame-written-requires-clause-time g c =
    (takeable c.loop-most.reader.state c.next_frame.new.self.state c.loop-most.dissector c.in-Ok-Frame.frame c.loop-most.invariant.together (rw c.in-Ok-Frame.field-0-is at c.in-Ok-Frame.ensures.counts) c.next_frame.ensures.limit).1

pub write_frame-written-requires-clause-captured : goal.write_frame-written-requires-clause-captured
write_frame-written-requires-clause-captured g c =
    (takeable c.loop-most.reader.state c.next_frame.new.self.state c.loop-most.dissector c.in-Ok-Frame.frame c.loop-most.invariant.together (rw c.in-Ok-Frame.field-0-is at c.in-Ok-Frame.ensures.counts) c.next_frame.ensures.limit).2

pub returns-in-Err-clause-part : goal.returns-in-Err-clause-part
returns-in-Err-clause-part g c =
    broken_part c.args.plan.now c.loop-most.most (g.C.Capture.left c.args.capture.now) c.loop-most.reader c.next_frame.new.self (g.C.Capture.left c.loop-most.capture) (g.C.Capture.left c.next_frame.new.capture) c.loop-most.dissector c.loop-most.lines.notes c.loop-most.lines.capture (g.O.Sink.written c.args.out.now) (g.O.Sink.written c.loop-most.out) (g.O.Sink.written c.write_frame-written.new.out) c.in-Ok-Frame.frame (c.is_full.ensures.more c.if-is_full.false) c.loop-most.invariant.way (rw c.in-Ok-Frame.field-0-is at c.in-Ok-Frame.ensures.answers) (λ past. c.write_frame-written.ensures.part One past (serves_once c.args.plan.now c.requires.alone))

pub returns-in-Err-clause-broken : goal.returns-in-Err-clause-broken
returns-in-Err-clause-broken g c =
    cut_off c.args.plan.now (g.C.Capture.left c.args.capture.now) (g.C.Capture.left c.next_frame.new.capture) (g.O.Sink.written c.args.out.now) (g.O.Sink.written c.write_frame-written.new.out) c.in-Err.fault (λ is. c.in-Err.ensures.read (ap Err is))
    (broken_near c.args.plan.now c.loop-most.most (g.C.Capture.left c.args.capture.now) c.loop-most.reader c.next_frame.new.self (g.C.Capture.left c.loop-most.capture) (g.C.Capture.left c.next_frame.new.capture) c.loop-most.dissector c.loop-most.lines.notes c.loop-most.lines.capture (g.O.Sink.written c.args.out.now) (g.O.Sink.written c.loop-most.out) (g.O.Sink.written c.write_frame-written.new.out) c.in-Ok-Frame.frame c.loop-most.invariant.way (rw c.in-Ok-Frame.field-0-is at c.in-Ok-Frame.ensures.answers) (λ past. c.write_frame-written.ensures.part One past (serves_once c.args.plan.now c.requires.alone)))

pub returns-in-Err-clause-took : goal.returns-in-Err-clause-took
returns-in-Err-clause-took g c =
    way_took c.args.plan.now c.loop-most.most (g.C.Capture.left c.args.capture.now) c.loop-most.reader (g.C.Capture.left c.loop-most.capture) (g.C.Capture.left c.next_frame.new.capture) c.loop-most.dissector c.loop-most.lines.notes c.loop-most.lines.capture (g.O.Sink.written c.args.out.now) (g.O.Sink.written c.loop-most.out) c.loop-most.invariant.way c.next_frame.ensures.took

pub loop-most-preserved : goal.loop-most-preserved
loop-most-preserved g c =
    record {
      way = rw c.one_less-most.ensures (way_further c.args.plan.now c.loop-most.most (g.C.Capture.left c.args.capture.now) c.loop-most.reader c.next_frame.new.self (g.C.Capture.left c.loop-most.capture) (g.C.Capture.left c.next_frame.new.capture) c.loop-most.dissector c.write_frame-written.new.dissector c.loop-most.lines.notes c.write_frame-written.new.lines.notes c.loop-most.lines.capture c.write_frame-written.new.lines.capture (g.O.Sink.written c.args.out.now) (g.O.Sink.written c.loop-most.out) (g.O.Sink.written c.write_frame-written.new.out) c.in-Ok-Frame.frame (c.is_full.ensures.more c.if-is_full.false) c.loop-most.invariant.way (rw c.in-Ok-Frame.field-0-is at c.in-Ok-Frame.ensures.answers) c.in-Ok-true.ensures.stands (λ past. (rw c.in-Ok-true.field-0-test at c.in-Ok-true.ensures.after) One past (serves_once c.args.plan.now c.requires.alone)));
      together = together_after c.loop-most.reader.state c.next_frame.new.self.state c.loop-most.dissector c.write_frame-written.new.dissector c.in-Ok-Frame.frame c.loop-most.invariant.together (rw c.in-Ok-Frame.field-0-is at c.in-Ok-Frame.ensures.counts) c.next_frame.ensures.limit c.in-Ok-true.ensures.taken c.in-Ok-true.ensures.captured;
      took = way_took c.args.plan.now c.loop-most.most (g.C.Capture.left c.args.capture.now) c.loop-most.reader (g.C.Capture.left c.loop-most.capture) (g.C.Capture.left c.next_frame.new.capture) c.loop-most.dissector c.loop-most.lines.notes c.loop-most.lines.capture (g.O.Sink.written c.args.out.now) (g.O.Sink.written c.loop-most.out) c.loop-most.invariant.way c.next_frame.ensures.took;
      serves = serves_on c.loop-most.dissector c.write_frame-written.new.dissector c.args.plan.now c.write_frame-written.ensures.kept c.write_frame-written.ensures.sparing c.loop-most.invariant.serves;
      rules = ap (λ (decode : DecodeAs). decode.rules) c.write_frame-written.ensures.rules ∙ c.loop-most.invariant.rules;
      stands = (c.in-Ok-Frame.frame ∷ c.loop-most.invariant.stands.0, c.in-Ok-true.ensures.stands c.loop-most.invariant.stands.0 c.loop-most.invariant.stands.1);
      judge = c.write_frame-written.ensures.judge ∙ c.loop-most.invariant.judge;
      writer = c.write_frame-written.ensures.writer ∙ c.loop-most.invariant.writer;
      few = notes_few_after c.loop-most.dissector.taken c.write_frame-written.new.dissector.taken c.write_frame-written.new.lines.notes c.in-Ok-true.ensures.taken (c.write_frame-written.ensures.few c.loop-most.dissector.taken c.loop-most.invariant.few);
      on = record {
        asked = c.next_frame.ensures.asked ∙ c.loop-most.invariant.on.asked;
        begun = c.next_frame.ensures.begun ∙ c.loop-most.invariant.on.begun;
        missed = c.next_frame.ensures.missed ∙ c.loop-most.invariant.on.missed;
      };
      fresh = rw c.in-Ok-Frame.field-0-is at c.in-Ok-Frame.ensures.kept;
      calm = record {
        reads = c.in-Ok-Frame.ensures.no_fault ∙ c.loop-most.invariant.calm.reads;
        writes = calm_ok _ _ _ _ c.in-Ok-true.ensures.calm ∙ c.loop-most.invariant.calm.writes;
      };
    }

pub returns-in-Ok-false-clause-ended : goal.returns-in-Ok-false-clause-ended
returns-in-Ok-false-clause-ended g c =
    way_unfit c.args.plan.now c.loop-most.most (g.C.Capture.left c.args.capture.now) c.loop-most.reader c.next_frame.new.self (g.C.Capture.left c.loop-most.capture) (g.C.Capture.left c.next_frame.new.capture) c.loop-most.dissector c.loop-most.lines.notes c.write_frame-written.new.lines.notes c.loop-most.lines.capture c.write_frame-written.new.lines.capture (g.O.Sink.written c.args.out.now) (g.O.Sink.written c.loop-most.out) (g.O.Sink.written c.write_frame-written.new.out) c.in-Ok-Frame.frame (c.is_full.ensures.more c.if-is_full.false) c.loop-most.invariant.way (rw c.in-Ok-Frame.field-0-is at c.in-Ok-Frame.ensures.answers) (λ past. (rw c.in-Ok-false.field-0-test at c.in-Ok-false.ensures.after) One past (serves_once c.args.plan.now c.requires.alone))

pub returns-in-Ok-false-clause-read : goal.returns-in-Ok-false-clause-read
returns-in-Ok-false-clause-read g c =
    read_unfit c.args.plan.now c.loop-most.most (g.C.Capture.left c.args.capture.now) c.loop-most.reader c.next_frame.new.self (g.C.Capture.left c.loop-most.capture) (g.C.Capture.left c.next_frame.new.capture) c.loop-most.dissector c.write_frame-written.new.dissector c.loop-most.lines.notes c.write_frame-written.new.lines.notes c.loop-most.lines.capture c.write_frame-written.new.lines.capture (g.O.Sink.written c.args.out.now) (g.O.Sink.written c.loop-most.out) (g.O.Sink.written c.write_frame-written.new.out) c.in-Ok-Frame.frame (c.is_full.ensures.more c.if-is_full.false) c.loop-most.invariant.way (rw c.in-Ok-Frame.field-0-is at c.in-Ok-Frame.ensures.answers) (λ past. (rw c.in-Ok-false.field-0-test at c.in-Ok-false.ensures.after) One past (serves_once c.args.plan.now c.requires.alone))

pub returns-in-Ok-false-clause-taken : goal.returns-in-Ok-false-clause-taken
returns-in-Ok-false-clause-taken g c =
    has_taken c.next_frame.new.self.state c.write_frame-written.new.dissector
    (together_after c.loop-most.reader.state c.next_frame.new.self.state c.loop-most.dissector c.write_frame-written.new.dissector c.in-Ok-Frame.frame c.loop-most.invariant.together (rw c.in-Ok-Frame.field-0-is at c.in-Ok-Frame.ensures.counts) c.next_frame.ensures.limit c.in-Ok-false.ensures.taken c.in-Ok-false.ensures.captured)
    (c.in-Ok-Frame.frame ∷ c.loop-most.invariant.stands.0, c.in-Ok-false.ensures.stands c.loop-most.invariant.stands.0 c.loop-most.invariant.stands.1)

pub returns-then-is_full-clause-taken : goal.returns-then-is_full-clause-taken
returns-then-is_full-clause-taken g c = has_taken c.loop-most.reader.state c.loop-most.dissector c.loop-most.invariant.together c.loop-most.invariant.stands

pub returns-in-Ok-End-clause-taken : goal.returns-in-Ok-End-clause-taken
returns-in-Ok-End-clause-taken g c = has_taken c.loop-most.reader.state c.loop-most.dissector c.loop-most.invariant.together c.loop-most.invariant.stands

pub returns-in-Ok-false-clause-full : goal.returns-in-Ok-false-clause-full
returns-in-Ok-false-clause-full g c =
    end_unfit c.args.plan.now c.loop-most.most (g.C.Capture.left c.args.capture.now) c.loop-most.reader c.next_frame.new.self (g.C.Capture.left c.loop-most.capture) (g.C.Capture.left c.next_frame.new.capture) c.loop-most.dissector c.loop-most.lines.notes c.write_frame-written.new.lines.notes c.loop-most.lines.capture c.write_frame-written.new.lines.capture (g.O.Sink.written c.args.out.now) (g.O.Sink.written c.loop-most.out) (g.O.Sink.written c.write_frame-written.new.out) c.in-Ok-Frame.frame (c.is_full.ensures.more c.if-is_full.false) c.loop-most.invariant.way (rw c.in-Ok-Frame.field-0-is at c.in-Ok-Frame.ensures.answers) (λ past. (rw c.in-Ok-false.field-0-test at c.in-Ok-false.ensures.after) One past (serves_once c.args.plan.now c.requires.alone))

pub returns-in-Ok-false-clause-part : goal.returns-in-Ok-false-clause-part
returns-in-Ok-false-clause-part g c =
    broken_part c.args.plan.now c.loop-most.most (g.C.Capture.left c.args.capture.now) c.loop-most.reader c.next_frame.new.self (g.C.Capture.left c.loop-most.capture) (g.C.Capture.left c.next_frame.new.capture) c.loop-most.dissector c.loop-most.lines.notes c.loop-most.lines.capture (g.O.Sink.written c.args.out.now) (g.O.Sink.written c.loop-most.out) (g.O.Sink.written c.write_frame-written.new.out) c.in-Ok-Frame.frame (c.is_full.ensures.more c.if-is_full.false) c.loop-most.invariant.way (rw c.in-Ok-Frame.field-0-is at c.in-Ok-Frame.ensures.answers) (λ past. c.write_frame-written.ensures.part One past (serves_once c.args.plan.now c.requires.alone))

pub returns-in-Ok-false-clause-took : goal.returns-in-Ok-false-clause-took
returns-in-Ok-false-clause-took g c =
    way_took c.args.plan.now c.loop-most.most (g.C.Capture.left c.args.capture.now) c.loop-most.reader (g.C.Capture.left c.loop-most.capture) (g.C.Capture.left c.next_frame.new.capture) c.loop-most.dissector c.loop-most.lines.notes c.loop-most.lines.capture (g.O.Sink.written c.args.out.now) (g.O.Sink.written c.loop-most.out) c.loop-most.invariant.way c.next_frame.ensures.took

pub returns-in-Ok-End-clause-stays : goal.returns-in-Ok-End-clause-stays
returns-in-Ok-End-clause-stays g c =
    read_further (g.C.Capture.asked c.args.capture.now) (g.C.Capture.asked c.loop-most.capture) (g.C.Capture.asked c.next_frame.new.capture) (g.C.Capture.begun c.args.capture.now) (g.C.Capture.begun c.loop-most.capture) (g.C.Capture.begun c.next_frame.new.capture) (g.C.Capture.missed c.args.capture.now) (g.C.Capture.missed c.loop-most.capture) (g.C.Capture.missed c.next_frame.new.capture)
    c.loop-most.invariant.on c.next_frame.ensures.asked c.next_frame.ensures.begun c.next_frame.ensures.missed

pub returns-in-Err-ReadFault-clause-stays : goal.returns-in-Err-ReadFault-clause-stays
returns-in-Err-ReadFault-clause-stays g c =
    read_further (g.C.Capture.asked c.args.capture.now) (g.C.Capture.asked c.loop-most.capture) (g.C.Capture.asked c.next_frame.new.capture) (g.C.Capture.begun c.args.capture.now) (g.C.Capture.begun c.loop-most.capture) (g.C.Capture.begun c.next_frame.new.capture) (g.C.Capture.missed c.args.capture.now) (g.C.Capture.missed c.loop-most.capture) (g.C.Capture.missed c.next_frame.new.capture)
    c.loop-most.invariant.on c.next_frame.ensures.asked c.next_frame.ensures.begun c.next_frame.ensures.missed

pub returns-in-Err-NoMemory-clause-stays : goal.returns-in-Err-NoMemory-clause-stays
returns-in-Err-NoMemory-clause-stays g c =
    read_further (g.C.Capture.asked c.args.capture.now) (g.C.Capture.asked c.loop-most.capture) (g.C.Capture.asked c.next_frame.new.capture) (g.C.Capture.begun c.args.capture.now) (g.C.Capture.begun c.loop-most.capture) (g.C.Capture.begun c.next_frame.new.capture) (g.C.Capture.missed c.args.capture.now) (g.C.Capture.missed c.loop-most.capture) (g.C.Capture.missed c.next_frame.new.capture)
    c.loop-most.invariant.on c.next_frame.ensures.asked c.next_frame.ensures.begun c.next_frame.ensures.missed

pub returns-in-Err-clause-stays : goal.returns-in-Err-clause-stays
returns-in-Err-clause-stays g c =
    read_further (g.C.Capture.asked c.args.capture.now) (g.C.Capture.asked c.loop-most.capture) (g.C.Capture.asked c.next_frame.new.capture) (g.C.Capture.begun c.args.capture.now) (g.C.Capture.begun c.loop-most.capture) (g.C.Capture.begun c.next_frame.new.capture) (g.C.Capture.missed c.args.capture.now) (g.C.Capture.missed c.loop-most.capture) (g.C.Capture.missed c.next_frame.new.capture)
    c.loop-most.invariant.on c.next_frame.ensures.asked c.next_frame.ensures.begun c.next_frame.ensures.missed

pub returns-in-Ok-false-clause-stays : goal.returns-in-Ok-false-clause-stays
returns-in-Ok-false-clause-stays g c =
    read_further (g.C.Capture.asked c.args.capture.now) (g.C.Capture.asked c.loop-most.capture) (g.C.Capture.asked c.next_frame.new.capture) (g.C.Capture.begun c.args.capture.now) (g.C.Capture.begun c.loop-most.capture) (g.C.Capture.begun c.next_frame.new.capture) (g.C.Capture.missed c.args.capture.now) (g.C.Capture.missed c.loop-most.capture) (g.C.Capture.missed c.next_frame.new.capture)
    c.loop-most.invariant.on c.next_frame.ensures.asked c.next_frame.ensures.begun c.next_frame.ensures.missed

pub returns-in-Err-ReadFault-clause-caused : goal.returns-in-Err-ReadFault-clause-caused
returns-in-Err-ReadFault-clause-caused g c = (
  rose_before (g.C.Capture.faults c.args.capture.now) (g.C.Capture.faults c.loop-most.capture) (g.C.Capture.faults c.next_frame.new.capture) c.loop-most.invariant.calm.reads (c.in-Err-ReadFault.ensures.fault (ap Err c.in-Err-ReadFault.field-0-is)),
  c.loop-most.invariant.calm.writes,
)

pub returns-in-Err-clause-caused : goal.returns-in-Err-clause-caused
returns-in-Err-clause-caused g c =
    caused_write (g.C.Capture.faults c.args.capture.now) (g.C.Capture.faults c.next_frame.new.capture) (g.O.Sink.faults c.args.out.now) (g.O.Sink.faults c.write_frame-written.new.out) c.in-Err.fault (c.in-Ok-Frame.ensures.no_fault ∙ c.loop-most.invariant.calm.reads)
    (write_caused (g.O.Sink.faults c.args.out.now) (g.O.Sink.faults c.loop-most.out) (g.O.Sink.faults c.write_frame-written.new.out) c.in-Err.fault c.loop-most.invariant.calm.writes (λ is. c.in-Err.ensures.read (ap Err is)) (λ is. c.in-Err.ensures.fault (ap Err is)) (calm_err c.in-Err.fault WriteFault (g.O.Sink.faults c.loop-most.out) (g.O.Sink.faults c.write_frame-written.new.out) c.in-Err.ensures.calm))

pub returns-in-Err-NoMemory-clause-caused : goal.returns-in-Err-NoMemory-clause-caused
returns-in-Err-NoMemory-clause-caused g c = record {
  reads = c.in-Err-NoMemory.ensures.starved (ap Err c.in-Err-NoMemory.field-0-is) ∙ c.loop-most.invariant.calm.reads;
  writes = c.loop-most.invariant.calm.writes;
}

pub returns-in-Ok-End-clause-calm : goal.returns-in-Ok-End-clause-calm
returns-in-Ok-End-clause-calm g c = record {
  reads = c.in-Ok-End.ensures.no_fault ∙ c.loop-most.invariant.calm.reads;
  writes = c.loop-most.invariant.calm.writes;
}

pub returns-in-Ok-false-clause-calm : goal.returns-in-Ok-false-clause-calm
returns-in-Ok-false-clause-calm g c = record {
  reads = c.in-Ok-Frame.ensures.no_fault ∙ c.loop-most.invariant.calm.reads;
  writes = calm_ok _ _ _ _ c.in-Ok-false.ensures.calm ∙ c.loop-most.invariant.calm.writes;
}

pub returns-in-Ok-false-clause-serves : goal.returns-in-Ok-false-clause-serves
returns-in-Ok-false-clause-serves g c = serves_on c.loop-most.dissector c.write_frame-written.new.dissector c.args.plan.now c.write_frame-written.ensures.kept c.write_frame-written.ensures.sparing c.loop-most.invariant.serves

pub returns-in-Err-Spent-clause-part : goal.returns-in-Err-Spent-clause-part
returns-in-Err-Spent-clause-part g c =
    way_stopped c.args.plan.now c.loop-most.most (g.C.Capture.left c.args.capture.now) c.loop-most.reader (g.C.Capture.left c.loop-most.capture) c.loop-most.dissector c.loop-most.lines.notes c.loop-most.lines.capture (g.O.Sink.written c.args.out.now) (g.O.Sink.written c.loop-most.out) c.loop-most.invariant.way

pub returns-in-Err-Spent-clause-took : goal.returns-in-Err-Spent-clause-took
returns-in-Err-Spent-clause-took g c =
    way_took c.args.plan.now c.loop-most.most (g.C.Capture.left c.args.capture.now) c.loop-most.reader (g.C.Capture.left c.loop-most.capture) (g.C.Capture.left c.next_frame.new.capture) c.loop-most.dissector c.loop-most.lines.notes c.loop-most.lines.capture (g.O.Sink.written c.args.out.now) (g.O.Sink.written c.loop-most.out) c.loop-most.invariant.way c.next_frame.ensures.took

pub returns-in-Err-Spent-clause-stays : goal.returns-in-Err-Spent-clause-stays
returns-in-Err-Spent-clause-stays g c =
    read_further (g.C.Capture.asked c.args.capture.now) (g.C.Capture.asked c.loop-most.capture) (g.C.Capture.asked c.next_frame.new.capture) (g.C.Capture.begun c.args.capture.now) (g.C.Capture.begun c.loop-most.capture) (g.C.Capture.begun c.next_frame.new.capture) (g.C.Capture.missed c.args.capture.now) (g.C.Capture.missed c.loop-most.capture) (g.C.Capture.missed c.next_frame.new.capture)
    c.loop-most.invariant.on c.next_frame.ensures.asked c.next_frame.ensures.begun c.next_frame.ensures.missed

pub returns-in-Err-Spent-clause-caused : goal.returns-in-Err-Spent-clause-caused
returns-in-Err-Spent-clause-caused g c = absurd (never_spent _ c.loop-most.invariant.fresh (c.in-Err-Spent.ensures.spent.0 (ap Err c.in-Err-Spent.field-0-is)))
