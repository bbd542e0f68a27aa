use Rattle.std.proofs.Common.{◌∙◌, [], map, refl}
use Rattle.std.proofs.KnownBytes.{Appends-nil}
use Rattle.capture_write.specs.Frames.{AreFrames}
use Rattle.merge_caps.specs.Merged.{frame_of}
use Rattle.merge_caps.specs.Written.{fitting_from, unfit_from, written_from}
use Rattle.merge_caps.proofs.WriteSteps.{part_ended, small_ended, small_further, small_unfit, unfit_ended, unfit_further, unfit_here, wrote_ended, wrote_further, wrote_part, wrote_unfit}
use Rattle.merge_caps.proofs.write.write_each.Goals as goal

pub returns-in-Err-clause-part : goal.returns-in-Err-clause-part
returns-in-Err-clause-part g c =
    wrote_part c.args.entries.now c.loop-index.index c.index-entries-index.result c.loop-index-test.true c.index-entries-index.is
    (g.O.Sink.written c.args.out.now) (g.O.Sink.written c.loop-index.out) (g.O.Sink.written c.write_frame.new.out) c.loop-index.writer
    (written_from c.args.writer.now (map frame_of c.args.entries.now)) c.loop-index.invariant.wrote c.write_frame.ensures.part

pub loop-index-preserved : goal.loop-index-preserved
loop-index-preserved g c =
    let steps = rw c.in-Ok-true.field-0-test at c.in-Ok-true.ensures.steps in
    record {
      wrote = wrote_further c.args.entries.now c.loop-index.index c.index-entries-index.result c.loop-index-test.true c.index-entries-index.is
          (g.O.Sink.written c.args.out.now) (g.O.Sink.written c.loop-index.out) (g.O.Sink.written c.write_frame.new.out) c.loop-index.writer c.write_frame.new.writer
          (written_from c.args.writer.now (map frame_of c.args.entries.now)) c.loop-index.invariant.wrote steps;
      unfit = unfit_further c.args.entries.now c.loop-index.index c.index-entries-index.result c.loop-index-test.true c.index-entries-index.is
          c.loop-index.writer c.write_frame.new.writer (g.O.Sink.written c.loop-index.out) (g.O.Sink.written c.write_frame.new.out)
          (unfit_from 1 c.args.writer.now (map frame_of c.args.entries.now)) c.loop-index.invariant.unfit steps;
      small = small_further c.args.entries.now c.loop-index.index c.index-entries-index.result c.loop-index-test.true c.index-entries-index.is
          c.loop-index.writer c.write_frame.new.writer (g.O.Sink.written c.loop-index.out) (g.O.Sink.written c.write_frame.new.out)
          (AreFrames (fitting_from c.args.writer.now (map frame_of c.args.entries.now))) c.write_frame.ensures.small steps c.loop-index.invariant.small;
      faults = c.in-Ok-true.ensures.no_fault ∙ c.loop-index.invariant.faults;
    }

pub returns-in-Ok-false-clause-small : goal.returns-in-Ok-false-clause-small
returns-in-Ok-false-clause-small g c =
    let steps = rw c.in-Ok-false.field-0-test at c.in-Ok-false.ensures.steps in
    c.loop-index.invariant.small
    (small_unfit c.args.entries.now c.loop-index.index c.index-entries-index.result c.loop-index-test.true c.index-entries-index.is
    c.loop-index.writer c.write_frame.new.writer (g.O.Sink.written c.loop-index.out) (g.O.Sink.written c.write_frame.new.out) steps)

pub returns-clause-small : goal.returns-clause-small
returns-clause-small g c =
    c.loop-index.invariant.small (small_ended c.args.entries.now c.loop-index.index c.loop-index.writer c.loop-index-test.false)

pub loop-index-init : goal.loop-index-init
loop-index-init g c = record {
  wrote = ([], Appends-nil (g.O.Sink.written c.args.out.now), refl);
  unfit = refl;
  small = λ all. all;
  faults = refl;
}

pub returns-in-Ok-false-clause-whole : goal.returns-in-Ok-false-clause-whole
returns-in-Ok-false-clause-whole g c =
    let steps = rw c.in-Ok-false.field-0-test at c.in-Ok-false.ensures.steps in
    wrote_unfit c.args.entries.now c.loop-index.index c.index-entries-index.result c.loop-index-test.true c.index-entries-index.is
    (g.O.Sink.written c.args.out.now) (g.O.Sink.written c.loop-index.out) (g.O.Sink.written c.write_frame.new.out) c.loop-index.writer c.write_frame.new.writer
    (written_from c.args.writer.now (map frame_of c.args.entries.now)) c.loop-index.invariant.wrote steps

pub returns-in-Ok-false-clause-unfit : goal.returns-in-Ok-false-clause-unfit
returns-in-Ok-false-clause-unfit g c =
    let steps = rw c.in-Ok-false.field-0-test at c.in-Ok-false.ensures.steps in
    unfit_here c.args.entries.now c.loop-index.index c.index-entries-index.result c.loop-index-test.true c.index-entries-index.is
    c.loop-index.writer c.write_frame.new.writer (g.O.Sink.written c.loop-index.out) (g.O.Sink.written c.write_frame.new.out)
    (unfit_from 1 c.args.writer.now (map frame_of c.args.entries.now)) c.loop-index.invariant.unfit steps

pub returns-in-Ok-false-clause-part : goal.returns-in-Ok-false-clause-part
returns-in-Ok-false-clause-part g c =
    wrote_part c.args.entries.now c.loop-index.index c.index-entries-index.result c.loop-index-test.true c.index-entries-index.is
    (g.O.Sink.written c.args.out.now) (g.O.Sink.written c.loop-index.out) (g.O.Sink.written c.write_frame.new.out) c.loop-index.writer
    (written_from c.args.writer.now (map frame_of c.args.entries.now)) c.loop-index.invariant.wrote c.write_frame.ensures.part

pub returns-clause-whole : goal.returns-clause-whole
returns-clause-whole g c =
    wrote_ended c.args.entries.now c.loop-index.index (g.O.Sink.written c.args.out.now) (g.O.Sink.written c.loop-index.out) c.loop-index.writer
    (written_from c.args.writer.now (map frame_of c.args.entries.now)) c.loop-index-test.false c.loop-index.invariant.wrote

pub returns-clause-unfit : goal.returns-clause-unfit
returns-clause-unfit g c =
    unfit_ended c.args.entries.now c.loop-index.index c.loop-index.writer (unfit_from 1 c.args.writer.now (map frame_of c.args.entries.now)) c.loop-index-test.false c.loop-index.invariant.unfit

pub returns-clause-part : goal.returns-clause-part
returns-clause-part g c =
    part_ended (g.O.Sink.written c.args.out.now) (g.O.Sink.written c.loop-index.out) c.loop-index.writer (written_from c.args.writer.now (map frame_of c.args.entries.now))
    (wrote_ended c.args.entries.now c.loop-index.index (g.O.Sink.written c.args.out.now) (g.O.Sink.written c.loop-index.out) c.loop-index.writer
    (written_from c.args.writer.now (map frame_of c.args.entries.now)) c.loop-index-test.false c.loop-index.invariant.wrote)
