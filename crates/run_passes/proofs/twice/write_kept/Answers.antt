use Rattle.std.proofs.Common.{◌∙◌, ap, sym, subst, refl, Err, ℕ, List, [], ◌∷◌, arith, length, take, drop, ◌-◌}
use Rattle.pk_fields.specs.declared.rules.DecodeAs.{DecodeAs}
use Rattle.pk_outside.proofs.Parts.{part_whole}
use Rattle.run_frames.specs.Fitting.{fitting}
use Rattle.run_frames.specs.Job.{job_in}
use Rattle.run_frames.specs.Pieces.{pieces}
use Rattle.run_frames.proofs.WantedLemmas.{serves_on}
use Rattle.run_frames.specs.declared.frames.RunFault.TheVariants.{WriteFault}
use Rattle.run_frames.proofs.CalmLemmas.{calm_err, calm_ok}
use Rattle.run_frames.proofs.NoteLemmas.{notes_few, notes_few_after}
use Rattle.run_passes.proofs.FaultLemmas.{write_caused}
use Rattle.run_passes.proofs.TwiceLemmas.{all_joined, few_kept, first_takeable, left_first, left_more, serves_still, takeable_after, takeable_begun, through_begun, through_broken, through_closes, through_ended, through_further, through_unfit, through_unfit_closes}
use Rattle.run_passes.proofs.twice.write_kept.Goals as goal

pub loop-left-init : goal.loop-left-init
loop-left-init g c = record {
  past = [];
  joined = c.slice-left.ensures;
  stands = c.requires.stands;
  way = λ passes serves. through_begun (job_in c.args.plan.now passes) c.args.lines.now.notes c.args.lines.now.capture (g.O.Sink.written c.args.out.now) (c.requires.keeps passes);
  takeable = takeable_begun c.args.dissector.now.taken c.args.dissector.now.captured c.slice-left.result.now c.requires.taken c.requires.captured (rw c.slice-left.ensures c.requires.takeable);
  taken = omega (arith, c.requires.taken);
  serves = c.requires.serves;
  same = refl;
  rules = c.requires.rules;
  judge = c.requires.judge;
  writer = c.requires.lines;
  few = notes_few 0 c.args.dissector.now.taken c.args.lines.now.notes (omega arith) c.requires.few;
  calm = refl;
}

pub write_frame-requires-clause-few : goal.write_frame-requires-clause-few
write_frame-requires-clause-few g c = few_kept c.loop-left.dissector.taken c.loop-left.lines.notes c.loop-left.invariant.taken c.loop-left.invariant.few

pub write_frame-requires-clause-number : goal.write_frame-requires-clause-number
write_frame-requires-clause-number g c =
    (first_takeable c.loop-left.dissector.taken c.loop-left.dissector.captured c.loop-left.left.now c.frame-item.result c.frame-item.is c.in-len1-up.len_at_least c.loop-left.invariant.takeable).0.number

pub write_frame-requires-clause-time : goal.write_frame-requires-clause-time
write_frame-requires-clause-time g c =
    (first_takeable c.loop-left.dissector.taken c.loop-left.dissector.captured c.loop-left.left.now c.frame-item.result c.frame-item.is c.in-len1-up.len_at_least c.loop-left.invariant.takeable).0.time

pub write_frame-requires-clause-captured : goal.write_frame-requires-clause-captured
write_frame-requires-clause-captured g c =
    (first_takeable c.loop-left.dissector.taken c.loop-left.dissector.captured c.loop-left.left.now c.frame-item.result c.frame-item.is c.in-len1-up.len_at_least c.loop-left.invariant.takeable).0.bytes

pub returns-in-Err-clause-part : goal.returns-in-Err-clause-part
returns-in-Err-clause-part g c = λ passes serves.
    through_broken (job_in c.args.plan.now passes) c.args.kept.now.frames c.loop-left.invariant.past c.frame-item.result (take (length c.loop-left.left.now - 1) (drop 1 c.loop-left.left.now)) c.args.kept.now.ending
    c.loop-left.lines.notes c.loop-left.lines.capture (g.O.Sink.written c.args.out.now) (g.O.Sink.written c.loop-left.out) (g.O.Sink.written c.write_frame.new.out)
    (left_first c.loop-left.invariant.past c.loop-left.left.now c.args.kept.now.frames c.frame-item.result c.frame-item.is c.in-len1-up.len_at_least c.loop-left.invariant.joined)
    (c.loop-left.invariant.way passes serves)
    (c.write_frame.ensures.part passes c.loop-left.invariant.past (serves_still c.args.dissector.now.wanted c.loop-left.dissector.wanted c.args.plan.now passes c.args.later.now c.loop-left.invariant.same serves) c.loop-left.invariant.stands (c.loop-left.invariant.way passes serves).keeps)

pub returns-in-Ok-false-clause-part : goal.returns-in-Ok-false-clause-part
returns-in-Ok-false-clause-part g c = λ passes serves.
    through_broken (job_in c.args.plan.now passes) c.args.kept.now.frames c.loop-left.invariant.past c.frame-item.result (take (length c.loop-left.left.now - 1) (drop 1 c.loop-left.left.now)) c.args.kept.now.ending
    c.loop-left.lines.notes c.loop-left.lines.capture (g.O.Sink.written c.args.out.now) (g.O.Sink.written c.loop-left.out) (g.O.Sink.written c.write_frame.new.out)
    (left_first c.loop-left.invariant.past c.loop-left.left.now c.args.kept.now.frames c.frame-item.result c.frame-item.is c.in-len1-up.len_at_least c.loop-left.invariant.joined)
    (c.loop-left.invariant.way passes serves)
    (c.write_frame.ensures.part passes c.loop-left.invariant.past (serves_still c.args.dissector.now.wanted c.loop-left.dissector.wanted c.args.plan.now passes c.args.later.now c.loop-left.invariant.same serves) c.loop-left.invariant.stands (c.loop-left.invariant.way passes serves).keeps)

pub returns-in-Ok-false-clause-ended : goal.returns-in-Ok-false-clause-ended
returns-in-Ok-false-clause-ended g c = λ passes serves.
    through_unfit (job_in c.args.plan.now passes) c.args.kept.now.frames c.loop-left.invariant.past c.frame-item.result (take (length c.loop-left.left.now - 1) (drop 1 c.loop-left.left.now)) c.args.kept.now.ending
    c.loop-left.lines.notes c.write_frame.new.lines.notes c.loop-left.lines.capture c.write_frame.new.lines.capture (g.O.Sink.written c.args.out.now) (g.O.Sink.written c.loop-left.out) (g.O.Sink.written c.write_frame.new.out)
    (left_first c.loop-left.invariant.past c.loop-left.left.now c.args.kept.now.frames c.frame-item.result c.frame-item.is c.in-len1-up.len_at_least c.loop-left.invariant.joined)
    (c.loop-left.invariant.way passes serves)
    ((rw c.in-Ok-false.field-0-test at c.in-Ok-false.ensures.after) passes c.loop-left.invariant.past (serves_still c.args.dissector.now.wanted c.loop-left.dissector.wanted c.args.plan.now passes c.args.later.now c.loop-left.invariant.same serves) c.loop-left.invariant.stands (c.loop-left.invariant.way passes serves).keeps)

pub returns-in-Ok-false-clause-read : goal.returns-in-Ok-false-clause-read
returns-in-Ok-false-clause-read g c = λ passes serves.
    through_unfit_closes (job_in c.args.plan.now passes) c.args.kept.now.frames c.loop-left.invariant.past c.frame-item.result (take (length c.loop-left.left.now - 1) (drop 1 c.loop-left.left.now)) c.args.kept.now.ending
    c.write_frame.new.dissector c.loop-left.lines.notes c.write_frame.new.lines.notes c.loop-left.lines.capture c.write_frame.new.lines.capture (g.O.Sink.written c.args.out.now) (g.O.Sink.written c.loop-left.out) (g.O.Sink.written c.write_frame.new.out)
    (left_first c.loop-left.invariant.past c.loop-left.left.now c.args.kept.now.frames c.frame-item.result c.frame-item.is c.in-len1-up.len_at_least c.loop-left.invariant.joined)
    (c.loop-left.invariant.way passes serves)
    ((rw c.in-Ok-false.field-0-test at c.in-Ok-false.ensures.after) passes c.loop-left.invariant.past (serves_still c.args.dissector.now.wanted c.loop-left.dissector.wanted c.args.plan.now passes c.args.later.now c.loop-left.invariant.same serves) c.loop-left.invariant.stands (c.loop-left.invariant.way passes serves).keeps)

pub returns-in-Ok-false-clause-serves : goal.returns-in-Ok-false-clause-serves
returns-in-Ok-false-clause-serves g c = serves_on c.loop-left.dissector c.write_frame.new.dissector c.args.plan.now c.write_frame.ensures.kept c.write_frame.ensures.sparing c.loop-left.invariant.serves

pub returns-in-Ok-false-clause-taken : goal.returns-in-Ok-false-clause-taken
returns-in-Ok-false-clause-taken g c = (
  c.frame-item.result ∷ c.loop-left.invariant.past,
  c.in-Ok-false.ensures.stands c.loop-left.invariant.past c.loop-left.invariant.stands,
  omega (arith, c.in-Ok-false.ensures.taken, (first_takeable c.loop-left.dissector.taken c.loop-left.dissector.captured c.loop-left.left.now c.frame-item.result c.frame-item.is c.in-len1-up.len_at_least c.loop-left.invariant.takeable).0.few),
)

pub loop-left-preserved : goal.loop-left-preserved
loop-left-preserved g c =
    let able = first_takeable c.loop-left.dissector.taken c.loop-left.dissector.captured c.loop-left.left.now c.frame-item.result c.frame-item.is c.in-len1-up.len_at_least c.loop-left.invariant.takeable in
    record {
      past = c.frame-item.result ∷ c.loop-left.invariant.past;
      joined = left_more c.loop-left.invariant.past c.loop-left.left.now c.args.kept.now.frames c.frame-item.result c.frame-item.is c.in-len1-up.len_at_least c.loop-left.invariant.joined;
      stands = c.in-Ok-true.ensures.stands c.loop-left.invariant.past c.loop-left.invariant.stands;
      way = λ passes serves.
          through_further (job_in c.args.plan.now passes) c.loop-left.invariant.past c.frame-item.result c.loop-left.lines.notes c.write_frame.new.lines.notes c.loop-left.lines.capture c.write_frame.new.lines.capture (g.O.Sink.written c.args.out.now) (g.O.Sink.written c.loop-left.out) (g.O.Sink.written c.write_frame.new.out)
          (c.loop-left.invariant.way passes serves)
          ((rw c.in-Ok-true.field-0-test at c.in-Ok-true.ensures.after) passes c.loop-left.invariant.past (serves_still c.args.dissector.now.wanted c.loop-left.dissector.wanted c.args.plan.now passes c.args.later.now c.loop-left.invariant.same serves) c.loop-left.invariant.stands (c.loop-left.invariant.way passes serves).keeps);
      takeable = takeable_after c.loop-left.dissector.taken c.loop-left.dissector.captured c.write_frame.new.dissector.taken c.write_frame.new.dissector.captured c.frame-item.result (take (length c.loop-left.left.now - 1) (drop 1 c.loop-left.left.now))
          able c.in-Ok-true.ensures.taken c.in-Ok-true.ensures.captured;
      taken = omega (arith, c.in-Ok-true.ensures.taken, able.0.few);
      serves = serves_on c.loop-left.dissector c.write_frame.new.dissector c.args.plan.now c.write_frame.ensures.kept c.write_frame.ensures.sparing c.loop-left.invariant.serves;
      same = c.write_frame.ensures.kept ∙ c.loop-left.invariant.same;
      rules = ap (λ (decode : DecodeAs). decode.rules) c.write_frame.ensures.rules ∙ c.loop-left.invariant.rules;
      judge = c.write_frame.ensures.judge ∙ c.loop-left.invariant.judge;
      writer = c.write_frame.ensures.writer ∙ c.loop-left.invariant.writer;
      few = notes_few_after c.loop-left.dissector.taken c.write_frame.new.dissector.taken c.write_frame.new.lines.notes c.in-Ok-true.ensures.taken (c.write_frame.ensures.few c.loop-left.dissector.taken c.loop-left.invariant.few);
      calm = calm_ok _ _ _ _ c.in-Ok-true.ensures.calm ∙ c.loop-left.invariant.calm;
    }

pub returns-clause-ended : goal.returns-clause-ended
returns-clause-ended g c = λ passes serves.
    through_ended (job_in c.args.plan.now passes) c.args.kept.now.frames c.loop-left.invariant.past c.args.kept.now.ending c.loop-left.lines.notes c.loop-left.lines.capture (g.O.Sink.written c.args.out.now) (g.O.Sink.written c.loop-left.out)
    (all_joined c.loop-left.invariant.past c.loop-left.left.now c.args.kept.now.frames c.in_default.len_below c.loop-left.invariant.joined) (c.loop-left.invariant.way passes serves)

pub returns-clause-read : goal.returns-clause-read
returns-clause-read g c = λ passes serves.
    through_closes (job_in c.args.plan.now passes) c.args.kept.now.frames c.loop-left.invariant.past c.args.kept.now.ending c.loop-left.dissector c.loop-left.lines.notes c.loop-left.lines.capture (g.O.Sink.written c.args.out.now) (g.O.Sink.written c.loop-left.out)
    (all_joined c.loop-left.invariant.past c.loop-left.left.now c.args.kept.now.frames c.in_default.len_below c.loop-left.invariant.joined) c.loop-left.invariant.stands (c.loop-left.invariant.way passes serves)

pub returns-clause-part : goal.returns-clause-part
returns-clause-part g c = λ passes serves.
    part_whole (g.O.Sink.written c.args.out.now) (g.O.Sink.written c.loop-left.out) (pieces (job_in c.args.plan.now passes) [] (fitting (job_in c.args.plan.now passes) [] c.args.kept.now.frames c.args.kept.now.ending).frames)
    (through_ended (job_in c.args.plan.now passes) c.args.kept.now.frames c.loop-left.invariant.past c.args.kept.now.ending c.loop-left.lines.notes c.loop-left.lines.capture (g.O.Sink.written c.args.out.now) (g.O.Sink.written c.loop-left.out)
    (all_joined c.loop-left.invariant.past c.loop-left.left.now c.args.kept.now.frames c.in_default.len_below c.loop-left.invariant.joined) (c.loop-left.invariant.way passes serves)).0

pub returns-in-Err-clause-caused : goal.returns-in-Err-clause-caused
returns-in-Err-clause-caused g c =
    write_caused (g.O.Sink.faults c.args.out.now) (g.O.Sink.faults c.loop-left.out) (g.O.Sink.faults c.write_frame.new.out) c.in-Err.fault c.loop-left.invariant.calm (λ is. c.in-Err.ensures.read (ap Err is)) (λ is. c.in-Err.ensures.fault (ap Err is)) (calm_err c.in-Err.fault WriteFault (g.O.Sink.faults c.loop-left.out) (g.O.Sink.faults c.write_frame.new.out) c.in-Err.ensures.calm)

pub returns-in-Ok-false-clause-calm : goal.returns-in-Ok-false-clause-calm
returns-in-Ok-false-clause-calm g c = calm_ok _ _ _ _ c.in-Ok-false.ensures.calm ∙ c.loop-left.invariant.calm
