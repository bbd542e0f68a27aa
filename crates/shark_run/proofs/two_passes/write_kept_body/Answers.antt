use Rattle.std.proofs.Common.{[], ◌∙◌, reverse, arith}
use Rattle.run_frames.proofs.CalmLemmas.{calm_ok}
use Rattle.run_frames.specs.Fitting.{fitting}
use Rattle.run_frames.specs.Job.{job_in}
use Rattle.shark_run.proofs.BodyLemmas.{body_broken, body_closing, body_kept}
use Rattle.shark_run.proofs.CutLemmas.{write_caused}
use Rattle.shark_run.proofs.two_passes.write_kept_body.Goals as goal

pub returns-in-Err : goal.returns-in-Err
returns-in-Err g c = record {
  ended = tt;
  part = λ passes serves. body_broken c.args.plan.now passes c.args.kept.now.frames c.args.kept.now.ending (g.O.Sink.written c.args.out.now) (g.O.Sink.written c.write_kept.new.out) (c.write_kept.ensures.part passes serves);
  caused = c.in-Err.ensures.caused;
  calm = tt;
  faults_stay = c.write_kept.ensures.faults_stay;
}

pub returns-in-Ok-write_closing : goal.returns-in-Ok-write_closing
returns-in-Ok-write_closing g c = record {
  ended = λ passes serves. body_kept c.args.plan.now passes c.args.kept.now.frames c.args.kept.now.ending c.in-Ok.ending (g.O.Sink.written c.args.out.now) (g.O.Sink.written c.write_kept.new.out) (g.O.Sink.written c.write_closing.new.out) (c.in-Ok.ensures.ended passes serves) (c.in-Ok-write_closing.ensures.whole passes (reverse (fitting (job_in c.args.plan.now passes) [] c.args.kept.now.frames c.args.kept.now.ending).frames) (c.in-Ok.ensures.read passes serves));
  part = λ passes serves. body_closing c.args.plan.now passes c.args.kept.now.frames c.args.kept.now.ending c.in-Ok.ending (g.O.Sink.written c.args.out.now) (g.O.Sink.written c.write_kept.new.out) (g.O.Sink.written c.write_closing.new.out) (c.in-Ok.ensures.ended passes serves) (c.write_closing.ensures.part passes (reverse (fitting (job_in c.args.plan.now passes) [] c.args.kept.now.frames c.args.kept.now.ending).frames) (c.in-Ok.ensures.read passes serves));
  caused = tt;
  calm = calm_ok _ _ _ _ c.in-Ok-write_closing.ensures.calm ∙ c.in-Ok.ensures.calm;
  faults_stay = omega (arith, c.write_kept.ensures.faults_stay, c.write_closing.ensures.faults_stay);
}

pub returns-in-Err-write_closing : goal.returns-in-Err-write_closing
returns-in-Err-write_closing g c = record {
  ended = tt;
  part = λ passes serves. body_closing c.args.plan.now passes c.args.kept.now.frames c.args.kept.now.ending c.in-Ok.ending (g.O.Sink.written c.args.out.now) (g.O.Sink.written c.write_kept.new.out) (g.O.Sink.written c.write_closing.new.out) (c.in-Ok.ensures.ended passes serves) (c.write_closing.ensures.part passes (reverse (fitting (job_in c.args.plan.now passes) [] c.args.kept.now.frames c.args.kept.now.ending).frames) (c.in-Ok.ensures.read passes serves));
  caused = write_caused c.in-Err-write_closing.fault c.run_fault.result _ _ _ c.run_fault.ensures c.in-Ok.ensures.calm c.in-Err-write_closing.ensures.fault c.in-Err-write_closing.ensures.calm;
  calm = tt;
  faults_stay = omega (arith, c.write_kept.ensures.faults_stay, c.write_closing.ensures.faults_stay);
}
