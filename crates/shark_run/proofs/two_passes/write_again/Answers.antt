use Rattle.std.proofs.Common.{refl}
use Rattle.std.proofs.lemmas.Result.{IfOk-weaker}
use Rattle.run_frames.specs.Accessors.{rules_of, two_of}
use Rattle.run_frames.specs.Job.{passes_by}
use Rattle.shark_run.proofs.BodyLemmas.{body_none}
use Rattle.shark_run.proofs.two_passes.write_again.Goals as goal

pub returns-in-Err : goal.returns-in-Err
returns-in-Err g c = record {
  ended = tt;
  part = body_none c.args.plan.now (record { frames = c.args.kept.now.frames; ending = c.args.kept.now.ending }) (g.O.Sink.written c.args.out.now);
  caused = refl;
  calm = tt;
}

pub returns : goal.returns
returns g c = record {
  ended = IfOk-weaker c.write_known-ended.result _ _
      (λ ending wrote. wrote (passes_by (two_of c.args.plan.now) (rules_of c.args.plan.now) c.args.kept.now.frames) (rw (← c.slice.ensures) c.in-Ok.ensures)) c.write_known-ended.ensures.ended;
  part = c.write_known-ended.ensures.part (passes_by (two_of c.args.plan.now) (rules_of c.args.plan.now) c.args.kept.now.frames) (rw (← c.slice.ensures) c.in-Ok.ensures);
  caused = c.write_known-ended.ensures.caused;
  calm = c.write_known-ended.ensures.calm;
}
