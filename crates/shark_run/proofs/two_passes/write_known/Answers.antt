use Rattle.std.proofs.Common.{refl}
use Rattle.shark_run.proofs.BodyLemmas.{body_still}
use Rattle.shark_run.proofs.two_passes.write_known.Goals as goal

pub returns-in-Err : goal.returns-in-Err
returns-in-Err g c = record {
  ended = tt;
  part = λ passes serves. body_still c.args.plan.now passes c.args.kept.now.frames c.args.kept.now.ending (g.O.Sink.written c.args.out.now);
  caused = refl;
  calm = tt;
}

pub returns-in-Err-new_dissector : goal.returns-in-Err-new_dissector
returns-in-Err-new_dissector g c = record {
  ended = tt;
  part = λ passes serves. body_still c.args.plan.now passes c.args.kept.now.frames c.args.kept.now.ending (g.O.Sink.written c.args.out.now);
  caused = refl;
  calm = tt;
}

pub returns : goal.returns
returns g c = record {
  ended = rw c.in-Ok-new_dissector.ensures.wanted at c.write_kept_body-ended.ensures.ended;
  part = rw c.in-Ok-new_dissector.ensures.wanted at c.write_kept_body-ended.ensures.part;
  caused = c.write_kept_body-ended.ensures.caused;
  calm = c.write_kept_body-ended.ensures.calm;
}
