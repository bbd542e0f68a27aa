use Rattle.std.proofs.Common.{refl, suc}
use Rattle.pk_base.specs.Limits.{file_limit}
use Rattle.capture_read.proofs.TakenLemmas.{took_none}
use Rattle.shark_run.proofs.ClosedLemmas.{none_body}
use Rattle.shark_run.proofs.output.write_once.Goals as goal

pub returns-in-Err : goal.returns-in-Err
returns-in-Err g c = record {
  ended = tt;
  full = tt;
  part = none_body c.args.plan.now (g.C.Capture.left c.args.capture.now) (g.O.Sink.written c.args.out.now);
  broken = tt;
  took = took_none (suc file_limit) (g.C.Capture.left c.args.capture.now) (g.C.Capture.left c.args.capture.now) refl;
  caused = record { reads = refl; writes = refl };
  calm = tt;
  stays = record { asked = refl; begun = refl; missed = refl };
}

pub returns-in-Err-needed_dissector : goal.returns-in-Err-needed_dissector
returns-in-Err-needed_dissector g c = record {
  ended = tt;
  full = tt;
  part = none_body c.args.plan.now (g.C.Capture.left c.args.capture.now) (g.O.Sink.written c.args.out.now);
  broken = tt;
  took = took_none (suc file_limit) (g.C.Capture.left c.args.capture.now) (g.C.Capture.left c.args.capture.now) refl;
  caused = record { reads = refl; writes = refl };
  calm = tt;
  stays = record { asked = refl; begun = refl; missed = refl };
}

pub returns : goal.returns
returns g c =
    let w = c.write_body-ended.ensures in
    record {
      ended = w.ended;
      full = w.full;
      part = w.part;
      broken = w.broken;
      took = w.took;
      caused = w.caused;
      calm = w.calm;
      stays = w.stays;
    }
