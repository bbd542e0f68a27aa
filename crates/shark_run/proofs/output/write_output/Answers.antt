use Rattle.std.proofs.Common.{Err, ap, refl, suc}
use Rattle.pk_base.specs.Limits.{file_limit}
use Rattle.capture_read.proofs.TakenLemmas.{took_none}
use Rattle.run_passes.proofs.FaultLemmas.{caused_write}
use Rattle.shark_run.proofs.CutLemmas.{calm_behind, caused_behind, cut_off_behind, opening_cut_off}
use Rattle.shark_run.proofs.OpeningLemmas.{all_ended_behind, part_behind, part_opened}
use Rattle.shark_run.proofs.output.write_output.Goals as goal

pub returns-in-Ok : goal.returns-in-Ok
returns-in-Ok g c = record {
  ended = all_ended_behind c.write_frames.result c.args.plan.now (g.C.Capture.left c.args.capture.now) (g.O.Sink.written c.args.out.now) (g.O.Sink.written c.write_opening.new.out) (g.O.Sink.written c.write_frames.new.out) c.in-Ok.ensures.whole c.write_frames.ensures.ended;
  full = c.write_frames.ensures.full;
  part = part_behind c.args.plan.now (g.C.Capture.left c.args.capture.now) (g.O.Sink.written c.args.out.now) (g.O.Sink.written c.write_opening.new.out) (g.O.Sink.written c.write_frames.new.out) c.in-Ok.ensures.whole c.write_frames.ensures.part;
  broken = cut_off_behind c.write_frames.result c.args.plan.now (g.C.Capture.left c.args.capture.now) (g.C.Capture.left c.write_frames.new.capture) (g.O.Sink.written c.args.out.now) (g.O.Sink.written c.write_opening.new.out) (g.O.Sink.written c.write_frames.new.out) c.in-Ok.ensures.whole c.write_frames.ensures.broken;
  took = c.write_frames.ensures.took;
  caused = caused_behind c.write_frames.result (g.C.Capture.faults c.args.capture.now) (g.C.Capture.faults c.write_frames.new.capture) (g.O.Sink.faults c.args.out.now) (g.O.Sink.faults c.write_opening.new.out) (g.O.Sink.faults c.write_frames.new.out) c.in-Ok.ensures.calm c.write_frames.ensures.caused;
  calm = calm_behind c.write_frames.result (g.C.Capture.faults c.args.capture.now) (g.C.Capture.faults c.write_frames.new.capture) (g.O.Sink.faults c.args.out.now) (g.O.Sink.faults c.write_opening.new.out) (g.O.Sink.faults c.write_frames.new.out) c.in-Ok.ensures.calm c.write_frames.ensures.calm;
  stays = c.write_frames.ensures.stays;
}

pub returns-in-Err : goal.returns-in-Err
returns-in-Err g c = record {
  ended = tt;
  full = tt;
  part = part_opened c.args.plan.now (g.C.Capture.left c.args.capture.now) (g.O.Sink.written c.args.out.now) (g.O.Sink.written c.write_opening.new.out) c.write_opening.ensures.part;
  broken = opening_cut_off c.args.plan.now (g.C.Capture.left c.args.capture.now) (g.O.Sink.written c.args.out.now) (g.O.Sink.written c.write_opening.new.out) (g.O.Sink.faults c.args.out.now) (g.O.Sink.faults c.write_opening.new.out) c.in-Err.fault c.in-Err.ensures.caused (λ is. c.in-Err.ensures.some (ap Err is)) c.write_opening.ensures.part;
  took = took_none (suc file_limit) (g.C.Capture.left c.args.capture.now) (g.C.Capture.left c.args.capture.now) refl;
  caused = caused_write (g.C.Capture.faults c.args.capture.now) (g.C.Capture.faults c.args.capture.now) (g.O.Sink.faults c.args.out.now) (g.O.Sink.faults c.write_opening.new.out) c.in-Err.fault refl c.in-Err.ensures.caused;
  calm = tt;
  stays = record { asked = refl; begun = refl; missed = refl };
}
