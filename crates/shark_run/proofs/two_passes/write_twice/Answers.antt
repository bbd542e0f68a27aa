use Rattle.std.proofs.Common.{refl}
use Rattle.std.proofs.lemmas.Result.{IfErr-weaker, IfOk-weaker, on_ok_weaker}
use Rattle.run_passes.proofs.FaultLemmas.{caused_read, caused_write}
use Rattle.shark_run.proofs.ClosedLemmas.{none_body}
use Rattle.shark_run.proofs.BodyLemmas.{twice_some, twice_wrote}
use Rattle.shark_run.proofs.CutLemmas.{again_cut_off, all_ok, near_twice, twice_cut_off}
use Rattle.shark_run.proofs.two_passes.write_twice.Goals as goal

pub returns-in-Err : goal.returns-in-Err
returns-in-Err g c = record {
  ended = tt;
  full = tt;
  part = none_body c.args.plan.now (g.C.Capture.left c.args.capture.now) (g.O.Sink.written c.args.out.now);
  broken = twice_cut_off c.args.plan.now (g.C.Capture.left c.args.capture.now) (g.C.Capture.left c.keep_frames.new.capture) (g.O.Sink.written c.args.out.now)
      (g.C.Capture.faults c.args.capture.now) (g.C.Capture.faults c.keep_frames.new.capture) c.in-Err.fault c.requires c.in-Err.ensures.caused c.in-Err.ensures.broken;
  took = c.keep_frames.ensures.took;
  caused = caused_read (g.C.Capture.faults c.args.capture.now) (g.C.Capture.faults c.keep_frames.new.capture) (g.O.Sink.faults c.args.out.now) (g.O.Sink.faults c.args.out.now)
      c.in-Err.fault refl c.in-Err.ensures.caused;
  calm = tt;
  stays = c.keep_frames.ensures.stays;
}

pub returns : goal.returns
returns g c = record {
  ended = IfOk-weaker c.write_again-ended.result _ _ (λ ending wrote.
      twice_wrote c.args.plan.now (g.C.Capture.left c.args.capture.now) c.in-Ok.kept.frames c.in-Ok.kept.ending ending (g.O.Sink.written c.args.out.now) (g.O.Sink.written c.write_again-ended.new.out)
      c.in-Ok.ensures.read wrote) c.write_again-ended.ensures.ended;
  full = all_ok c.write_again-ended.result _ (λ ending.
      near_twice c.args.plan.now (g.C.Capture.left c.args.capture.now) (g.C.Capture.left c.keep_frames.new.capture) ending c.requires c.in-Ok.ensures.full);
  part = twice_some c.args.plan.now (g.C.Capture.left c.args.capture.now) c.in-Ok.kept.frames c.in-Ok.kept.ending (g.O.Sink.written c.args.out.now) (g.O.Sink.written c.write_again-ended.new.out)
      c.in-Ok.ensures.read c.write_again-ended.ensures.part;
  broken = IfErr-weaker c.write_again-ended.result _ _ (λ fault caused.
      again_cut_off c.args.plan.now (g.C.Capture.left c.args.capture.now) (g.C.Capture.left c.keep_frames.new.capture) (g.O.Sink.written c.args.out.now) (g.O.Sink.written c.write_again-ended.new.out)
      (g.O.Sink.faults c.args.out.now) (g.O.Sink.faults c.write_again-ended.new.out) fault c.requires caused) c.write_again-ended.ensures.caused;
  took = c.keep_frames.ensures.took;
  caused = IfErr-weaker c.write_again-ended.result _ _ (λ fault caused.
      caused_write (g.C.Capture.faults c.args.capture.now) (g.C.Capture.faults c.keep_frames.new.capture) (g.O.Sink.faults c.args.out.now) (g.O.Sink.faults c.write_again-ended.new.out)
      fault c.in-Ok.ensures.calm caused) c.write_again-ended.ensures.caused;
  calm = on_ok_weaker c.write_again-ended.result (λ calm. record { reads = c.in-Ok.ensures.calm; writes = calm }) c.write_again-ended.ensures.calm;
  stays = c.keep_frames.ensures.stays;
}
