use Rattle.std.proofs.Common.{◌∙◌}
use Rattle.run_frames.proofs.CalmLemmas.{calm_ok}
use Rattle.shark_run.proofs.ClosedLemmas.{closed_near, closed_part, closed_whole, some_body}
use Rattle.shark_run.proofs.CutLemmas.{body_cut_off, closing_caused, closing_cut_off}
use Rattle.shark_run.proofs.output.write_body.Goals as goal

pub returns-in-Err : goal.returns-in-Err
returns-in-Err g c = record {
  ended = tt;
  full = tt;
  part = some_body c.args.plan.now (g.C.Capture.left c.args.capture.now) (g.O.Sink.written c.args.out.now) (g.O.Sink.written c.write_rest.new.out) c.write_rest.ensures.part;
  broken = body_cut_off c.args.plan.now (g.C.Capture.left c.args.capture.now) (g.C.Capture.left c.write_rest.new.capture) (g.O.Sink.written c.args.out.now) (g.O.Sink.written c.write_rest.new.out) c.in-Err.fault c.in-Err.ensures.broken;
  took = c.write_rest.ensures.took;
  caused = c.in-Err.ensures.caused;
  calm = tt;
  stays = c.write_rest.ensures.stays;
}

pub returns-in-Ok-write_closing : goal.returns-in-Ok-write_closing
returns-in-Ok-write_closing g c = record {
  ended = closed_whole c.args.plan.now (g.C.Capture.left c.args.capture.now) c.in-Ok.ending c.write_rest.new.dissector c.write_rest.new.lines.notes c.write_rest.new.lines.capture (g.O.Sink.written c.args.out.now) (g.O.Sink.written c.write_rest.new.out) (g.O.Sink.written c.write_closing.new.out)
      c.in-Ok.ensures.ended c.in-Ok.ensures.read c.in-Ok-write_closing.ensures.whole;
  full = c.in-Ok.ensures.full;
  part = closed_part c.args.plan.now (g.C.Capture.left c.args.capture.now) c.in-Ok.ending c.write_rest.new.dissector c.write_rest.new.lines.notes c.write_rest.new.lines.capture (g.O.Sink.written c.args.out.now) (g.O.Sink.written c.write_rest.new.out) (g.O.Sink.written c.write_closing.new.out)
      c.in-Ok.ensures.ended c.in-Ok.ensures.read c.write_closing.ensures.part;
  broken = tt;
  took = c.write_rest.ensures.took;
  caused = tt;
  calm = record { reads = c.in-Ok.ensures.calm.reads; writes = calm_ok _ _ _ _ c.in-Ok-write_closing.ensures.calm ∙ c.in-Ok.ensures.calm.writes };
  stays = c.write_rest.ensures.stays;
}

pub returns-in-Err-write_closing : goal.returns-in-Err-write_closing
returns-in-Err-write_closing g c = record {
  ended = tt;
  full = tt;
  part = closed_part c.args.plan.now (g.C.Capture.left c.args.capture.now) c.in-Ok.ending c.write_rest.new.dissector c.write_rest.new.lines.notes c.write_rest.new.lines.capture (g.O.Sink.written c.args.out.now) (g.O.Sink.written c.write_rest.new.out) (g.O.Sink.written c.write_closing.new.out)
      c.in-Ok.ensures.ended c.in-Ok.ensures.read c.write_closing.ensures.part;
  broken = closing_cut_off c.args.plan.now (g.C.Capture.left c.args.capture.now) (g.C.Capture.left c.write_rest.new.capture) (g.O.Sink.written c.args.out.now) (g.O.Sink.written c.write_closing.new.out)
      (closed_near c.args.plan.now (g.C.Capture.left c.args.capture.now) c.in-Ok.ending c.write_rest.new.dissector c.write_rest.new.lines.notes c.write_rest.new.lines.capture (g.C.Capture.left c.write_rest.new.capture) (g.O.Sink.written c.args.out.now) (g.O.Sink.written c.write_rest.new.out) (g.O.Sink.written c.write_closing.new.out)
      c.in-Ok.ensures.ended c.in-Ok.ensures.read c.write_closing.ensures.part) c.in-Err-write_closing.fault c.run_fault.result c.run_fault.ensures;
  took = c.write_rest.ensures.took;
  caused = closing_caused c.in-Err-write_closing.fault c.run_fault.result _ _ _ _ _ c.run_fault.ensures c.in-Ok.ensures.calm.reads c.in-Ok.ensures.calm.writes c.in-Err-write_closing.ensures.fault c.in-Err-write_closing.ensures.calm;
  calm = tt;
  stays = c.write_rest.ensures.stays;
}
