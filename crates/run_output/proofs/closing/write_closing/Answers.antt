use Rattle.std.proofs.lemmas.Result.{on_ok_weaker}
use Rattle.run_frames.specs.Job.{job_in}
use Rattle.run_output.proofs.ClosingLemmas.{closed_capture, closed_capture_part, closed_line, closed_line_part}
use Rattle.run_output.proofs.closing.write_closing.Goals as goal

pub returns-in-Some : goal.returns-in-Some
returns-in-Some g c = record {
  whole = on_ok_weaker c.write_end.result (λ wrote passes.
      closed_capture c.in-Some.format (job_in c.args.plan.now passes) c.args.dissector.now c.args.lines.now.notes c.args.lines.now.capture (g.O.Sink.written c.args.out.now) (g.O.Sink.written c.write_end.new.out)
      c.in-Some.is wrote) (rw c.replace-writer.ensures.value at c.write_end.ensures.whole);
  part = λ passes.
      closed_capture_part c.in-Some.format (job_in c.args.plan.now passes) c.args.dissector.now c.args.lines.now.notes c.args.lines.now.capture (g.O.Sink.written c.args.out.now) (g.O.Sink.written c.write_end.new.out)
      c.in-Some.is (rw c.replace-writer.ensures.value at c.write_end.ensures.part);
  fault = c.write_end.ensures.fault;
  calm = c.write_end.ensures.calm;
  faults_stay = c.write_end.ensures.faults_stay;
}

pub returns-in-None : goal.returns-in-None
returns-in-None g c = record {
  whole = on_ok_weaker c.write_behind_lines.result (λ wrote passes.
      closed_line (job_in c.args.plan.now passes) c.args.dissector.now c.args.lines.now.notes c.args.lines.now.capture (g.O.Sink.written c.args.out.now) (g.O.Sink.written c.write_behind_lines.new.out)
      c.in-None.is (wrote passes)) c.write_behind_lines.ensures.whole;
  part = λ passes.
      closed_line_part (job_in c.args.plan.now passes) c.args.dissector.now c.args.lines.now.notes c.args.lines.now.capture (g.O.Sink.written c.args.out.now) (g.O.Sink.written c.write_behind_lines.new.out)
      c.in-None.is (c.write_behind_lines.ensures.part passes);
  fault = c.write_behind_lines.ensures.fault;
  calm = c.write_behind_lines.ensures.calm;
  faults_stay = c.write_behind_lines.ensures.faults_stay;
}
