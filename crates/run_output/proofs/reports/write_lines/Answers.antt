use Rattle.std.proofs.Common.{◌∙◌}
use Rattle.run_frames.proofs.CalmLemmas.{calm_counted}
use Rattle.run_output.proofs.ReportLemmas.{line_part, line_whole}
use Rattle.run_output.proofs.reports.write_lines.Goals as goal

pub returns-in-Err-clause-part : goal.returns-in-Err-clause-part
returns-in-Err-clause-part g c =
    line_part c.line_len.result c.loop-rest.rest.now c.args.text.now c.loop-rest.invariant.written.0 c.split_at.result.0.now
    (g.O.Sink.written c.args.out.now) (g.O.Sink.written c.loop-rest.out) (g.O.Sink.written c.write_whole.new.sink)
    c.split_at.ensures.front c.loop-rest.invariant.written.1 c.loop-rest.invariant.written.2 c.write_whole.ensures.part

pub loop-rest-preserved : goal.loop-rest-preserved
loop-rest-preserved g c = record {
  written = line_whole c.line_len.result c.loop-rest.rest.now c.args.text.now c.loop-rest.invariant.written.0 c.split_at.result.0.now c.split_at.result.1.now
      (g.O.Sink.written c.args.out.now) (g.O.Sink.written c.loop-rest.out) (g.O.Sink.written c.write_whole.new.sink)
      c.split_at.ensures.front c.split_at.ensures.back c.loop-rest.invariant.written.1 c.loop-rest.invariant.written.2 c.in-Ok.ensures.whole;
  calm = c.in-Ok.ensures.no_fault ∙ c.loop-rest.invariant.calm;
}

pub returns-in-Err-clause-calm : goal.returns-in-Err-clause-calm
returns-in-Err-clause-calm g c = λ other. calm_counted c.in-Err.fault _ _ _ _ c.in-Err.ensures.counts other ∙ c.loop-rest.invariant.calm
