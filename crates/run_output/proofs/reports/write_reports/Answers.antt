use Rattle.std.proofs.Common.{◌∙◌}
use Rattle.std.proofs.lemmas.List.Folds.{list_any_at}
use Rattle.run_frames.proofs.CalmLemmas.{calm_ok}
use Rattle.run_frames.specs.Accessors.{is_of_streams}
use Rattle.run_frames.specs.Job.{job_in}
use Rattle.run_output.proofs.ReportLemmas.{is_asked, report_part, report_whole}
use Rattle.run_output.proofs.reports.write_reports.Goals as goal

pub returns-in-Err-clause-part : goal.returns-in-Err-clause-part
returns-in-Err-clause-part g c = λ passes past stands noted.
    let so_far = c.loop-asked.invariant.written passes past stands noted in
    report_part (job_in c.args.plan.now passes) past c.args.reports.now c.loop-asked.asked-index _ so_far.0
    (g.O.Sink.written c.args.out.now) (g.O.Sink.written c.loop-asked.out) (g.O.Sink.written c.write_report.new.out)
    c.loop-asked-test.true so_far.1 so_far.2 (c.write_report.ensures.part passes past stands noted)

pub loop-asked-preserved : goal.loop-asked-preserved
loop-asked-preserved g c = record {
  written = λ passes past stands noted.
      let so_far = c.loop-asked.invariant.written passes past stands noted in
      report_whole (job_in c.args.plan.now passes) past c.args.reports.now c.loop-asked.asked-index _ so_far.0
      (g.O.Sink.written c.args.out.now) (g.O.Sink.written c.loop-asked.out) (g.O.Sink.written c.write_report.new.out)
      c.loop-asked-test.true so_far.1 so_far.2 (c.in-Ok.ensures.whole passes past stands noted);
  calm = calm_ok _ _ _ _ c.in-Ok.ensures.calm ∙ c.loop-asked.invariant.calm;
}

pub write_report-requires-clause-there : goal.write_report-requires-clause-there
write_report-requires-clause-there g c = is_asked c.args.plan.now c.args.reports.now c.loop-asked.asked-index _ c.requires.there c.loop-asked-test.true

pub write_report-requires-clause-streams : goal.write_report-requires-clause-streams
write_report-requires-clause-streams g c = λ is.
    c.requires.streams (list_any_at is_of_streams c.args.reports.now c.loop-asked.asked-index _ c.loop-asked-test.true is)

pub write_report-requires-clause-whole : goal.write_report-requires-clause-whole
write_report-requires-clause-whole g c = λ is.
    c.requires.whole (list_any_at is_of_streams c.args.reports.now c.loop-asked.asked-index _ c.loop-asked-test.true is)

pub returns-in-Err-clause-calm : goal.returns-in-Err-clause-calm
returns-in-Err-clause-calm g c = λ other. c.in-Err.ensures.calm other ∙ c.loop-asked.invariant.calm
