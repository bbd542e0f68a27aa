use Rattle.std.proofs.Common.{◌≡◌, ◌∙◌, ℕ, arith}
use Rattle.std.proofs.lemmas.Result.{on_ok_weaker}
use Rattle.pk_outside.specs.Outside.{Rose}
use Rattle.run_frames.proofs.CalmLemmas.{calm_ok}
use Rattle.run_frames.specs.Job.{job_in}
use Rattle.run_output.proofs.ClosingLemmas.{among_reports, behind_lines, behind_reports, behind_stats}
use Rattle.run_output.proofs.closing.write_behind_lines.Goals as goal

-- a fault that rose behind a call in which none did
rose_before : (old now new : ℕ) → now ≡ old → Rose now new → Rose old new
rose_before old now new same rose = omega (arith, same, rose)

pub returns-in-Err : goal.returns-in-Err
returns-in-Err g c = record {
  whole = tt;
  part = λ passes past stands noted.
      among_reports (job_in c.args.plan.now passes) past (g.O.Sink.written c.args.out.now) (g.O.Sink.written c.write_reports.new.out) c.requires.lines
      ((rw c.slice.ensures at c.write_reports.ensures.part) passes past stands noted);
  fault = c.in-Err.ensures.fault;
  calm = c.in-Err.ensures.calm;
  faults_stay = c.write_reports.ensures.faults_stay;
}

pub returns-in-Err-write_stats : goal.returns-in-Err-write_stats
returns-in-Err-write_stats g c =
    let reported = calm_ok _ _ _ _ c.in-Ok.ensures.calm in
    record {
      whole = tt;
      part = λ passes past stands noted.
          behind_reports (job_in c.args.plan.now passes) past (g.O.Sink.written c.args.out.now) (g.O.Sink.written c.write_reports.new.out) (g.O.Sink.written c.write_stats.new.out) c.requires.lines
          ((rw c.slice.ensures at c.in-Ok.ensures.whole) passes past stands noted) (c.write_stats.ensures.part passes past noted);
      fault = λ is. rose_before (g.O.Sink.faults c.args.out.now) (g.O.Sink.faults c.write_reports.new.out) (g.O.Sink.faults c.write_stats.new.out) reported (c.in-Err-write_stats.ensures.fault is);
      calm = λ other. c.in-Err-write_stats.ensures.calm other ∙ reported;
      faults_stay = omega (arith, c.write_reports.ensures.faults_stay, c.write_stats.ensures.faults_stay);
    }

pub returns : goal.returns
returns g c =
    let so_far = calm_ok _ _ _ _ c.in-Ok-write_stats.ensures.calm ∙ calm_ok _ _ _ _ c.in-Ok.ensures.calm in
    record {
      whole = on_ok_weaker c.write_counts.result (λ counted passes past stands noted.
          behind_lines (job_in c.args.plan.now passes) past (g.O.Sink.written c.args.out.now) (g.O.Sink.written c.write_reports.new.out) (g.O.Sink.written c.write_stats.new.out) (g.O.Sink.written c.write_counts.new.out) c.requires.lines
          ((rw c.slice.ensures at c.in-Ok.ensures.whole) passes past stands noted) (c.in-Ok-write_stats.ensures.whole passes past noted) (counted passes past stands noted)) c.write_counts.ensures.whole;
      part = λ passes past stands noted.
          behind_stats (job_in c.args.plan.now passes) past (g.O.Sink.written c.args.out.now) (g.O.Sink.written c.write_reports.new.out) (g.O.Sink.written c.write_stats.new.out) (g.O.Sink.written c.write_counts.new.out) c.requires.lines
          ((rw c.slice.ensures at c.in-Ok.ensures.whole) passes past stands noted) (c.in-Ok-write_stats.ensures.whole passes past noted) (c.write_counts.ensures.part passes past stands noted);
      fault = λ is. rose_before (g.O.Sink.faults c.args.out.now) (g.O.Sink.faults c.write_stats.new.out) (g.O.Sink.faults c.write_counts.new.out) so_far (c.write_counts.ensures.fault is);
      calm = λ other. c.write_counts.ensures.calm other ∙ so_far;
      faults_stay = omega (arith, c.write_reports.ensures.faults_stay, c.write_stats.ensures.faults_stay, c.write_counts.ensures.faults_stay);
    }
