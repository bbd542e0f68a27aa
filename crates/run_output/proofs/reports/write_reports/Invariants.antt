use Rattle.std.proofs.Common.{◌≡◌, ℕ, List, drop, ◌++◌}
use Rattle.std.specs.Io.KnownBytes.{Appends}
use Rattle.capture_read.specs.declared.frame.Frame.{Frame}
use Rattle.dissect.specs.Stands.{StandsWithin}
use Rattle.run_frames.specs.Job.{Passes, job_in}
use Rattle.run_frames.specs.Notes.{AreNotes}
use Rattle.run_output.specs.Reports.{reports_text}
use Rattle.run_output.proofs.reports.write_reports.Given as goal

abbrev pub invariant-loop-asked : goal.invariant-loop-asked
invariant-loop-asked g l = record {
  written : (passes : Passes) (past : List Frame) → StandsWithin past l.dissector → AreNotes (job_in l.plan passes) past l.notes → (done : List ℕ) × (done ++ reports_text (job_in l.plan passes) past (drop l.asked-index l.reports) ≡ reports_text (job_in l.plan passes) past l.reports)
      × Appends (g.O.Sink.written l.fn.out) (g.O.Sink.written l.out) done;
  calm : g.O.Sink.faults l.out ≡ g.O.Sink.faults l.fn.out;
}
