use Rattle.std.proofs.Common.{◌≡◌, ◌≤◌, ◌+◌, ◌-◌, ℕ, List, length}
use Rattle.pk_base.specs.Limits.{file_limit}
use Rattle.capture_read.specs.declared.kind.Phase.TheVariants as phase
use Rattle.merge_caps.specs.Reading.{so_far}
use Rattle.merge_caps.proofs.FileSteps.{AreReadTo}
use Rattle.merge_caps.proofs.read_file.read_frames.Given as goal

abbrev pub invariant-loop-frame : goal.invariant-loop-frame
invariant-loop-frame g l = record {
  read : AreReadTo (so_far l.fn.readings) (so_far l.readings) l.latest l.reader (g.C.Capture.left l.capture) (g.C.Capture.left l.fn.capture);
  endings : l.readings.endings.items ≡ l.fn.readings.endings.items;
  place : l.file ≡ length l.fn.readings.endings.items;
  captured : l.readings.captured ≤ l.fn.readings.captured + l.reader.state.at;
  within : l.reader.state.at ≤ file_limit;
  file : (n : List ℕ) → g.C.Capture.file l.capture n ≡ g.C.Capture.file l.fn.capture n;
  asked : g.C.Capture.asked l.capture ≡ g.C.Capture.asked l.fn.capture;
  refused : g.C.Capture.refused l.capture ≡ g.C.Capture.refused l.fn.capture;
  begun : g.C.Capture.begun l.capture ≡ g.C.Capture.begun l.fn.capture;
  missed : g.C.Capture.missed l.capture ≡ g.C.Capture.missed l.fn.capture;
  faults : g.C.Capture.faults l.capture ≡ g.C.Capture.faults l.fn.capture;
  unspent : l.reader.phase ≡ phase.Open;
}

abbrev pub decreases-loop-frame : goal.decreases-loop-frame
decreases-loop-frame g l = file_limit - l.reader.state.at
