use Rattle.std.proofs.Common.{◌≡◌, ◌≤◌, ◌+◌, ℕ, List, false, length, take}
use Rattle.merge_caps.specs.Reading.{AreSmallUpTo, IsLeftOfOne, is_too_much_of, so_far}
use Rattle.merge_caps.proofs.FilesSteps.{IsReadOf}
use Rattle.merge_caps.proofs.read_files.read_files.Given as goal

abbrev pub invariant-loop-place : goal.invariant-loop-place
invariant-loop-place g l = record {
  read : IsReadOf (g.C.Capture.file l.fn.capture) (take l.place l.names) (so_far l.readings);
  small : AreSmallUpTo (g.C.Capture.file l.fn.capture) l.names l.place;
  little : is_too_much_of (so_far l.readings) ≡ false;
  ends : length l.readings.endings.items ≡ l.place;
  left : IsLeftOfOne (g.C.Capture.file l.fn.capture) l.names (g.C.Capture.left l.fn.capture) (g.C.Capture.left l.capture);
  file : (n : List ℕ) → g.C.Capture.file l.capture n ≡ g.C.Capture.file l.fn.capture n;
  begun : g.C.Capture.begun l.fn.capture ≤ g.C.Capture.begun l.capture;
  few : g.C.Capture.begun l.capture ≤ g.C.Capture.begun l.fn.capture + l.place;
  missed : g.C.Capture.missed l.capture ≡ g.C.Capture.missed l.fn.capture;
  faults : g.C.Capture.faults l.capture ≡ g.C.Capture.faults l.fn.capture;
}
