use Rattle.std.proofs.Common.{◌≡◌, ◌≤◌, ℕ, List}
use Rattle.capture_read.specs.Answers.{GoesOn, work_left}
use Rattle.capture_read.proofs.position.Position.find_next.Given as goal

-- nothing was answered yet
abbrev pub invariant-loop-next : goal.invariant-loop-next
invariant-loop-next g l = record {
  on : GoesOn l.fn.self l.self (g.C.Capture.left l.fn.capture) (g.C.Capture.left l.capture);
  number : l.self.number ≡ l.fn.self.number;
  at : l.fn.self.at ≤ l.self.at;
  file : (n : List ℕ) → g.C.Capture.file l.capture n ≡ g.C.Capture.file l.fn.capture n;
  asked : g.C.Capture.asked l.capture ≡ g.C.Capture.asked l.fn.capture;
  refused : g.C.Capture.refused l.capture ≡ g.C.Capture.refused l.fn.capture;
  begun : g.C.Capture.begun l.capture ≡ g.C.Capture.begun l.fn.capture;
  missed : g.C.Capture.missed l.capture ≡ g.C.Capture.missed l.fn.capture;
  faults : g.C.Capture.faults l.capture ≡ g.C.Capture.faults l.fn.capture;
}

abbrev pub decreases-loop-next : goal.decreases-loop-next
decreases-loop-next g l = work_left l.self
