use Rattle.std.proofs.Common.{◌≡◌, ◌≤◌, ◌<◌, ◌-◌, ◌+◌, ◌^◌, ◌++◌, ℕ, List, length, take}
use Rattle.std.specs.Io.KnownBytes.{Consumes}
use Rattle.capture_read.proofs.fill.fill.Given as goal

-- the bytes read so far stand behind those held
abbrev pub invariant-loop-len : goal.invariant-loop-len
invariant-loop-len g l = record {
  inside : l.len ≤ length l.room.items;
  within : l.len ≤ l.fn.most;
  few : l.len < l.fn.need + 2 ^ 16;
  read : (got : List ℕ) × (take l.len l.room.items ≡ take l.fn.held l.fn.room.items ++ got) × Consumes (g.C.Capture.left l.fn.capture) (g.C.Capture.left l.capture) got;
  file : (n : List ℕ) → g.C.Capture.file l.capture n ≡ g.C.Capture.file l.fn.capture n;
  asked : g.C.Capture.asked l.capture ≡ g.C.Capture.asked l.fn.capture;
  refused : g.C.Capture.refused l.capture ≡ g.C.Capture.refused l.fn.capture;
  begun : g.C.Capture.begun l.capture ≡ g.C.Capture.begun l.fn.capture;
  missed : g.C.Capture.missed l.capture ≡ g.C.Capture.missed l.fn.capture;
  faults : g.C.Capture.faults l.capture ≡ g.C.Capture.faults l.fn.capture;
}

abbrev pub decreases-loop-len : goal.decreases-loop-len
decreases-loop-len g l = l.fn.most - l.len
