use Rattle.std.proofs.Common.{◌≡◌, ◌++◌, length}
use Rattle.capture_read.proofs.reading.add_frames.Given as goal

-- the frames read, and then those still to come, are those that were to come
abbrev pub invariant-loop-frame : goal.invariant-loop-frame
invariant-loop-frame l = record {
  frames : l.list.items ++ l.held.frames ≡ l.initial.list.items ++ l.initial.held.frames;
  ending : l.held.ending ≡ l.initial.held.ending;
}

abbrev pub decreases-loop-frame : goal.decreases-loop-frame
decreases-loop-frame l = length l.held.frames
