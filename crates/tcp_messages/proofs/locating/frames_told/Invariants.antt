use Rattle.std.proofs.Common.{◌≡◌, ◌++◌, drop}
use Rattle.tcp_messages.proofs.Sources.{all_frames}
use Rattle.tcp_messages.proofs.locating.frames_told.Given as goal

abbrev pub invariant-loop-message : goal.invariant-loop-message
invariant-loop-message l = l.frames.items ++ all_frames (drop l.message-index l.shown) ≡ all_frames l.shown
