use Rattle.std.proofs.Common.{◌≡◌, suc, map, drop}
use Rattle.capture_write.specs.Frames.{AreFrames}
use Rattle.merge_caps.specs.Merged.{frame_of}
use Rattle.merge_caps.specs.Written.{fitting_from, unfit_from, written_from}
use Rattle.merge_caps.proofs.WriteSteps.{WroteTo}
use Rattle.merge_caps.proofs.write.write_each.Given as goal

abbrev pub invariant-loop-index : goal.invariant-loop-index
invariant-loop-index g l = record {
  wrote : WroteTo (g.O.Sink.written l.fn.out) (g.O.Sink.written l.out) l.writer (map frame_of (drop l.index l.entries)) (written_from l.fn.writer (map frame_of l.entries));
  unfit : unfit_from (suc l.index) l.writer (map frame_of (drop l.index l.entries)) ≡ unfit_from 1 l.fn.writer (map frame_of l.entries);
  small : AreFrames (fitting_from l.writer (map frame_of (drop l.index l.entries))) → AreFrames (fitting_from l.fn.writer (map frame_of l.entries));
  faults : g.O.Sink.faults l.out ≡ g.O.Sink.faults l.fn.out;
}
