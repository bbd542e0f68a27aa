use Rattle.std.proofs.Common.{◌≡◌, false, List, length, map, ◌++◌, reverse}
use Rattle.capture_read.specs.declared.frame.Frame.{Frame}
use Rattle.dissect.specs.Stands.{StandsWithin}
use Rattle.second_pass.specs.Laws.{kept_noted}
use Rattle.second_pass.specs.Stands.{Stands}
use Rattle.run_frames.specs.Job.{noted_of}
use Rattle.run_passes.specs.Takeable.{AreTakeable}
use Rattle.run_passes.proofs.twice.note_all.Given as goal

abbrev pub invariant-loop-left : goal.invariant-loop-left
invariant-loop-left l = record {
  past : List Frame;
  joined : reverse past ++ l.left ≡ l.frames;
  stands : StandsWithin past l.dissector;
  noted : Stands (map (kept_noted l.fn.dissector.wanted) (noted_of l.fn.dissector.decode.rules past)) l.links;
  rules : l.dissector.decode ≡ l.fn.dissector.decode;
  wanted : l.dissector.wanted ≡ l.fn.dissector.wanted;
  whole : l.dissector.sparing ≡ false;
  takeable : AreTakeable l.dissector.taken l.dissector.captured l.left;
}

abbrev pub decreases-loop-left : goal.decreases-loop-left
decreases-loop-left l = length l.left
