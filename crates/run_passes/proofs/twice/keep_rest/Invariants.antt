use Rattle.std.proofs.Common.{◌≡◌, ◌-◌, suc}
use Rattle.capture_read.specs.Taken.{TookAtMost}
use Rattle.capture_read.specs.declared.kind.Phase.TheVariants.{Open}
use Rattle.pk_base.specs.Limits.{file_limit}
use Rattle.run_passes.specs.Passed.{IsReadOn}
use Rattle.run_passes.specs.Takeable.{AreTakeable}
use Rattle.run_passes.proofs.KeepLemmas.{AreCounted, AreKeeping}
use Rattle.run_passes.proofs.twice.keep_rest.Given as goal

abbrev pub invariant-loop-most : goal.invariant-loop-most
invariant-loop-most g l = record {
  way : AreKeeping l.fn.plan l.most (g.C.Capture.left l.fn.capture) l.reader (g.C.Capture.left l.capture) l.frames.items;
  counted : AreCounted l.reader.state l.frames.items;
  takeable : AreTakeable 0 0 l.frames.items;
  took : TookAtMost (suc file_limit) (g.C.Capture.left l.fn.capture) (g.C.Capture.left l.capture);
  on : IsReadOn (g.C.Capture.asked l.fn.capture) (g.C.Capture.asked l.capture) (g.C.Capture.begun l.fn.capture) (g.C.Capture.begun l.capture) (g.C.Capture.missed l.fn.capture) (g.C.Capture.missed l.capture);
  fresh : l.reader.phase ≡ Open;
  calm : g.C.Capture.faults l.capture ≡ g.C.Capture.faults l.fn.capture;
}

abbrev pub decreases-loop-most : goal.decreases-loop-most
decreases-loop-most g l = file_limit - l.reader.state.at
