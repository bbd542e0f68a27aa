use Rattle.std.proofs.Common.{◌≡◌, ◌-◌, suc, List}
use Rattle.capture_read.specs.declared.frame.Frame.{Frame}
use Rattle.capture_read.specs.declared.kind.Phase.TheVariants.{Open}
use Rattle.dissect.specs.Stands.{StandsWithin}
use Rattle.run_frames.specs.Accessors.{compiled_of, rules_of}
use Rattle.pk_base.specs.Limits.{file_limit}
use Rattle.capture_read.specs.Taken.{TookAtMost}
use Rattle.run_frames.specs.Notes.{AreFewNotes}
use Rattle.run_passes.specs.Passed.{IsCalm, IsReadOn}
use Rattle.run_passes.proofs.Together.{AreTogether}
use Rattle.run_passes.proofs.WayLemmas.{AreOnTheWay}
use Rattle.run_frames.specs.Wanted.{ServesPlan}
use Rattle.run_passes.proofs.once.write_each.Given as goal

abbrev pub invariant-loop-most : goal.invariant-loop-most
invariant-loop-most g l = record {
  way : AreOnTheWay l.plan l.most (g.C.Capture.left l.fn.capture) l.reader (g.C.Capture.left l.capture) l.dissector l.lines.notes l.lines.capture (g.O.Sink.written l.fn.out) (g.O.Sink.written l.out);
  together : AreTogether l.reader.state l.dissector;
  took : TookAtMost (suc file_limit) (g.C.Capture.left l.fn.capture) (g.C.Capture.left l.capture);
  serves : ServesPlan l.dissector l.plan;
  rules : l.dissector.decode.rules ≡ rules_of l.plan;
  stands : (past : List Frame) × StandsWithin past l.dissector;
  judge : l.lines.judge ≡ compiled_of l.plan;
  writer : l.lines.writer ≡ l.plan.fields;
  few : AreFewNotes l.dissector.taken l.lines.notes;
  on : IsReadOn (g.C.Capture.asked l.fn.capture) (g.C.Capture.asked l.capture) (g.C.Capture.begun l.fn.capture) (g.C.Capture.begun l.capture) (g.C.Capture.missed l.fn.capture) (g.C.Capture.missed l.capture);
  fresh : l.reader.phase ≡ Open;
  calm : IsCalm (g.C.Capture.faults l.fn.capture) (g.C.Capture.faults l.capture) (g.O.Sink.faults l.fn.out) (g.O.Sink.faults l.out);
}

abbrev pub decreases-loop-most : goal.decreases-loop-most
decreases-loop-most g l = file_limit - l.reader.state.at
