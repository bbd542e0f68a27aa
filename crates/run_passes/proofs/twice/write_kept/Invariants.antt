use Rattle.std.proofs.Common.{◌≡◌, ◌≤◌, List, length, ◌++◌, reverse}
use Rattle.capture_read.specs.declared.frame.Frame.{Frame}
use Rattle.dissect.specs.Stands.{StandsWithin}
use Rattle.pk_base.specs.Limits.{file_limit}
use Rattle.run_frames.specs.Accessors.{compiled_of, rules_of, two_of}
use Rattle.run_frames.specs.Job.{Passes, job_in}
use Rattle.run_frames.specs.Later.{ServesKept}
use Rattle.run_frames.specs.Notes.{AreFewNotes}
use Rattle.run_passes.specs.Takeable.{AreTakeable}
use Rattle.run_frames.specs.Wanted.{ServesPlan}
use Rattle.run_passes.proofs.TwiceLemmas.{IsThrough}
use Rattle.run_passes.proofs.twice.write_kept.Given as goal

abbrev pub invariant-loop-left : goal.invariant-loop-left
invariant-loop-left g l = record {
  past : List Frame;
  joined : reverse past ++ l.left ≡ l.kept.frames;
  stands : StandsWithin past l.dissector;
  way : (passes : Passes) → ServesKept l.fn.dissector.wanted (two_of l.plan) passes l.later → IsThrough (job_in l.plan passes) past l.lines.notes l.lines.capture (g.O.Sink.written l.fn.out) (g.O.Sink.written l.out);
  takeable : AreTakeable l.dissector.taken l.dissector.captured l.left;
  taken : l.dissector.taken ≤ file_limit;
  serves : ServesPlan l.dissector l.plan;
  same : l.dissector.wanted ≡ l.fn.dissector.wanted;
  rules : l.dissector.decode.rules ≡ rules_of l.plan;
  judge : l.lines.judge ≡ compiled_of l.plan;
  writer : l.lines.writer ≡ l.plan.fields;
  few : AreFewNotes l.dissector.taken l.lines.notes;
  calm : g.O.Sink.faults l.out ≡ g.O.Sink.faults l.fn.out;
}

abbrev pub decreases-loop-left : goal.decreases-loop-left
decreases-loop-left g l = length l.left
