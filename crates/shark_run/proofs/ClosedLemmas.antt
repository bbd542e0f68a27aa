-- What was written behind the opening, up to the end.
use Rattle.std.proofs.Common.{◌≡◌, ℕ, List, [], Option, None, Some, inl, inr, reverse}
use Rattle.std.specs.Prelude.{IfSome}
use Rattle.std.specs.Io.KnownBytes.{Appends}
use Rattle.std.proofs.KnownBytes.{Appends-trans}
use Rattle.pk_outside.specs.Outside.{AppendsPart}
use Rattle.pk_outside.proofs.Parts.{part_after, part_more, part_none}
use Rattle.capture_write.specs.Kept.{Kept}
use Rattle.run_frames.specs.declared.run_ending.RunEnding.{RunEnding}
use Rattle.capture_read.specs.declared.frame.Frame.{Frame}
use Rattle.dissect.specs.Stands.{DissectorShown}
use Rattle.run_frames.specs.declared.plan.Plan.{Plan}
use Rattle.run_frames.specs.Fitting.{job_of}
use Rattle.run_frames.specs.Job.{Passes, job_in}
use Rattle.run_frames.specs.declared.notes.Notes.{Notes}
use Rattle.run_frames.specs.Accessors.{written_of}
use Rattle.run_frames.specs.Ended.{CanClose}
use Rattle.run_passes.specs.Ended.{HasRead}
use Rattle.run_output.specs.Lines.{closing}
use Rattle.run_frames.specs.Pieces.{pieces}
use Rattle.run_passes.specs.Reading.{frames_read}
use Rattle.run_passes.specs.SoFar.{IsBrokenBehind}
use Rattle.shark_run.specs.Way.{IsBrokenFrom}
use Rattle.shark_run.specs.Wrote.{WroteBody, WroteSomeBody, body_of}
use Rattle.run_passes.specs.WrotePieces.{WrotePieces, WroteSomePieces}

-- behind the frames' lines all was written
pub closed_whole : (plan : Plan) (told : Option (List ℕ)) (ending : RunEnding) (d : DissectorShown) (t : Notes) (k : Kept) (old now new : Option (List ℕ))
    → IfSome told (λ file. WrotePieces plan (frames_read plan file) old now × (ending ≡ (frames_read plan file).ending))
    → IfSome told (λ file. HasRead plan file d t k)
    → ((passes : Passes) (past : List Frame) → CanClose (written_of plan) (job_in plan passes) past d t k → Appends now new (closing (job_in plan passes) past))
    → IfSome told (λ file. WroteBody plan (frames_read plan file) old new × (ending ≡ (frames_read plan file).ending))
closed_whole plan None ending d t k old now new wrote read closed = tt
closed_whole plan (Some file) ending d t k old now new wrote read closed = (
  Appends-trans old now new (pieces (job_of plan (frames_read plan file)) [] (frames_read plan file).frames) (closing (job_of plan (frames_read plan file)) (reverse (frames_read plan file).frames)) wrote.0
      (closed (frames_read plan file).passes (reverse (frames_read plan file).frames) read),
  wrote.1,
)

-- a front of it was
pub closed_part : (plan : Plan) (told : Option (List ℕ)) (ending : RunEnding) (d : DissectorShown) (t : Notes) (k : Kept) (old now new : Option (List ℕ))
    → IfSome told (λ file. WrotePieces plan (frames_read plan file) old now × (ending ≡ (frames_read plan file).ending))
    → IfSome told (λ file. HasRead plan file d t k)
    → ((passes : Passes) (past : List Frame) → CanClose (written_of plan) (job_in plan passes) past d t k → AppendsPart now new (closing (job_in plan passes) past))
    → IfSome told (λ file. WroteSomeBody plan (frames_read plan file) old new)
closed_part plan None ending d t k old now new wrote read closed = tt
closed_part plan (Some file) ending d t k old now new wrote read closed =
    part_after old now new (pieces (job_of plan (frames_read plan file)) [] (frames_read plan file).frames) (closing (job_of plan (frames_read plan file)) (reverse (frames_read plan file).frames)) wrote.0
    (closed (frames_read plan file).passes (reverse (frames_read plan file).frames) read)

pub closed_near : (plan : Plan) (told : Option (List ℕ)) (ending : RunEnding) (d : DissectorShown) (t : Notes) (k : Kept) (left old now new : Option (List ℕ))
    → IfSome told (λ file. WrotePieces plan (frames_read plan file) old now × (ending ≡ (frames_read plan file).ending))
    → IfSome told (λ file. HasRead plan file d t k)
    → ((passes : Passes) (past : List Frame) → CanClose (written_of plan) (job_in plan passes) past d t k → AppendsPart now new (closing (job_in plan passes) past))
    → IfSome told (λ file. IsBrokenFrom [] plan file left old new)
closed_near plan None ending d t k left old now new wrote read closed = tt
closed_near plan (Some file) ending d t k left old now new wrote read closed =
    let part = closed (frames_read plan file).passes (reverse (frames_read plan file).frames) read in
    inr (part.0, part.1, part.2, Appends-trans old now new (pieces (job_of plan (frames_read plan file)) [] (frames_read plan file).frames) part.0 wrote.0 part.3)

-- nothing was written
pub none_body : (plan : Plan) (told old : Option (List ℕ)) → IfSome told (λ file. WroteSomeBody plan (frames_read plan file) old old)
none_body plan None old = tt
none_body plan (Some file) old = part_none old (body_of plan (frames_read plan file))

-- before that, a write of a frame's line failed, or there was no memory for it
pub some_body : (plan : Plan) (told old new : Option (List ℕ)) → IfSome told (λ file. WroteSomePieces plan (frames_read plan file) old new)
    → IfSome told (λ file. WroteSomeBody plan (frames_read plan file) old new)
some_body plan None old new part = tt
some_body plan (Some file) old new part = part_more old new (pieces (job_of plan (frames_read plan file)) [] (frames_read plan file).frames) (closing (job_of plan (frames_read plan file)) (reverse (frames_read plan file).frames)) part

pub near_body : (plan : Plan) (told left old new : Option (List ℕ)) → IfSome told (λ file. IsBrokenBehind [] plan file left old new)
    → IfSome told (λ file. IsBrokenFrom [] plan file left old new)
near_body plan None left old new broken = tt
near_body plan (Some file) left old new broken = inl broken
