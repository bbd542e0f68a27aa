-- What is written over kept frames, and what stands behind it.
use Rattle.std.proofs.Common.{◌≡◌, ℕ, ◌+◌, ◌-◌, Bool, true, List, [], ◌++◌, Option, None, Some, sym, ap, subst, reverse}
use Rattle.std.specs.Prelude.{IfSome}
use Rattle.std.specs.Io.KnownBytes.{Appends}
use Rattle.std.proofs.KnownBytes.{Appends-nil, Appends-trans}
use Rattle.pk_outside.specs.Outside.{AppendsPart}
use Rattle.pk_outside.proofs.Parts.{part_after, part_more, part_none}
use Rattle.capture_read.specs.Capture.{Reading, capture_of}
use Rattle.capture_read.specs.declared.ending.Ending.{Ending}
use Rattle.capture_read.specs.declared.frame.Frame.{Frame}
use Rattle.run_frames.specs.declared.plan.Plan.{Plan}
use Rattle.run_frames.specs.declared.run_ending.RunEnding.{RunEnding}
use Rattle.run_frames.specs.Accessors.{two_of}
use Rattle.run_frames.specs.Fitting.{FramesRead, fitting, job_of}
use Rattle.run_frames.specs.Job.{Job, Passes, job_in}
use Rattle.run_output.specs.Lines.{closing}
use Rattle.run_frames.specs.Pieces.{pieces}
use Rattle.run_passes.specs.Reading.{frames_read, limited, read_of}
use Rattle.run_passes.specs.SoFar.{HoldsFewer, WroteTakenBehind, pieces_so_far}
use Rattle.shark_run.specs.Wrote.{WroteBody, WroteSomeBody, body_of}
use Rattle.run_passes.proofs.WayLemmas.{fitting_passes}

-- the passes over what is read are those that are served
pub body_passes : (plan : Plan) (passes : Passes) (frames : List Frame) (ending : Ending)
    → job_of plan (fitting (job_in plan passes) [] frames ending) ≡ job_in plan passes
body_passes plan passes frames ending = ap (job_in plan) (fitting_passes (job_in plan passes) [] frames ending)

-- what is read of the file is what is read of the kept frames
pub twice_read : (plan : Plan) (file : List ℕ) (reading : Reading) → limited plan.most (capture_of file) ≡ reading → read_of plan reading ≡ frames_read plan file
unfolding frames_read
twice_read plan file reading is = ap (read_of plan) (sym is)

-- where a read fails nothing was written
twice_so_far : (plan : Plan) (file : List ℕ) (left old : Option (List ℕ)) → two_of plan ≡ true → HoldsFewer plan file left → WroteTakenBehind [] plan file left old old
twice_so_far plan file None old two fewer = tt
twice_so_far plan file (Some left) old two fewer = record {
  taken = fewer.0;
  whole = fewer.1;
  fewer = fewer.2;
  wrote = subst (λ (bytes : List ℕ). Appends old old bytes) (sym (ap (λ (t : Bool). pieces_so_far t plan fewer.0) two)) (Appends-nil old);
}

pub twice_unread : (plan : Plan) (told left old : Option (List ℕ)) → two_of plan ≡ true → IfSome told (λ file. HoldsFewer plan file left)
    → IfSome told (λ file. WroteTakenBehind [] plan file left old old)
twice_unread plan None left old two fewer = tt
twice_unread plan (Some file) left old two fewer = twice_so_far plan file left old two fewer

-- what is written of kept frames, and what stands behind it
pub body_kept : (plan : Plan) (passes : Passes) (frames : List Frame) (ending : Ending) (end : RunEnding) (old now new : Option (List ℕ))
    → Appends old now (pieces (job_in plan passes) [] (fitting (job_in plan passes) [] frames ending).frames) × (end ≡ (fitting (job_in plan passes) [] frames ending).ending)
    → Appends now new (closing (job_in plan passes) (reverse (fitting (job_in plan passes) [] frames ending).frames))
    → WroteBody plan (fitting (job_in plan passes) [] frames ending) old new × (end ≡ (fitting (job_in plan passes) [] frames ending).ending)
body_kept plan passes frames ending end old now new wrote closed =
    let all : List Frame = (fitting (job_in plan passes) [] frames ending).frames in (
      subst (λ (job : Job). Appends old new (pieces job [] all ++ closing job (reverse all))) (sym (body_passes plan passes frames ending))
          (Appends-trans old now new (pieces (job_in plan passes) [] all) (closing (job_in plan passes) (reverse all)) wrote.0 closed),
      wrote.1,
    )

pub body_closing : (plan : Plan) (passes : Passes) (frames : List Frame) (ending : Ending) (end : RunEnding) (old now new : Option (List ℕ))
    → Appends old now (pieces (job_in plan passes) [] (fitting (job_in plan passes) [] frames ending).frames) × (end ≡ (fitting (job_in plan passes) [] frames ending).ending)
    → AppendsPart now new (closing (job_in plan passes) (reverse (fitting (job_in plan passes) [] frames ending).frames))
    → WroteSomeBody plan (fitting (job_in plan passes) [] frames ending) old new
body_closing plan passes frames ending end old now new wrote closed =
    let all : List Frame = (fitting (job_in plan passes) [] frames ending).frames in
    subst (λ (job : Job). AppendsPart old new (pieces job [] all ++ closing job (reverse all))) (sym (body_passes plan passes frames ending))
    (part_after old now new (pieces (job_in plan passes) [] all) (closing (job_in plan passes) (reverse all)) wrote.0 closed)

pub body_broken : (plan : Plan) (passes : Passes) (frames : List Frame) (ending : Ending) (old new : Option (List ℕ))
    → AppendsPart old new (pieces (job_in plan passes) [] (fitting (job_in plan passes) [] frames ending).frames)
    → WroteSomeBody plan (fitting (job_in plan passes) [] frames ending) old new
body_broken plan passes frames ending old new part =
    let all : List Frame = (fitting (job_in plan passes) [] frames ending).frames in
    subst (λ (job : Job). AppendsPart old new (pieces job [] all ++ closing job (reverse all))) (sym (body_passes plan passes frames ending))
    (part_more old new (pieces (job_in plan passes) [] all) (closing (job_in plan passes) (reverse all)) part)

-- nothing was written of them
pub body_none : (plan : Plan) (reading : Reading) (old : Option (List ℕ)) → WroteSomeBody plan (read_of plan reading) old old
body_none plan reading old = part_none old (body_of plan (read_of plan reading))

-- what was written of the kept frames of a file
pub twice_wrote : (plan : Plan) (told : Option (List ℕ)) (frames : List Frame) (ending : Ending) (end : RunEnding) (old new : Option (List ℕ))
    → IfSome told (λ file. limited plan.most (capture_of file) ≡ record { frames = frames; ending = ending })
    → WroteBody plan (read_of plan (record { frames = frames; ending = ending })) old new × (end ≡ (read_of plan (record { frames = frames; ending = ending })).ending)
    → IfSome told (λ file. WroteBody plan (frames_read plan file) old new × (end ≡ (frames_read plan file).ending))
twice_wrote plan None frames ending end old new is wrote = tt
twice_wrote plan (Some file) frames ending end old new is wrote =
    subst (λ (read : FramesRead). WroteBody plan read old new × (end ≡ read.ending)) (twice_read plan file (record { frames = frames; ending = ending }) is) wrote

pub twice_some : (plan : Plan) (told : Option (List ℕ)) (frames : List Frame) (ending : Ending) (old new : Option (List ℕ))
    → IfSome told (λ file. limited plan.most (capture_of file) ≡ record { frames = frames; ending = ending })
    → WroteSomeBody plan (read_of plan (record { frames = frames; ending = ending })) old new
    → IfSome told (λ file. WroteSomeBody plan (frames_read plan file) old new)
twice_some plan None frames ending old new is part = tt
twice_some plan (Some file) frames ending old new is part =
    subst (λ (read : FramesRead). WroteSomeBody plan read old new) (twice_read plan file (record { frames = frames; ending = ending }) is) part

pub body_still : (plan : Plan) (passes : Passes) (frames : List Frame) (ending : Ending) (old : Option (List ℕ))
    → WroteSomeBody plan (fitting (job_in plan passes) [] frames ending) old old
body_still plan passes frames ending old = part_none old (body_of plan (fitting (job_in plan passes) [] frames ending))
