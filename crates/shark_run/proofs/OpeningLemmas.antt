-- What is written behind the line of the fields' names.
use Rattle.std.proofs.Common.{◌≡◌, ◌<◌, ℕ, Bool, true, false, List, [], length, ◌++◌, Option, None, Some, inl, inr, refl, sym, ap, ◌∙◌, subst, ◌∷◌, append_assoc, append-nil, reverse, if◌then◌else◌}
use Rattle.std.specs.Prelude.{IfOk, IfSome, Result, Ok, Err}
use Rattle.std.specs.Io.KnownBytes.{Appends}
use Rattle.std.proofs.KnownBytes.{Appends-trans}
use Rattle.pk_outside.specs.Outside.{AppendsPart}
use Rattle.pk_outside.proofs.Parts.{part_after, part_more}
use Rattle.capture_write.specs.declared.format.Format.{Format}
use Rattle.run_frames.specs.declared.run_ending.RunEnding.{RunEnding}
use Rattle.run_frames.specs.Accessors.{two_of, written_of}
use Rattle.run_frames.specs.Fitting.{FramesRead, job_of}
use Rattle.run_frames.specs.Job.{IfOnce, once, Job}
use Rattle.run_frames.specs.declared.frames.RunFault.{RunFault}
use Rattle.run_frames.specs.declared.plan.Plan.{Plan}
use Rattle.run_output.specs.Lines.{opening, opening_by, output_by, output_of, closing, closing_by}
use Rattle.run_frames.specs.Pieces.{pieces, pieces_of, piece, piece_by}
use Rattle.run_passes.specs.Reading.{frames_read}
use Rattle.shark_run.specs.Way.{IsBrokenFrom, IsBrokenOf, WroteTaken}
use Rattle.run_passes.specs.SoFar.{WroteTakenBehind, pieces_so_far}
use Rattle.shark_run.specs.Wrote.{WroteAll, WroteBody, WrotePart, WroteSomeBody, body_of}
use Rattle.capture_read.specs.declared.frame.Frame.{Frame}
use Rattle.capture_write.specs.Kept.{kept_of, piece_at, written}
use Rattle.capture_write.proofs.KeptLaws.{bytes_from, whole-file}
use Rattle.run_frames.specs.Chosen.{chosen, chosen_of, end_in, if_shown, packet_in}
use Rattle.run_frames.specs.Trees.{lets_frame}
use Rattle.run_frames.proofs.PacketLemmas.{reverse_more}

-- the pieces of the frames chosen, and those of the end, are the file of these frames
packets : Format → Job → List Frame → List Frame → List ℕ
packets format job past [] = end_in format job past
packets format job past (frame ∷ frames) = packet_in format job past frame ++ packets format job (frame ∷ past) frames

packets_chosen : (format : Format) (job : Job) (past frames : List Frame)
    → packets format job past frames ≡ bytes_from (kept_of format (chosen_of job past)) (chosen job past frames)
unfolding packets
packets_chosen format job past [] = refl
packets_chosen format job past (frame ∷ frames) =
    ap (λ (rest : List ℕ). packet_in format job past frame ++ rest) (packets_chosen format job (frame ∷ past) frames)
    ∙ by (lets_frame job past frame)
  where
    by : (shown : Bool) → (if shown then piece_at (kept_of format (chosen_of job past)) frame else [])
        ++ bytes_from (kept_of format (if_shown shown frame (chosen_of job past))) (chosen job (frame ∷ past) frames)
        ≡ bytes_from (kept_of format (chosen_of job past)) (if_shown shown frame (chosen job (frame ∷ past) frames))
    by true = refl
    by false = refl

pieces_packets : (format : Format) (job : Job) (past frames : List Frame) → written_of job.plan ≡ Some format
    → pieces job past frames ++ closing job (reverse frames ++ past) ≡ packets format job past frames
unfolding packets closing
pieces_packets format job past [] is = ap (λ (w : Option Format). closing_by w job past) is
pieces_packets format job past (frame ∷ frames) is =
    append_assoc (piece job past frame) (pieces job (frame ∷ past) frames) (closing job (reverse (frame ∷ frames) ++ past))
    ∙ ap (λ (end : List Frame). piece job past frame ++ (pieces job (frame ∷ past) frames ++ closing job end)) (reverse_more frame frames past)
    ∙ ap (λ (rest : List ℕ). piece job past frame ++ rest) (pieces_packets format job (frame ∷ past) frames is)
    ∙ ap (λ (w : Option Format). piece_by w job past frame ++ packets format job (frame ∷ past) frames) is

pub written_whole : (format : Format) (job : Job) (frames : List Frame) → written_of job.plan ≡ Some format
    → written format (chosen job [] frames) ≡ pieces job [] frames ++ closing job (reverse frames)
written_whole format job frames is =
    sym (whole-file format (chosen job [] frames))
    ∙ sym (packets_chosen format job [] frames)
    ∙ sym (pieces_packets format job [] frames is)
    ∙ ap (λ (past : List Frame). pieces job [] frames ++ closing job past) (append-nil (reverse frames))

-- the output is the opening and what stands behind it
no_opening : (format : Format) (plan : Plan) → written_of plan ≡ Some format → opening plan ≡ []
unfolding opening
no_opening format plan is = ap (λ (w : Option Format). opening_by w plan) is

whole_by : (w : Option Format) (plan : Plan) (read : FramesRead) → written_of plan ≡ w → output_by w (job_of plan read) read.frames ≡ opening plan ++ body_of plan read
whole_by None plan read is = refl
whole_by (Some format) plan read is =
    written_whole format (job_of plan read) read.frames is ∙ sym (ap (λ (start : List ℕ). start ++ body_of plan read) (no_opening format plan is))

whole_output : (plan : Plan) (read : FramesRead) → output_of (job_of plan read) read.frames ≡ opening plan ++ body_of plan read
unfolding output_of
whole_output plan read = whole_by (written_of plan) plan read refl

all_behind : (plan : Plan) (reading : FramesRead) (old now new : Option (List ℕ)) → Appends old now (opening plan) → WroteBody plan reading now new → WroteAll plan reading old new
all_behind plan reading old now new opened wrote =
    subst (λ (bytes : List ℕ). Appends old new bytes) (sym (whole_output plan reading)) (Appends-trans old now new (opening plan) (body_of plan reading) opened wrote)

pub ended_behind : (plan : Plan) (told : Option (List ℕ)) (old now new : Option (List ℕ)) (P : List ℕ → Type 0) → Appends old now (opening plan)
    → IfSome told (λ file. WroteBody plan (frames_read plan file) now new × P file) → IfSome told (λ file. WroteAll plan (frames_read plan file) old new × P file)
ended_behind plan None old now new P opened wrote = tt
ended_behind plan (Some file) old now new P opened wrote = (all_behind plan (frames_read plan file) old now new opened wrote.0, wrote.1)

pub all_ended_behind : (answer : Result RunEnding RunFault) (plan : Plan) (told : Option (List ℕ)) (old now new : Option (List ℕ)) → Appends old now (opening plan)
    → IfOk answer (λ ending. IfSome told (λ file. WroteBody plan (frames_read plan file) now new × (ending ≡ (frames_read plan file).ending)))
    → IfOk answer (λ ending. IfSome told (λ file. WroteAll plan (frames_read plan file) old new × (ending ≡ (frames_read plan file).ending)))
all_ended_behind (Ok ending) plan told old now new opened wrote = ended_behind plan told old now new (λ file. ending ≡ (frames_read plan file).ending) opened wrote
all_ended_behind (Err fault) plan told old now new opened wrote = tt

pub part_behind : (plan : Plan) (told : Option (List ℕ)) (old now new : Option (List ℕ)) → Appends old now (opening plan)
    → IfSome told (λ file. WroteSomeBody plan (frames_read plan file) now new) → IfSome told (λ file. WrotePart plan (frames_read plan file) old new)
part_behind plan None old now new opened part = tt
part_behind plan (Some file) old now new opened part =
    subst (AppendsPart old new) (sym (whole_output plan (frames_read plan file))) (part_after old now new (opening plan) (body_of plan (frames_read plan file)) opened part)

pub part_opened : (plan : Plan) (told : Option (List ℕ)) (old new : Option (List ℕ)) → AppendsPart old new (opening plan) → IfSome told (λ file. WrotePart plan (frames_read plan file) old new)
part_opened plan None old new part = tt
part_opened plan (Some file) old new part =
    subst (AppendsPart old new) (sym (whole_output plan (frames_read plan file))) (part_more old new (opening plan) (body_of plan (frames_read plan file)) part)

taken_behind : (plan : Plan) (file : List ℕ) (left old now new : Option (List ℕ)) → Appends old now (opening plan) → WroteTakenBehind [] plan file left now new → WroteTaken plan file left old new
taken_behind plan file None old now new opened wrote = tt
taken_behind plan file (Some left) old now new opened wrote = record {
  taken = wrote.taken;
  whole = wrote.whole;
  fewer = wrote.fewer;
  wrote = Appends-trans old now new (opening plan) (pieces_so_far (two_of plan) plan wrote.taken) opened wrote.wrote;
}

pub so_far_behind : (plan : Plan) (told left old now new : Option (List ℕ)) → Appends old now (opening plan)
    → IfSome told (λ file. WroteTakenBehind [] plan file left now new) → IfSome told (λ file. WroteTaken plan file left old new)
so_far_behind plan None left old now new opened wrote = tt
so_far_behind plan (Some file) left old now new opened wrote = taken_behind plan file left old now new opened wrote

near_from : (plan : Plan) (file : List ℕ) (left old now new : Option (List ℕ)) → Appends old now (opening plan)
    → IsBrokenFrom [] plan file left now new → IsBrokenFrom (opening plan) plan file left old new
near_from plan file left old now new opened (inl broken) = inl (record {
  past = broken.past;
  frame = broken.frame;
  front = broken.front;
  near = broken.near;
  begun = broken.begun;
  rest = broken.rest;
  line = broken.line;
  wrote = Appends-trans old now new (opening plan) (pieces_of (once plan) broken.past ++ broken.begun) opened broken.wrote;
})
near_from plan file left old now new opened (inr (begun, rest, joined, wrote)) =
    inr (begun, rest, joined, Appends-trans old now new (opening plan) (pieces (job_of plan (frames_read plan file)) [] (frames_read plan file).frames ++ begun) opened wrote)

once_more : {P Q : Type 0} (two : Bool) → (P → Q) → IfOnce two P → IfOnce two Q
once_more false more holds = more holds
once_more true more holds = tt

pub once_holds : {P : Type 0} (two : Bool) → P → IfOnce two P
once_holds false holds = holds
once_holds true holds = tt

pub near_behind : (plan : Plan) (told left old now new : Option (List ℕ)) → Appends old now (opening plan)
    → IfSome told (λ file. IfOnce (two_of plan) (IsBrokenFrom [] plan file left now new)) → IfSome told (λ file. IsBrokenOf plan file left old new)
near_behind plan None left old now new opened broken = tt
near_behind plan (Some file) left old now new opened broken = once_more (two_of plan) (λ from. inr (near_from plan file left old now new opened from)) broken

-- the opening itself was not wholly written
pub near_opened : (plan : Plan) (told old new : Option (List ℕ)) → 0 < length (opening plan) → AppendsPart old new (opening plan) → IfSome told (λ file. IsBrokenOf plan file told old new)
near_opened plan None old new some part = tt
near_opened plan (Some file) old new some part = once_holds (two_of plan) (inl (some, refl, part))
