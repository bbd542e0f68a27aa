-- The frames of a capture that is written.
use Rattle.std.proofs.Common.{◌≡◌, ℕ, Bool, true, false, not, ◌&&◌, List, [], ◌∷◌, ◌++◌, Option, None, Some, refl, sym, ap, ◌∙◌, subst, if◌then◌else◌, append_assoc, reverse}
use Rattle.std.specs.Prelude.{IfOk, Result}
use Rattle.std.specs.Io.KnownBytes.{Appends}
use Rattle.std.proofs.KnownBytes.{Appends-nil}
use Rattle.std.proofs.lemmas.List.{reverse-append}
use Rattle.pk_outside.specs.Outside.{AppendsPart}
use Rattle.pk_outside.proofs.Parts.{part_none}
use Rattle.capture_read.specs.declared.frame.Frame.{Frame}
use Rattle.capture_write.specs.Kept.{Adds, Kept, Stands, StandsAfter, kept_of, piece_at, written}
use Rattle.capture_write.specs.declared.added.Added.TheVariants.{Bytes, Unfit}
use Rattle.capture_write.specs.declared.format.Format.{Format}
use Rattle.run_frames.specs.Job.{Job}
use Rattle.run_frames.specs.declared.notes.Notes.{Notes}
use Rattle.run_frames.specs.Accessors.{written_of}
use Rattle.run_frames.specs.Chosen.{IsWriting, chosen, chosen_of}
use Rattle.run_frames.specs.Fitting.{is_unfit_by}
use Rattle.run_frames.specs.Pieces.{piece, piece_by, shown}
use Rattle.run_frames.specs.Steps.{IsAfterFrame, IsPacked, KeepsUp, fit_packet, fit_piece}
use Rattle.run_frames.specs.Notes.{AreNotes}
use Rattle.run_frames.specs.Trees.{lets_frame, tree_of}

-- a frame that isn't chosen
pub packed_left : (shown : Bool) (frame : Frame) (kept : Kept) (now : Option (List ℕ)) → shown ≡ false
    → (chosen : List Frame) → Stands kept chosen → IsPacked true shown kept.format frame kept chosen now now
packed_left true frame kept now is chosen stands = absurd (cc is)
packed_left false frame kept now is chosen stands = (refl, refl, stands, Appends-nil now)

-- one that was added
pub kept_is : (kept : Kept) (past : List Frame) → Stands kept past → kept ≡ kept_of kept.format past
unfolding Stands
kept_is kept past stands = stands.0

added_piece : (old new : Kept) (frame : Frame) (bytes : List ℕ) (chosen : List Frame) → Adds old new frame (Bytes bytes) → Stands old chosen
    → bytes ≡ piece_at (kept_of old.format chosen) frame
added_piece old new frame bytes chosen adds stands = adds.1 ∙ ap (λ (k : Kept). piece_at k frame) (kept_is old chosen stands)

fit_is : (fit : Bool) → fit ≡ true → (true && not fit) ≡ false
fit_is fit is = ap not is

pub packed_added : (shown : Bool) (old new : Kept) (frame : Frame) (bytes : List ℕ) (before now : Option (List ℕ)) → shown ≡ true → Adds old new frame (Bytes bytes)
    → ((chosen : List Frame) → Stands old chosen → StandsAfter old new frame (Bytes bytes) chosen) → Appends before now bytes
    → (chosen : List Frame) → Stands old chosen → IsPacked true shown old.format frame new chosen before now
packed_added false old new frame bytes before now is adds after wrote chosen stands = absurd (cc is)
packed_added true old new frame bytes before now is adds after wrote chosen stands = (
  ap not (after chosen stands).2,
  ap (λ (k : Kept). k.format) adds.2,
  (after chosen stands).0,
  subst (λ (piece : List ℕ). Appends before now piece) (added_piece old new frame bytes chosen adds stands) wrote,
)

pub packed_part : (shown : Bool) (old new : Kept) (frame : Frame) (bytes : List ℕ) (before now : Option (List ℕ)) → shown ≡ true → Adds old new frame (Bytes bytes)
    → ((chosen : List Frame) → Stands old chosen → StandsAfter old new frame (Bytes bytes) chosen) → AppendsPart before now bytes
    → (chosen : List Frame) → Stands old chosen → AppendsPart before now (fit_packet shown old.format chosen frame)
packed_part false old new frame bytes before now is adds after part chosen stands = absurd (cc is)
packed_part true old new frame bytes before now is adds after part chosen stands =
    subst (AppendsPart before now) (added_piece old new frame bytes chosen adds stands
    ∙ sym (ap (λ (unfit : Bool). if unfit then [] else piece_at (kept_of old.format chosen) frame) (ap not (after chosen stands).2))) part

-- one that doesn't fit
pub packed_unfit : (shown : Bool) (old new : Kept) (frame : Frame) (now : Option (List ℕ)) → shown ≡ true → Adds old new frame Unfit
    → ((chosen : List Frame) → Stands old chosen → StandsAfter old new frame Unfit chosen)
    → (chosen : List Frame) → Stands old chosen → IsPacked false shown old.format frame new chosen now now
packed_unfit false old new frame now is adds after chosen stands = absurd (cc is)
packed_unfit true old new frame now is adds after chosen stands = (
  ap not (after chosen stands).1,
  ap (λ (k : Kept). k.format) adds.1,
  (after chosen stands).0,
  refl,
)

-- where it is shown
pub packed_as : {E : Type 0} (result : Result Bool E) (shown : Bool) (format : Format) (frame : Frame) (old new : Kept) (before now : Option (List ℕ)) → shown ≡ true
    → IfOk result (λ fit. (chosen : List Frame) → Stands old chosen → IsPacked fit true format frame new chosen before now)
    → IfOk result (λ fit. (chosen : List Frame) → Stands old chosen → IsPacked fit shown format frame new chosen before now)
packed_as result shown format frame old new before now is packs =
    subst (λ (b : Bool). IfOk result (λ fit. (chosen : List Frame) → Stands old chosen → IsPacked fit b format frame new chosen before now)) (sym is) packs

pub part_as : (shown : Bool) (format : Format) (frame : Frame) (old : Kept) (before now : Option (List ℕ)) → shown ≡ true
    → ((chosen : List Frame) → Stands old chosen → AppendsPart before now (fit_packet true format chosen frame))
    → (chosen : List Frame) → Stands old chosen → AppendsPart before now (fit_packet shown format chosen frame)
part_as shown format frame old before now is part =
    subst (λ (b : Bool). (chosen : List Frame) → Stands old chosen → AppendsPart before now (fit_packet b format chosen frame)) (sym is) part

pub packed_none : (shown : Bool) (old : Kept) (frame : Frame) (now : Option (List ℕ)) (chosen : List Frame) → AppendsPart now now (fit_packet shown old.format chosen frame)
packed_none shown old frame now chosen = part_none now (fit_packet shown old.format chosen frame)

-- by the tree of a frame, of which only some fields are read
pub packed_truly : (fit shown truth : Bool) (format : Format) (frame : Frame) (new : Kept) (chosen : List Frame) (before now : Option (List ℕ)) → shown ≡ truth
    → IsPacked fit shown format frame new chosen before now → IsPacked fit truth format frame new chosen before now
packed_truly fit shown truth format frame new chosen before now same packed =
    subst (λ (b : Bool). IsPacked fit b format frame new chosen before now) same packed

pub part_truly : (shown truth : Bool) (format : Format) (frame : Frame) (chosen : List Frame) (before now : Option (List ℕ)) → shown ≡ truth
    → AppendsPart before now (fit_packet shown format chosen frame) → AppendsPart before now (fit_packet truth format chosen frame)
part_truly shown truth format frame chosen before now same part =
    subst (λ (b : Bool). AppendsPart before now (fit_packet b format chosen frame)) same part

-- the same of a run
pub frame_packed : (fit : Bool) (format : Format) (job : Job) (past : List Frame) (frame : Frame) (t counts : Notes) (old new : Kept) (before now : Option (List ℕ))
    → written_of job.plan ≡ Some format → KeepsUp (written_of job.plan) job past t old
    → (Stands old (chosen_of job past)
    → IsPacked fit (lets_frame job past frame) old.format frame new (chosen_of job past) before now)
    → IsAfterFrame fit job past frame counts new before now
frame_packed true format job past frame t counts old new before now is keeps packs =
    let writing : IsWriting (Some format) job old past = subst (λ (w : Option Format). KeepsUp w job past t old) is keeps in
    let packed : IsPacked true (lets_frame job past frame) format frame new (chosen_of job past) before now
    = subst (λ (f : Format). IsPacked true (lets_frame job past frame) f frame new (chosen_of job past) before now) writing.0 (packs writing.1) in
    record {
      fit = ap (λ (w : Option Format). is_unfit_by w job past frame) is ∙ packed.0;
      keeps = subst (λ (w : Option Format). KeepsUp w job (frame ∷ past) counts new) (sym is) (packed.1, packed.2);
      wrote = subst (λ (w : Option Format). Appends before now (piece_by w job past frame)) (sym is) packed.3;
    }
frame_packed false format job past frame t counts old new before now is keeps packs =
    let writing : IsWriting (Some format) job old past = subst (λ (w : Option Format). KeepsUp w job past t old) is keeps in
    let packed : IsPacked false (lets_frame job past frame) format frame new (chosen_of job past) before now
    = subst (λ (f : Format). IsPacked false (lets_frame job past frame) f frame new (chosen_of job past) before now) writing.0 (packs writing.1) in (
      ap (λ (w : Option Format). is_unfit_by w job past frame) is ∙ packed.0,
      subst (λ (w : Option Format). KeepsUp w job past counts new) (sym is) (packed.1, packed.2),
      packed.3,
    )

pub part_packed : (format : Format) (job : Job) (past : List Frame) (frame : Frame) (t : Notes) (old : Kept) (before now : Option (List ℕ))
    → written_of job.plan ≡ Some format → KeepsUp (written_of job.plan) job past t old
    → (Stands old (chosen_of job past)
    → AppendsPart before now (fit_packet (lets_frame job past frame) old.format (chosen_of job past) frame))
    → AppendsPart before now (fit_piece job past frame)
part_packed format job past frame t old before now is keeps part =
    let writing : IsWriting (Some format) job old past = subst (λ (w : Option Format). KeepsUp w job past t old) is keeps in
    subst (λ (w : Option Format). AppendsPart before now (if is_unfit_by w job past frame then [] else piece_by w job past frame)) (sym is)
    (subst (λ (f : Format). AppendsPart before now (fit_packet (lets_frame job past frame) f (chosen_of job past) frame)) writing.0 (part writing.1))

-- lines of frames
pub frame_shown : (job : Job) (past : List Frame) (frame : Frame) (t counts : Notes) (old new : Kept) (before now : Option (List ℕ))
    → written_of job.plan ≡ None → KeepsUp (written_of job.plan) job past t old → (AreNotes job past t → AreNotes job (frame ∷ past) counts)
    → Appends before now (shown job.plan (tree_of job past frame)) → IsAfterFrame true job past frame counts new before now
frame_shown job past frame t counts old new before now is keeps noted wrote = record {
  fit = ap (λ (w : Option Format). is_unfit_by w job past frame) is;
  keeps = subst (λ (w : Option Format). KeepsUp w job (frame ∷ past) counts new) (sym is)
      (noted (subst (λ (w : Option Format). KeepsUp w job past t old) is keeps));
  wrote = subst (λ (w : Option Format). Appends before now (piece_by w job past frame)) (sym is) wrote;
}

pub part_shown : (job : Job) (past : List Frame) (frame : Frame) (before now : Option (List ℕ)) → written_of job.plan ≡ None
    → AppendsPart before now (shown job.plan (tree_of job past frame)) → AppendsPart before now (fit_piece job past frame)
part_shown job past frame before now is part =
    subst (λ (w : Option Format). AppendsPart before now (if is_unfit_by w job past frame then [] else piece_by w job past frame)) (sym is) part

-- the frames behind those of the past
pub reverse_more : (frame : Frame) (frames past : List Frame) → reverse (frame ∷ frames) ++ past ≡ reverse frames ++ (frame ∷ past)
reverse_more frame frames past =
    ap (λ (all : List Frame). all ++ past) (reverse-append (frame ∷ []) frames) ∙ append_assoc (reverse frames) (frame ∷ []) past
