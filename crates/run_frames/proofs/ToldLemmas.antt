-- A frame is written by a tree that is told as the whole one.
use Rattle.std.proofs.Common.{◌≡◌, ℕ, Bool, true, List, Option, None, Some, refl, sym, ◌∙◌, subst}
use Rattle.std.specs.Prelude.{Result, Ok, Err, IfOk, IsSome}
use Rattle.std.specs.Io.KnownBytes.{Appends}
use Rattle.pk_outside.specs.Outside.{AppendsPart}
use Rattle.pk_tree.specs.Trees.{TreeShown}
use Rattle.capture_read.specs.declared.frame.Frame.{Frame}
use Rattle.capture_write.specs.Kept.{Kept, Stands}
use Rattle.capture_write.specs.declared.format.Format.{Format}
use Rattle.dissect.specs.Stands.{DissectorShown, StandsWithin}
use Rattle.run_frames.specs.declared.later.Later.{Later}
use Rattle.run_frames.specs.declared.notes.Notes.{Notes}
use Rattle.run_frames.specs.declared.plan.Plan.{Plan}
use Rattle.run_frames.specs.Accessors.{two_of, written_of}
use Rattle.run_frames.specs.Chosen.{chosen_of}
use Rattle.run_frames.specs.Job.{Passes, job_in}
use Rattle.run_frames.specs.Later.{ServesKept}
use Rattle.run_frames.specs.Notes.{HasNoted}
use Rattle.run_frames.specs.Pieces.{shown}
use Rattle.run_frames.specs.Steps.{IsAfterFrame, IsPacked, KeepsUp, fit_packet, fit_piece}
use Rattle.run_frames.specs.Trees.{lets, lets_frame, tree_of}
use Rattle.run_frames.specs.Wanted.{IsToldAs}
use Rattle.run_frames.proofs.NoteLemmas.{notes_after}
use Rattle.run_frames.proofs.PacketLemmas.{frame_packed, frame_shown, packed_truly, part_packed, part_shown, part_truly}

-- the filter lets it through as the whole tree, where a capture is written
let_alike : (format : Format) (plan : Plan) (whole tree : TreeShown) (shown : Bool) → written_of plan ≡ Some format → shown ≡ lets plan tree → IsToldAs plan whole tree
    → shown ≡ lets plan whole
let_alike format plan whole tree shown is same told = same ∙ told.truth (subst IsSome (sym is) refl)

pub after_packet : {E : Type 0} (result : Result Bool E) (format : Format) (plan : Plan) (frame : Frame) (tree : TreeShown) (notes : Notes) (old new : Kept)
    (before now : Option (List ℕ)) (shown : Bool) → written_of plan ≡ Some format → shown ≡ lets plan tree
    → IfOk result (λ fit. (chosen : List Frame) → Stands old chosen → IsPacked fit shown old.format frame new chosen before now)
    → IfOk result (λ fit. (passes : Passes) (past : List Frame) → IsToldAs plan (tree_of (job_in plan passes) past frame) tree
    → KeepsUp (written_of plan) (job_in plan passes) past notes old → IsAfterFrame fit (job_in plan passes) past frame notes new before now)
after_packet (Err error) format plan frame tree notes old new before now shown is same packs = tt
after_packet (Ok fit) format plan frame tree notes old new before now shown is same packs = λ passes past told keeps.
    frame_packed fit format (job_in plan passes) past frame notes notes old new before now is keeps
    (λ stands. packed_truly fit shown (lets_frame (job_in plan passes) past frame) old.format frame new (chosen_of (job_in plan passes) past) before now
    (let_alike format plan (tree_of (job_in plan passes) past frame) tree shown is same told) (packs (chosen_of (job_in plan passes) past) stands))

pub part_of_packet : (format : Format) (plan : Plan) (frame : Frame) (tree : TreeShown) (notes : Notes) (old : Kept) (before now : Option (List ℕ)) (shown : Bool)
    → written_of plan ≡ Some format → shown ≡ lets plan tree
    → ((chosen : List Frame) → Stands old chosen → AppendsPart before now (fit_packet shown old.format chosen frame))
    → (passes : Passes) (past : List Frame) → IsToldAs plan (tree_of (job_in plan passes) past frame) tree
    → KeepsUp (written_of plan) (job_in plan passes) past notes old → AppendsPart before now (fit_piece (job_in plan passes) past frame)
part_of_packet format plan frame tree notes old before now shown is same part passes past told keeps =
    part_packed format (job_in plan passes) past frame notes old before now is keeps
    (λ stands. part_truly shown (lets_frame (job_in plan passes) past frame) old.format frame (chosen_of (job_in plan passes) past) before now
    (let_alike format plan (tree_of (job_in plan passes) past frame) tree shown is same told) (part (chosen_of (job_in plan passes) past) stands))

-- and its line is that of the whole tree
pub after_line : (plan : Plan) (frame : Frame) (tree : TreeShown) (old new : Notes) (kept left : Kept) (before now : Option (List ℕ)) → written_of plan ≡ None
    → HasNoted plan tree old new → Appends before now (shown plan tree)
    → (passes : Passes) (past : List Frame) → IsToldAs plan (tree_of (job_in plan passes) past frame) tree
    → KeepsUp (written_of plan) (job_in plan passes) past old kept → IsAfterFrame true (job_in plan passes) past frame new left before now
after_line plan frame tree old new kept left before now is noted wrote passes past told keeps =
    frame_shown (job_in plan passes) past frame old new kept left before now is keeps
    (λ notes. notes_after (job_in plan passes) past frame tree old new noted told notes) (subst (Appends before now) (told.shown is) wrote)

pub part_of_line : (plan : Plan) (frame : Frame) (tree : TreeShown) (before now : Option (List ℕ)) → written_of plan ≡ None → AppendsPart before now (shown plan tree)
    → (passes : Passes) (past : List Frame) → IsToldAs plan (tree_of (job_in plan passes) past frame) tree → AppendsPart before now (fit_piece (job_in plan passes) past frame)
part_of_line plan frame tree before now is part passes past told =
    part_shown (job_in plan passes) past frame before now is (subst (AppendsPart before now) (told.shown is) part)

-- where the dissector serves and stands, a tree of the frame is told as the whole one
pub after_told : {E : Type 0} (result : Result Bool E) (later : Later) (d : DissectorShown) (plan : Plan) (frame : Frame) (tree : TreeShown) (notes noted : Notes) (old new : Kept)
    (before now : Option (List ℕ))
    → ((passes : Passes) (past : List Frame) → ServesKept d.wanted (two_of plan) passes later → StandsWithin past d → IsToldAs plan (tree_of (job_in plan passes) past frame) tree)
    → IfOk result (λ fit. (passes : Passes) (past : List Frame) → IsToldAs plan (tree_of (job_in plan passes) past frame) tree
    → KeepsUp (written_of plan) (job_in plan passes) past notes old → IsAfterFrame fit (job_in plan passes) past frame noted new before now)
    → IfOk result (λ fit. (passes : Passes) (past : List Frame) → ServesKept d.wanted (two_of plan) passes later → StandsWithin past d
    → KeepsUp (written_of plan) (job_in plan passes) past notes old → IsAfterFrame fit (job_in plan passes) past frame noted new before now)
after_told (Err error) later d plan frame tree notes noted old new before now told after = tt
after_told (Ok fit) later d plan frame tree notes noted old new before now told after = λ passes past serves stands keeps.
    after passes past (told passes past serves stands) keeps
