-- Writing frames one after the other.
use Rattle.std.proofs.Common.{◌≡◌, ◌<◌, ◌≤◌, ℕ, suc, ℤ, ◌+◌, Bool, true, false, List, [], ◌∷◌, ◌++◌, length, map, drop, get_or, Option, Some, None, refl, sym, ap, ◌∙◌, subst, append_assoc, arith}
use Rattle.std.specs.Prelude.{if◌then◌else◌, ◌&&◌, not, nat_lt}
use Rattle.std.specs.Io.KnownBytes.{Appends}
use Rattle.std.proofs.KnownBytes.{Appends-trans}
use Rattle.std.proofs.lemmas.List.{at_drop_more, drop_all}
use Rattle.pk_base.specs.Limits.{captured_limit}
use Rattle.pk_outside.specs.Outside.{AppendsPart}
use Rattle.pk_outside.proofs.Parts.{part_more, part_whole, part_after_front}
use Rattle.capture_read.specs.declared.frame.Frame.{Frame}
use Rattle.capture_write.specs.Kept.{Kept, nothing_kept, order_by, link_by, fits_by, fits_at, start_by, packet_of, piece_at, kept_with, end_at}
use Rattle.capture_write.specs.Pcap.{fits_pcap}
use Rattle.capture_write.specs.Pcapng.{fits_by_time, packet_by, place_of, new_interface}
use Rattle.capture_write.specs.Frames.{is_order_kept, IsFrame, AreFrames}
use Rattle.capture_write.specs.declared.format.Format.{Format}
use Rattle.capture_write.specs.declared.format.Format.TheVariants.{Pcap, Pcapng}
use Rattle.capture_write.proofs.KeptLaws.{bytes_from, whole-file}
use Rattle.merge_caps.specs.declared.place.Entry.{Entry}
use Rattle.merge_caps.specs.Merged.{frame_of, numbered, renumbered}
use Rattle.merge_caps.specs.Written.{Steps, file_of, first_unfit, fitting, fitting_from, piece_if, unfit_from, written_from}

-- a front of the whole was written, and the rest is still to come
abbrev pub WroteTo : Option (List ℕ) → Option (List ℕ) → Kept → List Frame → List ℕ → Type 0
WroteTo old now kept rest whole = (done : List ℕ) × Appends old now done × (done ++ written_from kept rest ≡ whole)

-- a frame that fits
wrote_one : (old now later : Option (List ℕ)) (kept after : Kept) (frame : Frame) (rest : List Frame) (whole : List ℕ)
    → WroteTo old now kept (frame ∷ rest) whole → Steps true kept after frame now later → WroteTo old later after rest whole
wrote_one old now later kept after frame rest whole wrote steps =
    let bytes : written_from kept (frame ∷ rest) ≡ piece_at kept frame ++ written_from after rest =
    ap (λ (b : Bool). if b then piece_at kept frame ++ written_from (kept_with kept frame) rest else end_at kept) steps.0
    ∙ ap (λ (k : Kept). piece_at kept frame ++ written_from k rest) (sym steps.1) in (
      wrote.0 ++ piece_at kept frame,
      Appends-trans old now later wrote.0 (piece_at kept frame) wrote.1 steps.2,
      append_assoc wrote.0 (piece_at kept frame) (written_from after rest) ∙ ap (λ (l : List ℕ). wrote.0 ++ l) (sym bytes) ∙ wrote.2,
    )

next_frame : (entries : List Entry) (i : ℕ) (entry : Entry) → i < length entries → entry ≡ get_or entries i entry
    → map frame_of (drop i entries) ≡ entry.frame ∷ map frame_of (drop (i + 1) entries)
next_frame entries i entry within is =
    at_drop_more (map frame_of) entries i entry within ∙ ap (λ (e : Entry). e.frame ∷ map frame_of (drop (i + 1) entries)) (sym is)

pub wrote_further : (entries : List Entry) (i : ℕ) (entry : Entry) → i < length entries → entry ≡ get_or entries i entry
    → (old now later : Option (List ℕ)) (kept after : Kept) (whole : List ℕ) → WroteTo old now kept (map frame_of (drop i entries)) whole
    → Steps true kept after entry.frame now later → WroteTo old later after (map frame_of (drop (i + 1) entries)) whole
wrote_further entries i entry within is old now later kept after whole wrote steps =
    wrote_one old now later kept after entry.frame (map frame_of (drop (i + 1) entries)) whole
    (subst (λ (frames : List Frame). WroteTo old now kept frames whole) (next_frame entries i entry within is) wrote) steps

-- the first that doesn't fit is still to come
pub unfit_further : (entries : List Entry) (i : ℕ) (entry : Entry) → i < length entries → entry ≡ get_or entries i entry
    → (kept after : Kept) (before now : Option (List ℕ)) (unfit : Option ℕ) → unfit_from (suc i) kept (map frame_of (drop i entries)) ≡ unfit
    → Steps true kept after entry.frame before now → unfit_from (suc (i + 1)) after (map frame_of (drop (i + 1) entries)) ≡ unfit
unfit_further entries i entry within is kept after before now unfit same steps =
    let rest : List Frame = map frame_of (drop (i + 1) entries) in
    let count : suc (suc i) ≡ suc (i + 1) = omega arith in
    sym (ap (λ (n : ℕ). unfit_from n (kept_with kept entry.frame) rest) count ∙ ap (λ (k : Kept). unfit_from (suc (i + 1)) k rest) (sym steps.1))
    ∙ sym (ap (λ (b : Bool). if b then unfit_from (suc (suc i)) (kept_with kept entry.frame) rest else Some (suc i)) steps.0)
    ∙ sym (ap (λ (frames : List Frame). unfit_from (suc i) kept frames) (next_frame entries i entry within is)) ∙ same

-- one that doesn't fit, and its number
wrote_none : (old now later : Option (List ℕ)) (kept after : Kept) (frame : Frame) (rest : List Frame) (whole : List ℕ)
    → WroteTo old now kept (frame ∷ rest) whole → Steps false kept after frame now later → (done : List ℕ) × Appends old later done × (done ++ end_at after ≡ whole)
wrote_none old now later kept after frame rest whole wrote steps =
    let bytes : written_from kept (frame ∷ rest) ≡ end_at after =
    ap (λ (b : Bool). if b then piece_at kept frame ++ written_from (kept_with kept frame) rest else end_at kept) steps.0 ∙ ap (λ (k : Kept). end_at k) (sym steps.1) in (
      wrote.0,
      subst (λ (o : Option (List ℕ)). Appends old o wrote.0) (sym steps.2) wrote.1,
      ap (λ (l : List ℕ). wrote.0 ++ l) (sym bytes) ∙ wrote.2,
    )

pub wrote_unfit : (entries : List Entry) (i : ℕ) (entry : Entry) → i < length entries → entry ≡ get_or entries i entry
    → (old now later : Option (List ℕ)) (kept after : Kept) (whole : List ℕ) → WroteTo old now kept (map frame_of (drop i entries)) whole
    → Steps false kept after entry.frame now later → (done : List ℕ) × Appends old later done × (done ++ end_at after ≡ whole)
wrote_unfit entries i entry within is old now later kept after whole wrote steps =
    wrote_none old now later kept after entry.frame (map frame_of (drop (i + 1) entries)) whole
    (subst (λ (frames : List Frame). WroteTo old now kept frames whole) (next_frame entries i entry within is) wrote) steps

pub unfit_here : (entries : List Entry) (i : ℕ) (entry : Entry) → i < length entries → entry ≡ get_or entries i entry
    → (kept after : Kept) (before now : Option (List ℕ)) (unfit : Option ℕ) → unfit_from (suc i) kept (map frame_of (drop i entries)) ≡ unfit
    → Steps false kept after entry.frame before now → Some (i + 1) ≡ unfit
unfit_here entries i entry within is kept after before now unfit same steps =
    let rest : List Frame = map frame_of (drop (i + 1) entries) in
    let count : i + 1 ≡ suc i = omega arith in
    ap (λ (n : ℕ). Some n) count
    ∙ sym (ap (λ (b : Bool). if b then unfit_from (suc (suc i)) (kept_with kept entry.frame) rest else Some (suc i)) steps.0)
    ∙ sym (ap (λ (frames : List Frame). unfit_from (suc i) kept frames) (next_frame entries i entry within is)) ∙ same

-- all fit
pub wrote_ended : (entries : List Entry) (i : ℕ) (old now : Option (List ℕ)) (kept : Kept) (whole : List ℕ) → length entries ≤ i
    → WroteTo old now kept (map frame_of (drop i entries)) whole → (done : List ℕ) × Appends old now done × (done ++ end_at kept ≡ whole)
wrote_ended entries i old now kept whole ended wrote = subst (λ (es : List Entry). WroteTo old now kept (map frame_of es) whole) (drop_all i entries ended) wrote

pub unfit_ended : (entries : List Entry) (i : ℕ) (kept : Kept) (unfit : Option ℕ) → length entries ≤ i → unfit_from (suc i) kept (map frame_of (drop i entries)) ≡ unfit → None ≡ unfit
unfit_ended entries i kept unfit ended same = sym (ap (λ (es : List Entry). unfit_from (suc i) kept (map frame_of es)) (drop_all i entries ended)) ∙ same

-- what was written before the end is a part
pub part_ended : (old now : Option (List ℕ)) (kept : Kept) (whole : List ℕ) → ((done : List ℕ) × Appends old now done × (done ++ end_at kept ≡ whole)) → AppendsPart old now whole
part_ended old now kept whole wrote = subst (AppendsPart old now) wrote.2 (part_more old now wrote.0 (end_at kept) (part_whole old now wrote.0 wrote.1))

-- the numbers of the frames that are still to come
pub small_further : (entries : List Entry) (i : ℕ) (entry : Entry) → i < length entries → entry ≡ get_or entries i entry
    → (kept after : Kept) (before now : Option (List ℕ)) (Whole : Type 0) → IsFrame entry.frame → Steps true kept after entry.frame before now
    → (AreFrames (fitting_from kept (map frame_of (drop i entries))) → Whole) → AreFrames (fitting_from after (map frame_of (drop (i + 1) entries))) → Whole
small_further entries i entry within is kept after before now Whole small steps whole rest =
    let rest_small : AreFrames (fitting_from (kept_with kept entry.frame) (map frame_of (drop (i + 1) entries))) =
    subst (λ (k : Kept). AreFrames (fitting_from k (map frame_of (drop (i + 1) entries)))) steps.1 rest in
    let both : AreFrames (entry.frame ∷ fitting_from (kept_with kept entry.frame) (map frame_of (drop (i + 1) entries))) = (small, rest_small) in
    whole (subst (λ (frames : List Frame). AreFrames (fitting_from kept frames)) (sym (next_frame entries i entry within is))
    (subst (λ (b : Bool). AreFrames (if b then entry.frame ∷ fitting_from (kept_with kept entry.frame) (map frame_of (drop (i + 1) entries)) else [])) (sym steps.0) both))

pub small_unfit : (entries : List Entry) (i : ℕ) (entry : Entry) → i < length entries → entry ≡ get_or entries i entry
    → (kept after : Kept) (before now : Option (List ℕ)) → Steps false kept after entry.frame before now → AreFrames (fitting_from kept (map frame_of (drop i entries)))
small_unfit entries i entry within is kept after before now steps =
    subst (λ (frames : List Frame). AreFrames (fitting_from kept frames)) (sym (next_frame entries i entry within is))
    (subst (λ (b : Bool). AreFrames (if b then entry.frame ∷ fitting_from (kept_with kept entry.frame) (map frame_of (drop (i + 1) entries)) else [])) (sym steps.0) tt)

-- none is still to come
pub small_ended : (entries : List Entry) (i : ℕ) (kept : Kept) → length entries ≤ i → AreFrames (fitting_from kept (map frame_of (drop i entries)))
small_ended entries i kept ended = subst (λ (es : List Entry). AreFrames (fitting_from kept (map frame_of es))) (sym (drop_all i entries ended)) tt

-- a part of a frame
by_piece : (kept : Kept) (frame : Frame) (rest : List Frame) (b : Bool)
    → (more : List ℕ) × ((if b then piece_at kept frame else []) ++ more ≡ (if b then piece_at kept frame ++ written_from (kept_with kept frame) rest else end_at kept))
by_piece kept frame rest true = (written_from (kept_with kept frame) rest, refl)
by_piece kept frame rest false = (end_at kept, refl)

pub wrote_part : (entries : List Entry) (i : ℕ) (entry : Entry) → i < length entries → entry ≡ get_or entries i entry
    → (old now later : Option (List ℕ)) (kept : Kept) (whole : List ℕ) → WroteTo old now kept (map frame_of (drop i entries)) whole
    → AppendsPart now later (piece_if kept entry.frame) → AppendsPart old later whole
wrote_part entries i entry within is old now later kept whole wrote part =
    let split = by_piece kept entry.frame (map frame_of (drop (i + 1) entries)) (fits_at kept entry.frame) in
    part_after_front old now later wrote.0 (piece_if kept entry.frame ++ split.0) whole wrote.1
    (part_more now later (piece_if kept entry.frame) split.0 part)
    (ap (λ (l : List ℕ). wrote.0 ++ l) (split.1 ∙ sym (ap (written_from kept) (next_frame entries i entry within is))) ∙ wrote.2)

-- what is written of a frame doesn't tell its number
same_order : (order : Option Bool) (number : ℕ) (frame : Frame) → order_by order (renumbered number frame) ≡ order_by order frame
same_order None number frame = refl
same_order (Some little) number frame = refl

same_link : (links : List ℕ) (number : ℕ) (frame : Frame) → link_by links (renumbered number frame) ≡ link_by links frame
same_link [] number frame = refl
same_link (link ∷ links) number frame = refl

same_time : (links : List ℕ) (number : ℕ) (frame : Frame) (time : Option ℤ) → fits_by_time links (renumbered number frame) time ≡ fits_by_time links frame time
same_time links number frame None = refl
same_time links number frame (Some time) = refl

same_fit_by : (format : Format) (little : Bool) (links : List ℕ) (number : ℕ) (frame : Frame) → fits_by format little links (renumbered number frame) ≡ fits_by format little links frame
same_fit_by Pcap little links number frame = ap (λ (link : ℕ). fits_pcap little link frame) (same_link links number frame)
same_fit_by Pcapng little links number frame =
    ap (λ (b : Bool). is_order_kept little frame && (not (nat_lt captured_limit (length frame.bytes)) && b)) (same_time links number frame frame.time)

same_fit : (kept : Kept) (number : ℕ) (frame : Frame) → fits_at kept (renumbered number frame) ≡ fits_at kept frame
same_fit kept number frame =
    same_fit_by kept.format (order_by kept.order (renumbered number frame)) kept.links number frame
    ∙ ap (λ (little : Bool). fits_by kept.format little kept.links frame) (same_order kept.order number frame)

same_kept : (kept : Kept) (number : ℕ) (frame : Frame) → kept_with kept (renumbered number frame) ≡ kept_with kept frame
same_kept kept number frame = ap (λ (little : Bool). record (kept_with kept frame) { order = Some little }) (same_order kept.order number frame)

same_start : (format : Format) (order : Option Bool) (number : ℕ) (frame : Frame) → start_by format order (renumbered number frame) ≡ start_by format order frame
same_start format None number frame = refl
same_start format (Some little) number frame = refl

same_packet_by : (little : Bool) (place number : ℕ) (frame : Frame) (time : Option ℤ) → packet_by little place (renumbered number frame) time ≡ packet_by little place frame time
same_packet_by little place number frame None = refl
same_packet_by little place number frame (Some time) = refl

same_packet : (format : Format) (little : Bool) (links : List ℕ) (number : ℕ) (frame : Frame) → packet_of format little links (renumbered number frame) ≡ packet_of format little links frame
same_packet Pcap little links number frame = refl
same_packet Pcapng little links number frame =
    ap (λ (l : List ℕ). new_interface little frame.link links ++ l) (same_packet_by little (place_of frame.link links) number frame frame.time)

same_piece : (kept : Kept) (number : ℕ) (frame : Frame) → piece_at kept (renumbered number frame) ≡ piece_at kept frame
same_piece kept number frame =
    ap (λ (l : List ℕ). l ++ packet_of kept.format (order_by kept.order (renumbered number frame)) kept.links (renumbered number frame)) (same_start kept.format kept.order number frame)
    ∙ ap (λ (l : List ℕ). start_by kept.format kept.order frame ++ l) (same_packet kept.format (order_by kept.order (renumbered number frame)) kept.links number frame
    ∙ ap (λ (little : Bool). packet_of kept.format little kept.links frame) (same_order kept.order number frame))

pub same_written : (kept : Kept) (number : ℕ) (frames : List Frame) → written_from kept (numbered number frames) ≡ written_from kept frames
same_written kept number [] = refl
same_written kept number (frame ∷ frames) =
    ap (λ (b : Bool). if b then piece_at kept (renumbered number frame) ++ written_from (kept_with kept (renumbered number frame)) (numbered (suc number) frames) else end_at kept) (same_fit kept number frame)
    ∙ ap (λ (l : List ℕ). if fits_at kept frame then l else end_at kept)
    (ap (λ (l : List ℕ). l ++ written_from (kept_with kept (renumbered number frame)) (numbered (suc number) frames)) (same_piece kept number frame)
    ∙ ap (λ (l : List ℕ). piece_at kept frame ++ l) (ap (λ (k : Kept). written_from k (numbered (suc number) frames)) (same_kept kept number frame) ∙ same_written (kept_with kept frame) (suc number) frames))

pub same_unfit : (place : ℕ) (kept : Kept) (number : ℕ) (frames : List Frame) → unfit_from place kept (numbered number frames) ≡ unfit_from place kept frames
same_unfit place kept number [] = refl
same_unfit place kept number (frame ∷ frames) =
    ap (λ (b : Bool). if b then unfit_from (suc place) (kept_with kept (renumbered number frame)) (numbered (suc number) frames) else Some place) (same_fit kept number frame)
    ∙ ap (λ (o : Option ℕ). if fits_at kept frame then o else Some place)
    (ap (λ (k : Kept). unfit_from (suc place) k (numbered (suc number) frames)) (same_kept kept number frame) ∙ same_unfit (suc place) (kept_with kept frame) (suc number) frames)

same_small : (kept : Kept) (number : ℕ) (frames : List Frame) → AreFrames (fitting_from kept frames) → AreFrames (fitting_from kept (numbered number frames))
same_small kept number [] small = tt
same_small kept number (frame ∷ frames) small =
    subst (λ (b : Bool). AreFrames (if b then renumbered number frame ∷ fitting_from (kept_with kept (renumbered number frame)) (numbered (suc number) frames) else [])) (sym (same_fit kept number frame))
    (by (fits_at kept frame) (same_small (kept_with kept frame) (suc number) frames) small)
  where
    by : (b : Bool) → (AreFrames (fitting_from (kept_with kept frame) frames) → AreFrames (fitting_from (kept_with kept frame) (numbered (suc number) frames)))
        → AreFrames (if b then frame ∷ fitting_from (kept_with kept frame) frames else [])
        → AreFrames (if b then renumbered number frame ∷ fitting_from (kept_with kept (renumbered number frame)) (numbered (suc number) frames) else [])
    by true rest small = (
      record { link = small.0.link; original = small.0.original },
      subst (λ (k : Kept). AreFrames (fitting_from k (numbered (suc number) frames))) (sym (same_kept kept number frame)) (rest small.1),
    )
    by false rest small = tt

-- the whole is the file of the frames up to the first that doesn't fit
by_fit : (kept : Kept) (frame : Frame) (frames : List Frame) (b : Bool) → written_from (kept_with kept frame) frames ≡ bytes_from (kept_with kept frame) (fitting_from (kept_with kept frame) frames)
    → (if b then piece_at kept frame ++ written_from (kept_with kept frame) frames else end_at kept) ≡ bytes_from kept (if b then frame ∷ fitting_from (kept_with kept frame) frames else [])
by_fit kept frame frames true same = ap (λ (l : List ℕ). piece_at kept frame ++ l) same
by_fit kept frame frames false same = refl

written_fits : (kept : Kept) (frames : List Frame) → written_from kept frames ≡ bytes_from kept (fitting_from kept frames)
written_fits kept [] = refl
written_fits kept (frame ∷ frames) = by_fit kept frame frames (fits_at kept frame) (written_fits (kept_with kept frame) frames)

pub file_written : (format : Format) (frames : List Frame) → written_from (nothing_kept format) frames ≡ file_of format (numbered 1 frames)
unfolding file_of fitting
file_written format frames =
    sym (same_written (nothing_kept format) 1 frames) ∙ written_fits (nothing_kept format) (numbered 1 frames)
    ∙ whole-file format (fitting_from (nothing_kept format) (numbered 1 frames))

pub file_unfit : (format : Format) (frames : List Frame) → unfit_from 1 (nothing_kept format) frames ≡ first_unfit format (numbered 1 frames)
unfolding first_unfit
file_unfit format frames = sym (same_unfit 1 (nothing_kept format) 1 frames)

-- the same, of the writer that begins the file
file_by : (format : Format) (kept : Kept) (frames : List Frame) → kept ≡ nothing_kept format → written_from kept frames ≡ file_of format (numbered 1 frames)
file_by format kept frames nothing = ap (λ (k : Kept). written_from k frames) nothing ∙ file_written format frames

pub file_part : (format : Format) (kept : Kept) (frames : List Frame) (old now : Option (List ℕ)) → kept ≡ nothing_kept format
    → AppendsPart old now (written_from kept frames) → AppendsPart old now (file_of format (numbered 1 frames))
file_part format kept frames old now nothing part = subst (AppendsPart old now) (file_by format kept frames nothing) part

pub file_whole : (format : Format) (kept after : Kept) (frames : List Frame) (old now later : Option (List ℕ)) → kept ≡ nothing_kept format
    → ((done : List ℕ) × Appends old now done × (done ++ end_at after ≡ written_from kept frames)) → Appends now later (end_at after)
    → Appends old later (file_of format (numbered 1 frames))
file_whole format kept after frames old now later nothing wrote end =
    subst (λ (l : List ℕ). Appends old later l) (wrote.2 ∙ file_by format kept frames nothing) (Appends-trans old now later wrote.0 (end_at after) wrote.1 end)

pub file_broken : (format : Format) (kept after : Kept) (frames : List Frame) (old now later : Option (List ℕ)) → kept ≡ nothing_kept format
    → ((done : List ℕ) × Appends old now done × (done ++ end_at after ≡ written_from kept frames)) → AppendsPart now later (end_at after)
    → AppendsPart old later (file_of format (numbered 1 frames))
file_broken format kept after frames old now later nothing wrote part =
    part_after_front old now later wrote.0 (end_at after) (file_of format (numbered 1 frames)) wrote.1 part (wrote.2 ∙ file_by format kept frames nothing)

pub file_unfit_by : (format : Format) (kept : Kept) (frames : List Frame) (unfit : Option ℕ) → kept ≡ nothing_kept format
    → unfit ≡ unfit_from 1 kept frames → unfit ≡ first_unfit format (numbered 1 frames)
file_unfit_by format kept frames unfit nothing is = is ∙ ap (λ (k : Kept). unfit_from 1 k frames) nothing ∙ file_unfit format frames

pub file_small : (format : Format) (kept : Kept) (frames : List Frame) → kept ≡ nothing_kept format
    → AreFrames (fitting_from kept frames) → AreFrames (fitting format (numbered 1 frames))
unfolding fitting
file_small format kept frames nothing small =
    same_small (nothing_kept format) 1 frames (subst (λ (k : Kept). AreFrames (fitting_from k frames)) nothing small)
