-- What is kept of the frames so far, and the file that is written of them.
use Rattle.std.proofs.Common.{◌≡◌, ◌≤◌, ℕ, Bool, true, false, List, [], ◌∷◌, ◌++◌, length, Some, refl, sym, ap, ◌∙◌, subst, append_assoc, arith}
use Rattle.std.specs.Prelude.{◌&&◌, not, ◌==◌, if◌then◌else◌}
use Rattle.std.proofs.lemmas.Bool.Decides.{nat_tests}
use Rattle.std.proofs.lemmas.List.{append-nil}
use Rattle.pk_base.specs.Limits.{file_limit}
use Rattle.capture_read.specs.Capture.{capture_of}
use Rattle.capture_read.specs.declared.ending.Ending.TheVariants.{Whole}
use Rattle.capture_read.specs.declared.frame.Frame.{Frame}
use Rattle.capture_write.specs.declared.added.Added.{Added}
use Rattle.capture_write.specs.declared.added.Added.TheVariants.{Bytes, Unfit}
use Rattle.capture_write.specs.declared.format.Format.{Format}
use Rattle.capture_write.specs.declared.format.Format.TheVariants.{Pcap, Pcapng}
use Rattle.capture_write.specs.Frames.{IsFrame, AreFrames, order_of, all_read_back, AreOrdersKept}
use Rattle.capture_write.specs.Kept.{Kept, nothing_kept, end_at, piece_at, kept_with, kept_of, bytes_of, fits_at, AllFit, in_order, written, fits, Adds, Stands, StandsAfter}
use Rattle.capture_write.specs.Pcap.{pcap_records, pcap_header, pcap_record, pcap_bytes, fits_pcap, all_fit_pcap, fits_in_pcap}
use Rattle.capture_write.specs.Pcapng.{section_block, pcapng_piece, pcapng_pieces, pcapng_bytes, links_with, is_new, fits_pcapng, all_fit_pcapng, fits_in_pcapng}
use Rattle.capture_write.specs.ReadBack.{ReadsBack}
use Rattle.capture_write.proofs.FitLaws.{and_parts, fitting_pcap, fitting_pcapng}
use Rattle.capture_write.proofs.PcapBack.{pcap-back}
use Rattle.capture_write.proofs.PcapngBack.{pcapng-back}

-- the bytes that are still to come, and whether these frames fit
abbrev pub bytes_from : Kept → List Frame → List ℕ
bytes_from kept [] = end_at kept
bytes_from kept (frame ∷ frames) = piece_at kept frame ++ bytes_from (kept_with kept frame) frames

abbrev pub fits_from : Kept → List Frame → Bool
fits_from kept [] = true
fits_from kept (frame ∷ frames) = fits_at kept frame && fits_from (kept_with kept frame) frames

-- the bytes of some frames, and those of the others
past-bytes : (format : Format) (past frames : List Frame)
    → bytes_of format past ++ bytes_from (kept_of format past) frames ≡ bytes_from (nothing_kept format) (in_order past frames)
past-bytes format [] frames = refl
past-bytes format (frame ∷ past) frames =
    append_assoc (bytes_of format past) (piece_at (kept_of format past) frame) (bytes_from (kept_of format (frame ∷ past)) frames)
    ∙ past-bytes format past (frame ∷ frames)

past-fits : (format : Format) (past frames : List Frame) → AllFit format past
    → fits_from (nothing_kept format) (in_order past frames) ≡ fits_from (kept_of format past) frames
past-fits format [] frames all = refl
past-fits format (frame ∷ past) frames all =
    past-fits format past (frame ∷ frames) all.1
    ∙ ap (λ (b : Bool). b && fits_from (kept_of format (frame ∷ past)) frames) all.0

-- behind the first frame the bytes are those of records or blocks
records-from : (little : Bool) (links : List ℕ) (frames : List Frame)
    → bytes_from (record { format = Pcap; order = Some little; links = links }) frames ≡ pcap_records little frames
records-from little links [] = refl
records-from little links (frame ∷ frames) = ap (λ (rest : List ℕ). pcap_record little frame ++ rest) (records-from little (links_with frame.link links) frames)

blocks-from : (little : Bool) (links : List ℕ) (frames : List Frame)
    → bytes_from (record { format = Pcapng; order = Some little; links = links }) frames ≡ pcapng_pieces little links frames
blocks-from little links [] = refl
blocks-from little links (frame ∷ frames) = ap (λ (rest : List ℕ). pcapng_piece little links frame ++ rest) (blocks-from little (links_with frame.link links) frames)

pub whole-file : (format : Format) (frames : List Frame) → bytes_from (nothing_kept format) frames ≡ written format frames
unfolding pcap_bytes pcapng_bytes
whole-file Pcap [] = sym (append-nil (pcap_header true 1))
whole-file Pcap (frame ∷ frames) =
    append_assoc (pcap_header frame.little frame.link) (pcap_record frame.little frame) (bytes_from (kept_with (nothing_kept Pcap) frame) frames)
    ∙ ap (λ (rest : List ℕ). pcap_header frame.little frame.link ++ (pcap_record frame.little frame ++ rest))
    (records-from frame.little (links_with frame.link []) frames)
whole-file Pcapng [] = sym (append-nil (section_block true))
whole-file Pcapng (frame ∷ frames) =
    append_assoc (section_block frame.little) (pcapng_piece frame.little [] frame) (bytes_from (kept_with (nothing_kept Pcapng) frame) frames)
    ∙ ap (λ (rest : List ℕ). section_block frame.little ++ (pcapng_piece frame.little [] frame ++ rest))
    (blocks-from frame.little (links_with frame.link []) frames)

records-fit : (little : Bool) (link : ℕ) (more : List ℕ) (frames : List Frame)
    → fits_from (record { format = Pcap; order = Some little; links = link ∷ more }) frames ≡ all_fit_pcap little link frames
records-fit little link more [] = refl
records-fit little link more (frame ∷ frames) =
    ap (λ (b : Bool). fits_pcap little link frame && b)
    (by (is_new frame.link (link ∷ more)) (λ (later : List ℕ). records-fit little link later frames))
  where
    by : (b : Bool)
        → ((later : List ℕ) → fits_from (record { format = Pcap; order = Some little; links = link ∷ later }) frames ≡ all_fit_pcap little link frames)
        → fits_from (record { format = Pcap; order = Some little; links = if b then (link ∷ more) ++ frame.link ∷ [] else link ∷ more }) frames
        ≡ all_fit_pcap little link frames
    by true later = later (more ++ frame.link ∷ [])
    by false later = later more

blocks-fit : (little : Bool) (links : List ℕ) (frames : List Frame)
    → fits_from (record { format = Pcapng; order = Some little; links = links }) frames ≡ all_fit_pcapng little links frames
blocks-fit little links [] = refl
blocks-fit little links (frame ∷ frames) = ap (λ (b : Bool). fits_pcapng little links frame && b) (blocks-fit little (links_with frame.link links) frames)

pub whole-fit : (format : Format) (frames : List Frame) → fits_from (nothing_kept format) frames ≡ fits format frames
unfolding fits_in_pcap fits_in_pcapng
whole-fit Pcap [] = refl
whole-fit Pcap (frame ∷ frames) = ap (λ (b : Bool). fits_pcap frame.little frame.link frame && b) (records-fit frame.little frame.link [] frames)
whole-fit Pcapng [] = refl
whole-fit Pcapng (frame ∷ frames) = ap (λ (b : Bool). fits_pcapng frame.little [] frame && b) (blocks-fit frame.little (links_with frame.link []) frames)

and_true : (b : Bool) → (b && true) ≡ b
and_true true = refl
and_true false = refl

-- one frame more fits where it fits behind the others
one-fits : (format : Format) (past : List Frame) (frame : Frame) → AllFit format past
    → fits format (in_order past (frame ∷ [])) ≡ fits_at (kept_of format past) frame
one-fits format past frame all =
    sym (whole-fit format (in_order past (frame ∷ []))) ∙ past-fits format past (frame ∷ []) all ∙ and_true (fits_at (kept_of format past) frame)

-- byte orders are kept
pub order-kept : (little flag : Bool) (link : ℕ) → (if link == 0 then (if little then flag else not flag) else true) ≡ true → link ≡ 0 → flag ≡ little
order-kept true true link h zero = refl
order-kept true false link h zero = grind (arith, nat_tests)
order-kept false true link h zero = grind (arith, nat_tests)
order-kept false false link h zero = refl

record-orders : (little : Bool) (link : ℕ) (frames : List Frame) → all_fit_pcap little link frames ≡ true → AreOrdersKept little frames
record-orders little link [] fit = tt
record-orders little link (frame ∷ frames) fit =
    let both = and_parts (fits_pcap little link frame) (all_fit_pcap little link frames) fit in
    (order-kept little frame.little frame.link (fitting_pcap little link frame both.0).order, record-orders little link frames both.1)

block-orders : (little : Bool) (links : List ℕ) (frames : List Frame) → all_fit_pcapng little links frames ≡ true → AreOrdersKept little frames
block-orders little links [] fit = tt
block-orders little links (frame ∷ frames) fit =
    let both = and_parts (fits_pcapng little links frame) (all_fit_pcapng little (links_with frame.link links) frames) fit in (
      order-kept little frame.little frame.link (fitting_pcapng little links frame both.0).order,
      block-orders little (links_with frame.link links) frames both.1,
    )

pub orders : (format : Format) (frames : List Frame) → fits format frames ≡ true → AreOrdersKept (order_of frames) frames
unfolding fits_in_pcap fits_in_pcapng
orders Pcap [] fit = tt
orders Pcap (frame ∷ frames) fit = record-orders frame.little frame.link (frame ∷ frames) fit
orders Pcapng [] fit = tt
orders Pcapng (frame ∷ frames) fit = block-orders frame.little [] (frame ∷ frames) fit

-- the file is read back
pub file-back : (format : Format) (frames : List Frame) → AreFrames frames → fits format frames ≡ true → length (written format frames) ≤ file_limit
    → capture_of (written format frames) ≡ record { frames = all_read_back (order_of frames) 1 frames; ending = Whole }
file-back Pcap frames are fit small = pcap-back frames are fit small
file-back Pcapng frames are fit small = pcapng-back frames are fit small

are-in_order : (past frames : List Frame) → AreFrames past → AreFrames frames → AreFrames (in_order past frames)
are-in_order [] frames before are = are
are-in_order (frame ∷ past) frames before are = are-in_order past (frame ∷ frames) before.1 (before.0, are)

pub stands_new : (format : Format) → Stands (nothing_kept format) []
unfolding Stands
stands_new format = (refl, tt, tt)

pub stands_add : (old new : Kept) (frame : Frame) (added : Added) → IsFrame frame → Adds old new frame added
    → (past : List Frame) → Stands old past → StandsAfter old new frame added past
unfolding Stands
stands_add old new frame (Bytes bytes) small adds past stands =
    let fit : fits_at (kept_of old.format past) frame ≡ true = ap (λ (k : Kept). fits_at k frame) (sym stands.0) ∙ adds.0 in
    let after : Stands (kept_with old frame) (frame ∷ past) =
    (ap (λ (k : Kept). kept_with k frame) stands.0, (fit, stands.1), (small, stands.2)) in (
      subst (λ (k : Kept). Stands k (frame ∷ past)) (sym adds.2) after,
      ap (λ (piece : List ℕ). bytes_of old.format past ++ piece) (adds.1 ∙ ap (λ (k : Kept). piece_at k frame) stands.0),
      one-fits old.format past frame stands.1 ∙ fit,
    )
stands_add old new frame Unfit small adds past stands = (
  subst (λ (k : Kept). Stands k past) (sym adds.1) stands,
  one-fits old.format past frame stands.1 ∙ ap (λ (k : Kept). fits_at k frame) (sym stands.0) ∙ adds.0,
)

pub stands_back : (kept : Kept) (bytes : List ℕ) → bytes ≡ end_at kept
    → (past : List Frame) → Stands kept past → ReadsBack kept.format past bytes
unfolding Stands
stands_back kept bytes is past stands =
    let frames : List Frame = in_order past [] in
    let file : bytes_of kept.format past ++ bytes ≡ written kept.format frames =
    ap (λ (end : List ℕ). bytes_of kept.format past ++ end) (is ∙ ap end_at stands.0)
    ∙ past-bytes kept.format past [] ∙ whole-file kept.format frames in
    let fit : fits kept.format frames ≡ true = sym (whole-fit kept.format frames) ∙ past-fits kept.format past [] stands.1 in
    record {
      file = file;
      fit = fit;
      orders = orders kept.format frames fit;
      capture = λ small. ap capture_of file
          ∙ file-back kept.format frames (are-in_order past [] stands.2 tt) fit (subst (λ (all : List ℕ). length all ≤ file_limit) file small);
    }
