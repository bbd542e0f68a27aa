-- A capture file that is written frame by frame.
use Rattle.std.specs.Prelude.{◌≡◌, ℕ, Bool, true, false, List, [], ◌∷◌, ◌++◌, Option, Some, None}
use Rattle.capture_read.specs.declared.frame.Frame.{Frame}
use Rattle.capture_write.specs.declared.added.Added.{Added}
use Rattle.capture_write.specs.declared.added.Added.TheVariants.{Bytes, Unfit}
use Rattle.capture_write.specs.declared.format.Format.{Format}
use Rattle.capture_write.specs.declared.format.Format.TheVariants.{Pcap, Pcapng}
use Rattle.capture_write.specs.Frames.{AreFrames}
use Rattle.capture_write.specs.Pcap.{pcap_header, pcap_record, pcap_bytes, fits_pcap, fits_in_pcap}
use Rattle.capture_write.specs.Pcapng.{section_block, pcapng_piece, pcapng_bytes, links_with, fits_pcapng, fits_in_pcapng}

-- what is kept of the frames so far: the byte order of the first, and their link types in the order of their first frames
pub record Kept : Type 0 where
  pub format : Format
  pub order : Option Bool
  pub links : List ℕ

abbrev pub nothing_kept : Format → Kept
nothing_kept format = record { format = format; order = None; links = [] }

-- the byte order with one frame more
abbrev pub order_by : Option Bool → Frame → Bool
order_by None frame = frame.little
order_by (Some little) frame = little

-- the first link type with one frame more
abbrev pub link_by : List ℕ → Frame → ℕ
link_by [] frame = frame.link
link_by (link ∷ links) frame = link

-- whether a frame fits behind the others
abbrev pub fits_by : Format → Bool → List ℕ → Frame → Bool
fits_by Pcap little links frame = fits_pcap little (link_by links frame) frame
fits_by Pcapng little links frame = fits_pcapng little links frame

abbrev pub fits_at : Kept → Frame → Bool
fits_at kept frame = fits_by kept.format (order_by kept.order frame) kept.links frame

-- what stands before the first frame
abbrev pub start_of : Format → Bool → ℕ → List ℕ
start_of Pcap little link = pcap_header little link
start_of Pcapng little link = section_block little

-- the same where this frame is the first
abbrev pub start_by : Format → Option Bool → Frame → List ℕ
start_by format None frame = start_of format frame.little frame.link
start_by format (Some little) frame = []

-- what is written of a frame
abbrev pub packet_of : Format → Bool → List ℕ → Frame → List ℕ
packet_of Pcap little links frame = pcap_record little frame
packet_of Pcapng little links frame = pcapng_piece little links frame

-- the bytes that one frame more brings
abbrev pub piece_at : Kept → Frame → List ℕ
piece_at kept frame = start_by kept.format kept.order frame
    ++ packet_of kept.format (order_by kept.order frame) kept.links frame

-- what is kept then
abbrev pub kept_with : Kept → Frame → Kept
kept_with kept frame = record {
  format = kept.format;
  order = Some (order_by kept.order frame);
  links = links_with frame.link kept.links;
}

-- the bytes at the end: those of the file without frames where there was none
abbrev pub end_by : Format → Option Bool → List ℕ
end_by format None = start_of format true 1
end_by format (Some little) = []

abbrev pub end_at : Kept → List ℕ
end_at kept = end_by kept.format kept.order

-- a frame was added, or doesn't fit
abbrev pub Adds : Kept → Kept → Frame → Added → Type 0
Adds old new frame (Bytes bytes) =
    (fits_at old frame ≡ true) × (bytes ≡ piece_at old frame) × (new ≡ kept_with old frame)
Adds old new frame Unfit = (fits_at old frame ≡ false) × (new ≡ old)

-- what is kept after these frames, of which the newest stands first
abbrev pub kept_of : Format → List Frame → Kept
kept_of format [] = nothing_kept format
kept_of format (frame ∷ past) = kept_with (kept_of format past) frame

-- the bytes that they brought
abbrev pub bytes_of : Format → List Frame → List ℕ
bytes_of format [] = []
bytes_of format (frame ∷ past) = bytes_of format past ++ piece_at (kept_of format past) frame

-- each of them fitted behind those before it
abbrev pub AllFit : Format → List Frame → Type 0
AllFit format [] = Unit {0}
AllFit format (frame ∷ past) = (fits_at (kept_of format past) frame ≡ true) × AllFit format past

-- what is kept comes from these frames, which fitted
unfoldable pub Stands : Kept → List Frame → Type 0
Stands kept past = (kept ≡ kept_of kept.format past) × AllFit kept.format past × AreFrames past

-- frames of which the newest stands first, in their order, before others
abbrev pub in_order : List Frame → List Frame → List Frame
in_order [] frames = frames
in_order (frame ∷ past) frames = in_order past (frame ∷ frames)

-- the file of a list of frames
abbrev pub written : Format → List Frame → List ℕ
written Pcap frames = pcap_bytes frames
written Pcapng frames = pcapng_bytes frames

-- whether all of them fit into it
abbrev pub fits : Format → List Frame → Bool
fits Pcap frames = fits_in_pcap frames
fits Pcapng frames = fits_in_pcapng frames

-- what is kept, and the bytes so far, after one frame more. A frame is unfit exactly where the list with it doesn't fit
abbrev pub StandsAfter : Kept → Kept → Frame → Added → List Frame → Type 0
StandsAfter old new frame (Bytes bytes) past =
    Stands new (frame ∷ past)
    × (bytes_of old.format past ++ bytes ≡ bytes_of old.format (frame ∷ past))
    × (fits old.format (in_order past (frame ∷ [])) ≡ true)
StandsAfter old new frame Unfit past =
    Stands new past × (fits old.format (in_order past (frame ∷ [])) ≡ false)
