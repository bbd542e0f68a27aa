-- What a capture file stands for: a list of frames, and how the file ends.
use Rattle.std.specs.Prelude.{ℕ, zero, suc, ◌-◌, Bool, eqb, nat_lt, if◌then◌else◌, List, [], ◌∷◌, length, take, drop}
use Rattle.std.specs.List.{starts_with}
use Rattle.pk_base.specs.Limits.{file_limit}
use Rattle.pk_base.specs.declared.found.Found.{Found}
use Rattle.pk_base.specs.declared.found.Reason.TheVariants.{ShortHeader}
use Rattle.capture_formats.specs.Pcap.{pcap_head}
use Rattle.capture_formats.specs.declared.header.HeadStep.{HeadStep}
use Rattle.capture_formats.specs.declared.header.HeadStep.TheVariants as head
use Rattle.capture_read.specs.declared.frame.Frame.{Frame}
use Rattle.capture_read.specs.declared.ending.Ending.{Ending}
use Rattle.capture_read.specs.declared.piece.Piece.{Piece}
use Rattle.capture_read.specs.declared.piece.Piece.TheVariants.{End, Packet, Passed}
use Rattle.capture_read.specs.Ending.{end_of_bytes, unfinished, damage_at}
use Rattle.capture_read.specs.Pieces.{record_at, head_behind, block_at, blocks_behind}

-- the frames that stand in a file from a place on, and how it ends
pub record Reading : Type 0 where
  pub frames : List Frame
  pub ending : Ending

-- no frame more
abbrev pub ended : Ending → Reading
ended ending = record { frames = []; ending = ending }

-- a frame before the others
abbrev pub with_frame : Frame → Reading → Reading
with_frame frame reading = record { frames = frame ∷ reading.frames; ending = reading.ending }

-- the bytes of a file that are looked at
abbrev pub held_part : List ℕ → List ℕ
held_part file = take file_limit file

-- whether a file has more bytes than those
abbrev pub is_large : List ℕ → Bool
is_large file = nat_lt file_limit (length file)

-- the frame found in a record or block
abbrev pub frame_of : ℕ → Found → List ℕ → Frame
frame_of number found bytes = record {
  number = number;
  time = found.time;
  link = found.link;
  little = found.little;
  bytes = take found.len (drop found.start bytes);
  original = found.original;
}

-- what a record or block comes to: how the file ends there, or its frame and what follows, or what follows alone. What
-- follows is given by the next frame's number and the size of the record or block
abbrev pub after_piece : ℕ → List ℕ → (ℕ → ℕ → Reading) → Piece → Reading
after_piece number bytes follows (End ending) = ended ending
after_piece number bytes follows (Packet found) =
    with_frame (frame_of number found bytes) (follows (suc number) found.end)
after_piece number bytes follows (Passed size) = follows number size

-- the records or blocks of a file, of which the first begins `skip` bytes further on. The bytes begin at place `at` of the
-- file, and the next frame has the given number. `read` says what stands at a place where a record or block begins, by
-- what is known from those before it, and `behind` what is known behind it
unfoldable pub pieces : {S : Type 0} → (S → ℕ → List ℕ → Piece) → (S → List ℕ → S) → Bool → S → ℕ
    → ℕ → ℕ → List ℕ → Reading
pieces read behind large known number at (suc skip) [] = ended (end_of_bytes large)
pieces read behind large known number at (suc skip) (b ∷ rest) =
    pieces read behind large known number (suc at) skip rest
pieces read behind large known number at zero [] = ended (end_of_bytes large)
pieces read behind large known number at zero (b ∷ rest) =
    after_piece number (b ∷ rest)
    (λ next size. pieces read behind large (behind known (b ∷ rest)) next (suc at) (size - 1) rest)
    (read known at (b ∷ rest))

-- the frames behind a pcap file's header of 24 bytes
abbrev pub after_head : Bool → List ℕ → HeadStep → Reading
after_head large bytes (head.Need n) = ended (unfinished large 0 ShortHeader)
after_head large bytes (head.Bad reason) = ended (damage_at 0 reason)
after_head large bytes (head.Head h) =
    pieces (record_at large) head_behind large h 1 24 0 (drop 24 bytes)

-- whether a file begins with a section's type, as pcapng files do: draft-ietf-opsawg-pcapng, section 4.1
abbrev pub is_pcapng : List ℕ → Bool
is_pcapng bytes = starts_with eqb bytes (0x0A ∷ 0x0D ∷ 0x0D ∷ 0x0A ∷ [])

-- what the bytes of a file stand for that are looked at
abbrev pub reading_of : Bool → List ℕ → Reading
reading_of large bytes =
    if is_pcapng bytes then pieces (block_at large) blocks_behind large [] 1 0 0 bytes
    else after_head large bytes (pcap_head bytes)

-- what a capture file stands for
unfoldable pub capture_of : List ℕ → Reading
capture_of file = reading_of (is_large file) (held_part file)
