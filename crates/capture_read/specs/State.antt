-- How far a capture file is read.
use Rattle.std.specs.Prelude.{◌≡◌, ◌≤◌, ℕ, suc, ◌+◌, Bool, List, length, drop}
use Rattle.capture_formats.specs.Sections.{Scope, IsReady, block_in, scope_after, step_of}
use Rattle.capture_read.specs.Capture.{Reading, ended, with_frame, frame_of, held_part, is_large, pieces}
use Rattle.capture_read.specs.Pieces.{record_at, head_behind, of_block}
use Rattle.capture_read.specs.declared.format.Format.{Format}
use Rattle.capture_read.specs.declared.format.Format.TheVariants.{Pcap, Pcapng, Ended}
use Rattle.capture_read.specs.declared.format.Place.{Place}
use Rattle.capture_read.specs.declared.piece.Piece.{Piece}
use Rattle.capture_read.specs.declared.piece.Piece.TheVariants.{End, Packet, Passed}

-- a block of a pcapng file by what is known of the blocks before it, and what is known then
abbrev pub scoped_block : Bool → Scope → ℕ → List ℕ → Piece
scoped_block large scope at bytes = of_block large at (step_of (block_in scope bytes))

abbrev pub scope_behind : Scope → List ℕ → Scope
scope_behind scope bytes = scope_after (block_in scope bytes) scope

-- what is still to come from a place on of the bytes looked at, where the next frame has the given number
abbrev pub reading_from : Bool → List ℕ → Format → Scope → ℕ → ℕ → Reading
reading_from large held (Pcap head) scope number at =
    pieces (record_at large) head_behind large head number at 0 (drop at held)
reading_from large held Pcapng scope number at =
    pieces (scoped_block large) scope_behind large scope number at 0 (drop at held)
reading_from large held (Ended ending) scope number at = ended ending

-- what is still to come of a file
abbrev pub rest_of : List ℕ → Format → Scope → Place → Reading
rest_of file format scope place =
    reading_from (is_large file) (held_part file) format scope place.number place.at

-- a pcapng file begins with a section
abbrev pub IsBegun : Format → Scope → List ℕ → Type 0
IsBegun (Pcap head) scope bytes = Unit {0}
IsBegun Pcapng scope bytes = IsReady scope bytes
IsBegun (Ended ending) scope bytes = Unit {0}

-- a place within the bytes looked at, which hold at least a byte for each frame before it
pub record IsReached (file : List ℕ) (format : Format) (scope : Scope)
    (place : Place) : Type 0 where
  pub few : place.number ≤ suc place.at
  pub within : place.at ≤ length (held_part file)
  pub begun : IsBegun format scope (drop place.at (held_part file))

-- what was to come from a place on, where a record or block is read there, by what comes then. The bytes begin at the place
abbrev pub Reads : (ℕ → ℕ → Reading) → (ℕ → ℕ → Reading) → ℕ → List ℕ → Piece → Type 0
Reads old new at bytes (End ending) = (number : ℕ) → old number at ≡ ended ending
Reads old new at bytes (Packet found) = (number : ℕ)
    → old number at ≡ with_frame (frame_of number found bytes) (new (suc number) (at + found.end))
Reads old new at bytes (Passed size) = (number : ℕ) → old number at ≡ new number (at + size)

-- where no block was passed over
abbrev pub UnlessPassed : Piece → Type 0 → Type 0
UnlessPassed (End ending) P = P
UnlessPassed (Packet found) P = P
UnlessPassed (Passed size) P = Unit {0}

-- where a record or block was read
abbrev pub WhenRead : Piece → Type 0 → Type 0
WhenRead (End ending) P = Unit {0}
WhenRead (Packet found) P = P
WhenRead (Passed size) P = P
