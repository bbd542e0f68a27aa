-- One step through a file of each format.
use Rattle.std.proofs.Common.{◌≡◌, ℕ, ◌-◌, Bool, List, length, drop, length-drop}
use Rattle.capture_formats.specs.declared.header.PcapHead.{PcapHead}
use Rattle.capture_formats.specs.Sections.{Scope}
use Rattle.capture_read.specs.Pieces.{record_at, head_behind, where_left, IsPieceWithin}
use Rattle.capture_read.specs.State.{scoped_block, scope_behind, reading_from, Reads, IsBegun, UnlessPassed, WhenRead}
use Rattle.capture_read.specs.declared.format.Format.{Format}
use Rattle.capture_read.specs.declared.format.Format.TheVariants.{Pcap, Pcapng}
use Rattle.capture_read.specs.declared.piece.Piece.{Piece}
use Rattle.capture_read.specs.declared.piece.Piece.TheVariants.{End, Packet, Passed}
use Rattle.capture_read.proofs.PieceSteps.{pieces-reads}

-- a record
pub reads_record : (large : Bool) (held : List ℕ) (head : PcapHead) (scope : Scope) (at : ℕ)
    → IsPieceWithin (where_left large (drop at held) (record_at large head at (drop at held))) (length (drop at held))
    → Reads (reading_from large held (Pcap head) scope) (reading_from large held (Pcap head) scope) at (drop at held)
    (where_left large (drop at held) (record_at large head at (drop at held)))
reads_record large held head scope at within = pieces-reads (record_at large) head_behind large head at held within

-- a block
pub reads_block : (large : Bool) (held : List ℕ) (scope : Scope) (at : ℕ)
    → IsPieceWithin (where_left large (drop at held) (scoped_block large scope at (drop at held))) (length (drop at held))
    → Reads (reading_from large held Pcapng scope) (reading_from large held Pcapng (scope_behind scope (drop at held))) at (drop at held)
    (where_left large (drop at held) (scoped_block large scope at (drop at held)))
reads_block large held scope at within = pieces-reads (scoped_block large) scope_behind large scope at held within

-- the bytes left at a place
pub left_at : (at : ℕ) (held rest : List ℕ) → rest ≡ drop at held → length rest ≡ length held - at
left_at at held rest is = rw is (length-drop at held)

-- a fact that holds always
pub unless_passed : (piece : Piece) (P : Type 0) → P → UnlessPassed piece P
unless_passed (End ending) P p = p
unless_passed (Packet found) P p = p
unless_passed (Passed size) P p = tt

-- any record may stand behind a pcap file's header
pub record_begun : (piece : Piece) (format : Format) (head : PcapHead) (scope : Scope) → format ≡ Pcap head
    → WhenRead piece ((bytes : List ℕ) → IsBegun format scope bytes)
record_begun (End ending) format head scope is = tt
record_begun (Packet found) format head scope is = rw is (λ bytes. tt)
record_begun (Passed size) format head scope is = rw is (λ bytes. tt)
