-- What stands at a place of a capture file where a record or block may begin, and what is known behind it.
use Rattle.std.specs.Prelude.{◌<◌, ◌≤◌, ℕ, ◌+◌, Bool, List, [], ◌∷◌}
use Rattle.pk_base.specs.declared.found.Reason.TheVariants.{RecordCut, BlockCut}
use Rattle.capture_formats.specs.Pcap.{pcap_item}
use Rattle.capture_formats.specs.declared.header.PcapHead.{PcapHead}
use Rattle.capture_formats.specs.declared.packet.ItemStep.{ItemStep}
use Rattle.capture_formats.specs.declared.packet.ItemStep.TheVariants as item
use Rattle.capture_formats.specs.Sections.{block_of, blocks_after, step_of}
use Rattle.capture_formats.specs.declared.block.Block.{Block}
use Rattle.capture_formats.specs.declared.step.BlockStep.{BlockStep}
use Rattle.capture_formats.specs.declared.step.BlockStep.TheVariants as step
use Rattle.capture_read.specs.Ending.{end_of_bytes, unfinished, damage_at}
use Rattle.capture_read.specs.declared.piece.Piece.{Piece}
use Rattle.capture_read.specs.declared.piece.Piece.TheVariants.{End, Packet, Passed}

-- what a record of a pcap file comes to, at a place of the file; `large` where the file has more bytes than are looked at
abbrev pub of_record : Bool → ℕ → ItemStep → Piece
of_record large at (item.Need n) = End (unfinished large at RecordCut)
of_record large at (item.Bad reason) = End (damage_at at reason)
of_record large at (item.Item found) = Packet found

-- a record of a pcap file with this header, which stays
abbrev pub record_at : Bool → PcapHead → ℕ → List ℕ → Piece
record_at large head at bytes = of_record large at (pcap_item head bytes)

abbrev pub head_behind : PcapHead → List ℕ → PcapHead
head_behind head bytes = head

-- what a block of a pcapng file comes to
abbrev pub of_block : Bool → ℕ → BlockStep → Piece
of_block large at (step.Need n) = End (unfinished large at BlockCut)
of_block large at (step.Bad reason) = End (damage_at at reason)
of_block large at (step.Item found) = Packet found
of_block large at (step.Skipped size) = Passed size

-- a block of a pcapng file with these blocks before it, the newest first, and the blocks before the next one
abbrev pub block_at : Bool → List Block → ℕ → List ℕ → Piece
block_at large before at bytes = of_block large at (step_of (block_of before bytes))

abbrev pub blocks_behind : List Block → List ℕ → List Block
blocks_behind before bytes = blocks_after (block_of before bytes) before

-- a record or block where a byte is left, and else the end
abbrev pub where_left : Bool → List ℕ → Piece → Piece
where_left large [] piece = End (end_of_bytes large)
where_left large (b ∷ rest) piece = piece

-- a record or block ends within so many bytes, and its packet within it
abbrev pub IsPieceWithin : Piece → ℕ → Type 0
IsPieceWithin (End ending) held = Unit {0}
IsPieceWithin (Packet found) held =
    (0 < found.end) × (found.end ≤ held) × (found.start + found.len ≤ found.end)
IsPieceWithin (Passed size) held = (0 < size) × (size ≤ held)
