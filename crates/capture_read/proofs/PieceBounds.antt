-- The records and blocks of a capture file are within its bytes.
use Rattle.std.proofs.Common.{ℕ, Bool, List, length, arith}
use Rattle.capture_formats.specs.Pcap.{pcap_item, IsItemWithin}
use Rattle.capture_formats.specs.declared.header.PcapHead.{PcapHead}
use Rattle.capture_formats.specs.declared.packet.ItemStep.{ItemStep}
use Rattle.capture_formats.specs.declared.packet.ItemStep.TheVariants as item
use Rattle.capture_formats.proofs.RecordsWithin.{pcap_item-within}
use Rattle.capture_formats.specs.Blocks.{IsReadWithin}
use Rattle.capture_formats.specs.Sections.{block_of, order_of, interfaces_of, step_of}
use Rattle.capture_formats.specs.declared.block.Block.{Block}
use Rattle.capture_formats.specs.declared.block.Block.TheVariants as block
use Rattle.capture_formats.specs.declared.block.BlockRead.{BlockRead}
use Rattle.capture_formats.specs.declared.block.BlockRead.TheVariants as read
use Rattle.capture_formats.proofs.BlocksWithin.{block_at-within}
use Rattle.capture_read.specs.Pieces.{of_record, of_block, record_at, block_at, IsPieceWithin}

of_record-within : (large : Bool) (at : ℕ) (step : ItemStep) (held : ℕ) → IsItemWithin step held → IsPieceWithin (of_record large at step) held
of_record-within large at (item.Need n) held within = tt
of_record-within large at (item.Bad reason) held within = tt
of_record-within large at (item.Item found) held within = within

pub record-within : (large : Bool) (head : PcapHead) (at : ℕ) (bytes : List ℕ) → IsPieceWithin (record_at large head at bytes) (length bytes)
record-within large head at bytes = of_record-within large at (pcap_item head bytes) (length bytes) (pcap_item-within head bytes)

pub of_block-within : (large : Bool) (at : ℕ) (r : BlockRead) (held : ℕ) → IsReadWithin r held → IsPieceWithin (of_block large at (step_of r)) held
of_block-within large at (read.Need n) held within = tt
of_block-within large at (read.Bad reason) held within = tt
of_block-within large at (read.Whole (block.Section little) end) held within = (within.0, within.1)
of_block-within large at (read.Whole (block.Interface interface) end) held within = (within.0, within.1)
of_block-within large at (read.Whole (block.Packet found) end) held within =
    (omega (arith, within.0, within.2.0), omega (arith, within.1, within.2.0), within.2.1)
of_block-within large at (read.Whole block.Other end) held within = (within.0, within.1)

pub block-within : (large : Bool) (before : List Block) (at : ℕ) (bytes : List ℕ) → IsPieceWithin (block_at large before at bytes) (length bytes)
block-within large before at bytes =
    of_block-within large at (block_of before bytes) (length bytes) (block_at-within (order_of before) (interfaces_of before) bytes)
