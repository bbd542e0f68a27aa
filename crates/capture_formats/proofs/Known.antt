-- What is known of the blocks before follows from block to block.
use Rattle.std.proofs.Common.{◌≡◌, List, refl}
use Rattle.capture_formats.specs.Sections.{blocks_after, scope_after, scope_of}
use Rattle.capture_formats.specs.declared.block.Block.{Block}
use Rattle.capture_formats.specs.declared.block.Block.TheVariants as block
use Rattle.capture_formats.specs.declared.block.BlockRead.{BlockRead}
use Rattle.capture_formats.specs.declared.block.BlockRead.TheVariants.{Need, Whole, Bad}

pub scope_of-after : (read : BlockRead) (before : List Block) → scope_after read (scope_of before) ≡ scope_of (blocks_after read before)
scope_of-after (Need n) before = refl
scope_of-after (Whole (block.Section little) end) before = refl
scope_of-after (Whole (block.Interface interface) end) before = refl
scope_of-after (Whole (block.Packet found) end) before = refl
scope_of-after (Whole block.Other end) before = refl
scope_of-after (Bad reason) before = refl
