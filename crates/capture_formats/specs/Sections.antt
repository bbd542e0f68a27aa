-- What the blocks of a pcapng file say of the block behind them: draft-ietf-opsawg-pcapng, section 4.1 (byte order) and
-- section 4.2 (numbers of interfaces). The blocks before stand newest first.
use Rattle.std.specs.Prelude.{◌≡◌, ◌<◌, ◌≤◌, ℕ, ◌+◌, Bool, List, [], ◌∷◌, ◌++◌, take, Option, Some, None}
use Rattle.capture_formats.specs.Blocks.{block_at}
use Rattle.capture_formats.specs.declared.block.Block.{Block}
use Rattle.capture_formats.specs.declared.block.Block.TheVariants as block
use Rattle.capture_formats.specs.declared.block.BlockRead.{BlockRead}
use Rattle.capture_formats.specs.declared.block.BlockRead.TheVariants as read
use Rattle.capture_formats.specs.declared.interface.Interface.{Interface}
use Rattle.capture_formats.specs.declared.step.BlockStep.{BlockStep}
use Rattle.capture_formats.specs.declared.step.BlockStep.TheVariants as step

-- the byte order of the current section, where there is one, and its interfaces so far, numbered from 0
pub record Scope : Type 0 where
  pub order : Option Bool
  pub interfaces : List Interface

-- a block's byte order is that of the last section before it
abbrev pub order_of : List Block → Option Bool
order_of [] = None
order_of (block.Section little ∷ before) = Some little
order_of (block.Interface interface ∷ before) = order_of before
order_of (block.Packet found ∷ before) = order_of before
order_of (block.Other ∷ before) = order_of before

-- its interfaces are those behind that section, in the file's order
abbrev pub interfaces_of : List Block → List Interface
interfaces_of [] = []
interfaces_of (block.Section little ∷ before) = []
interfaces_of (block.Interface interface ∷ before) = interfaces_of before ++ interface ∷ []
interfaces_of (block.Packet found ∷ before) = interfaces_of before
interfaces_of (block.Other ∷ before) = interfaces_of before

-- what the bytes are from a block's first on, with these blocks before it
abbrev pub block_of : List Block → List ℕ → BlockRead
block_of before bytes = block_at (order_of before) (interfaces_of before) bytes

-- the blocks before the next, where the block read is whole
abbrev pub blocks_after : BlockRead → List Block → List Block
blocks_after (read.Need n) before = before
blocks_after (read.Whole b end) before = b ∷ before
blocks_after (read.Bad reason) before = before

-- the answer for a block of so many bytes
abbrev pub step_over : Block → ℕ → BlockStep
step_over (block.Section little) end = step.Skipped end
step_over (block.Interface interface) end = step.Skipped end
step_over (block.Packet found) end = step.Item found
step_over block.Other end = step.Skipped end

-- the answer for what is read
abbrev pub step_of : BlockRead → BlockStep
step_of (read.Need n) = step.Need n
step_of (read.Whole b end) = step_over b end
step_of (read.Bad reason) = step.Bad reason

-- what is known of the blocks before
abbrev pub scope_of : List Block → Scope
scope_of before = record { order = order_of before; interfaces = interfaces_of before }

-- the blocks that a byte order and interfaces stand for
abbrev pub Stands : Scope → List Block → Type 0
Stands scope before = scope ≡ scope_of before

-- what the bytes are, where only that much is known of the blocks before
abbrev pub block_in : Scope → List ℕ → BlockRead
block_in scope bytes = block_at scope.order scope.interfaces bytes

-- a block more
abbrev pub scope_with : Scope → Block → Scope
scope_with scope (block.Section little) = record { order = Some little; interfaces = [] }
scope_with scope (block.Interface interface) =
    record { order = scope.order; interfaces = scope.interfaces ++ interface ∷ [] }
scope_with scope (block.Packet found) = scope
scope_with scope block.Other = scope

-- what is known behind what is read
abbrev pub scope_after : BlockRead → Scope → Scope
scope_after (read.Need n) scope = scope
scope_after (read.Whole b end) scope = scope_with scope b
scope_after (read.Bad reason) scope = scope

-- before the first section the bytes begin with a section's type
abbrev pub IsReady : Scope → List ℕ → Type 0
IsReady scope bytes = scope.order ≡ None → take 4 bytes ≡ 0x0A ∷ 0x0D ∷ 0x0D ∷ 0x0A ∷ []

-- where a block was taken
abbrev pub WhenTaken : BlockStep → Type 0 → Type 0
WhenTaken (step.Need n) P = Unit {0}
WhenTaken (step.Item found) P = P
WhenTaken (step.Skipped n) P = P
WhenTaken (step.Bad reason) P = Unit {0}

-- where no block was taken
abbrev pub WhenUntaken : BlockStep → Type 0 → Type 0
WhenUntaken (step.Need n) P = P
WhenUntaken (step.Item found) P = Unit {0}
WhenUntaken (step.Skipped n) P = Unit {0}
WhenUntaken (step.Bad reason) P = P

-- a block ends within so many bytes and its packet within the block, and more are needed only where there are fewer
abbrev pub IsStepWithin : BlockStep → ℕ → Type 0
IsStepWithin (step.Need n) held = held < n
IsStepWithin (step.Item found) held =
    (0 < found.end) × (found.end ≤ held) × (found.start + found.len ≤ found.end)
IsStepWithin (step.Skipped n) held = (0 < n) × (n ≤ held)
IsStepWithin (step.Bad reason) held = Unit {0}
