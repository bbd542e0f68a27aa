-- What the code keeps of the blocks of a pcapng file tells what the definition finds by looking back.
use Rattle.std.proofs.Common.{◌≡◌, ℕ, Bool, true, List, [], refl, subst}
use Rattle.pk_base.specs.declared.found.Found.{Found}
use Rattle.capture_formats.specs.Sections.{Scope, scope_of, scope_after, step_of}
use Rattle.capture_formats.specs.declared.block.Block.{Block}
use Rattle.capture_formats.specs.declared.block.Block.TheVariants as block
use Rattle.capture_formats.specs.declared.block.BlockRead.{BlockRead}
use Rattle.capture_formats.specs.declared.block.BlockRead.TheVariants as read
use Rattle.capture_formats.specs.declared.step.BlockStep.{BlockStep}
use Rattle.capture_formats.specs.declared.step.BlockStep.TheVariants as step
use Rattle.capture_formats.specs.Sections.{block_of}
use Rattle.capture_formats.proofs.Known.{scope_of-after}
use Rattle.capture_read.specs.Capture.{pieces, capture_of, held_part, is_large, is_pcapng}
use Rattle.capture_read.specs.Pieces.{block_at, blocks_behind}
use Rattle.capture_read.specs.State.{scoped_block, scope_behind}
use Rattle.capture_read.proofs.PieceSteps.{pieces-same}

-- the blocks read by what is kept are those read by looking back
pub scoped-pieces : (large : Bool) (before : List Block) (number at skip : ℕ) (bytes : List ℕ)
    → pieces (scoped_block large) scope_behind large (scope_of before) number at skip bytes
    ≡ pieces (block_at large) blocks_behind large before number at skip bytes
scoped-pieces large before number at skip bytes =
    pieces-same scope_of (block_at large) blocks_behind (scoped_block large) scope_behind
    (λ known place rest. refl) (λ known rest. scope_of-after (block_of known rest) known) large before number at skip bytes

-- a packet changes nothing of what is known
abbrev IsPacket : BlockStep → Type 0 → Type 0
IsPacket (step.Item found) P = P
IsPacket (step.Need n) P = Unit {0}
IsPacket (step.Skipped n) P = Unit {0}
IsPacket (step.Bad reason) P = Unit {0}

packet_stays-by : (scope : Scope) (r : BlockRead) → IsPacket (step_of r) (scope_after r scope ≡ scope)
packet_stays-by scope (read.Need n) = tt
packet_stays-by scope (read.Bad reason) = tt
packet_stays-by scope (read.Whole (block.Section little) end) = tt
packet_stays-by scope (read.Whole (block.Interface interface) end) = tt
packet_stays-by scope (read.Whole (block.Packet found) end) = refl
packet_stays-by scope (read.Whole block.Other end) = tt

pub packet_stays : (scope : Scope) (r : BlockRead) (found : Found) → step_of r ≡ step.Item found → scope_after r scope ≡ scope
packet_stays scope r found is = subst (λ (s : BlockStep). IsPacket s (scope_after r scope ≡ scope)) is (packet_stays-by scope r)

-- what a pcapng file stands for, by what is kept
pub capture_of_pcapng : (file : List ℕ) → is_pcapng (held_part file) ≡ true
    → pieces (scoped_block (is_large file)) scope_behind (is_large file) (scope_of []) 1 0 0 (held_part file) ≡ capture_of file
unfolding capture_of
capture_of_pcapng file is = rw is (scoped-pieces (is_large file) [] 1 0 0 (held_part file))
