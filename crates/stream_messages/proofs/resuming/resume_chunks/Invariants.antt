use Rattle.std.proofs.Common.{◌≡◌, ◌-◌, ◌++◌, ℕ, List}
use Rattle.stream_messages.specs.Chunks.{chunks}
use Rattle.stream_messages.specs.HttpMessages.{resumed_chunks}
use Rattle.stream_messages.proofs.resuming.resume_chunks.Given as goal

-- what is left to read gives the message of the whole, whatever bytes follow
abbrev pub invariant-loop-turn : goal.invariant-loop-turn
invariant-loop-turn l =
    (more : List ℕ) → resumed_chunks l.fn.list (l.bytes ++ more) ≡ chunks (l.turns - l.turn) l.start (l.bytes ++ more) l.place l.pieces
