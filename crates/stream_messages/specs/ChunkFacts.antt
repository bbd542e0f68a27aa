-- A turn lies in the so many bytes behind its place, and keeps to the limits.
use Rattle.std.specs.Prelude.{ℕ, ◌+◌, ◌≤◌, ◌<◌}
use Rattle.stream_messages.specs.declared.chunks.Place.{Place}
use Rattle.stream_messages.specs.declared.chunks.Turn.{Turn}
use Rattle.stream_messages.specs.declared.chunks.Turn.TheVariants.{Chunk, Last, Long, Trailing, End, Waits, Fails}
use Rattle.stream_messages.specs.Limits.{body_limit, trailer_limit}

abbrev pub TurnFits : Place → ℕ → Turn → Type 0
TurnFits place most (Chunk line size) =
    (2 ≤ line) × (line + size + 2 ≤ most) × (place.sum + size ≤ body_limit) × (0 < size)
TurnFits place most (Last line) = (2 ≤ line) × (line ≤ most)
TurnFits place most (Long line) = (2 ≤ line) × (line ≤ most)
TurnFits place most (Trailing line) =
    (2 ≤ line) × (line ≤ most) × (place.used + line ≤ trailer_limit)
TurnFits place most End = 2 ≤ most
TurnFits place most Waits = Unit {0}
TurnFits place most Fails = Unit {0}
