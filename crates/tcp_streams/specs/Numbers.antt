-- Sequence numbers and positions (RFC 9293, 3.4). A direction's bytes have positions from 0; its origin is the number of
-- the byte at position 0, and numbers are those modulo 2^32.
use Rattle.std.specs.Prelude.{ℕ, ◌+◌, ◌-◌, ◌%◌, ◌^◌, max, if◌then◌else◌, nat_lt, List, take, drop, ℤ, pos, ◌-ℤ◌}
use Rattle.tcp_streams.specs.declared.segment.Segment.{Segment}

-- the number of a segment's first byte: SYN takes the number before it
abbrev pub first_number : Segment → ℕ
first_number s = (s.seq + (if s.syn then 1 else 0)) % 2 ^ 32

-- how far a number is ahead of a position, modulo 2^32
abbrev pub ahead : ℕ → ℕ → ℕ → ℕ
ahead origin position number = (number + 2 ^ 32 - (origin + position) % 2 ^ 32) % 2 ^ 32

-- the position so far ahead of another, where 2^31 and more are behind it; it may lie before 0
abbrev pub position_ahead : ℕ → ℕ → ℤ
position_ahead from ahead = if nat_lt ahead (2 ^ 31) then pos (from + ahead) else (pos from -ℤ pos (2 ^ 32 - ahead))

-- the same, or a start where it lies before that
abbrev pub place : ℕ → ℕ → ℕ → ℕ
place start from ahead = if nat_lt ahead (2 ^ 31) then from + ahead else max start (from - (2 ^ 32 - ahead))

-- how many of a segment's bytes lie before the start
abbrev pub skipped : ℕ → ℕ → ℕ → ℕ
skipped start from ahead = if nat_lt ahead (2 ^ 31) then 0 else (start + (2 ^ 32 - ahead)) - from

-- how far past the bytes in order a byte is still kept (a rule of this dissector)
unfoldable pub window : ℕ
window = 16777216

-- the bytes of a segment from the start on that lie in the window
abbrev pub taken_bytes : ℕ → ℕ → ℕ → List ℕ → List ℕ
taken_bytes start front ahead payload = take (front + window - place start front ahead) (drop (skipped start front ahead) payload)
