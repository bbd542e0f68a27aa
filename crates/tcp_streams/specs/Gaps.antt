-- Gaps that are passed over: where the other side has acknowledged bytes that lie behind a gap, the receiver had the bytes
-- of the gap, and the capture missed them. (A rule of this dissector.)
use Rattle.std.specs.Prelude.{ℕ, zero, suc, ◌+◌, ◌-◌, ◌<◌, ◌≤◌, if◌then◌else◌, List, [], ◌∷◌, Option, None, Some, is_some}
use Rattle.std.specs.FinMap.{get}
use Rattle.pk_base.specs.declared.lost.Lost.{Lost}
use Rattle.pk_base.specs.declared.stretch.Stretch.{Stretch}
use Rattle.range_bytes.specs.Held.{Held, bytes_at}
use Rattle.tcp_streams.specs.Numbers.{window}

-- the least position from one on that isn't held, among so many
abbrev pub free_from : ℕ → Held → ℕ → ℕ
free_from zero held from = from
free_from (suc n) held from = if is_some (get held from) then free_from n held (from + 1) else from

-- no byte stands a window or more past the bytes in order
abbrev pub first_free : Held → ℕ → ℕ
first_free held from = free_from window held from

-- the least position from one on that is held, among so many
abbrev pub next_from : ℕ → Held → ℕ → Option ℕ
next_from zero held from = None
next_from (suc n) held from = if is_some (get held from) then Some from else next_from n held (from + 1)

-- a gap from the front end up to the next held position, and more behind it
abbrev pub gaps_on : (ℕ → List Lost) → Held → ℕ → Option ℕ → List Lost
gaps_on more held front None = []
gaps_on more held front (Some next) = record { from = front; to = next } ∷ more (first_free held next)

-- the gaps behind a front end that end at or before an acknowledged place, at most so many
abbrev pub gaps : ℕ → Held → ℕ → ℕ → List Lost
gaps zero held acked front = []
gaps (suc n) held acked front = gaps_on (gaps n held acked) held front (next_from (acked - front) held (front + 1))

-- all of them: each ends past the front end before it
abbrev pub gaps_behind : Held → ℕ → ℕ → List Lost
gaps_behind held acked front = gaps (acked - front) held acked front

-- where the last stretch begins once gaps are passed
abbrev pub start_past : ℕ → List Lost → ℕ
start_past start [] = start
start_past start (gap ∷ gaps) = start_past gap.to gaps

-- where it ends
abbrev pub end_past : Held → ℕ → List Lost → ℕ
end_past held end [] = end
end_past held end (gap ∷ gaps) = end_past held (first_free held gap.to) gaps

-- the stretches before the gaps, from a start on
abbrev pub left_behind : Held → ℕ → List Lost → List Stretch
left_behind held start [] = []
left_behind held start (gap ∷ gaps) = record { start = start; bytes = bytes_at held start (gap.from - start) } ∷ left_behind held gap.to gaps

-- how many bytes the capture hasn't
abbrev pub lost_bytes : List Lost → ℕ
lost_bytes [] = 0
lost_bytes (gap ∷ gaps) = gap.to - gap.from + lost_bytes gaps

-- gaps in order, from a position up to another, each of one byte at least
abbrev pub AreBetween : ℕ → List Lost → ℕ → Type 0
AreBetween low [] high = low ≤ high
AreBetween low (gap ∷ gaps) high = (low ≤ gap.from) × ((gap.from < gap.to) × AreBetween gap.to gaps high)
