-- Spans of bytes in a list of buffers.
use Rattle.std.specs.Prelude.{ℕ, ◌+◌, ◌^◌, ◌<◌, ◌≤◌, List, [], length, All, take, drop}
use Rattle.std.specs.List.{slice_index_or}
use Rattle.pk_base.specs.declared.span.Span.{Span}

-- the buffers, the bytes of each, and so the bytes of every span can be counted by 32 bits
pub record IsAddressable (buffers : List (List ℕ)) : Type 0 where
  pub count : length buffers < 2 ^ 32
  pub each : All (λ bytes. length bytes < 2 ^ 32) buffers

-- the buffer of a number; for other numbers, no bytes
abbrev pub buffer_of : List (List ℕ) → ℕ → List ℕ
buffer_of buffers number = slice_index_or buffers number []

-- there is such a buffer, and it has all the span's bytes
abbrev pub IsInside : List (List ℕ) → Span → Type 0
IsInside buffers span =
    (span.buffer < length buffers)
    × (span.start + span.len ≤ length (buffer_of buffers span.buffer))

-- the span's bytes
unfoldable pub bytes_of : List (List ℕ) → Span → List ℕ
bytes_of buffers span = take span.len (drop span.start (buffer_of buffers span.buffer))
