-- How a reader reads on until enough bytes are held.
use Rattle.std.specs.Prelude.{◌≡◌, ◌<◌, ◌≤◌, ℕ, ◌+◌, ◌^◌, List, ◌++◌, length, Option}
use Rattle.std.specs.Io.KnownBytes.{Consumes, IsAtEnd}
use Rattle.capture_read.specs.Answers.{open_count}
use Rattle.capture_read.specs.declared.kind.Seen.{Seen}
use Rattle.capture_read.specs.declared.kind.Seen.TheVariants as seen

-- what was seen behind so many bytes held, of which at most `most` are looked at
abbrev pub IsFilledTo : Seen → List ℕ → ℕ → ℕ → Option (List ℕ) → Type 0
IsFilledTo seen.Open beyond size most left = length beyond ≡ 0
IsFilledTo seen.Ended beyond size most left = (length beyond ≡ 0) × IsAtEnd left
IsFilledTo seen.Beyond beyond size most left = (length beyond ≡ 1) × (size ≡ most)

-- bytes were read behind those held: no read was called once there were as many as are needed, nor asked for more than 65,536
pub record IsFilled (held filled : List ℕ) (behind : Seen) (need most : ℕ)
    (old new : Option (List ℕ)) : Type 0 where
  pub got : List ℕ
  pub beyond : List ℕ
  pub bytes : filled ≡ held ++ got
  pub taken : Consumes old new (got ++ beyond)
  pub ends : IsFilledTo behind beyond (length filled) most new
  pub few : length filled + length beyond < need + 2 ^ 16
  pub within : length filled ≤ most
  pub more : length held + open_count behind < length filled + 1

-- a read failed before there were as many as are needed
pub record IsUnfilled (held : List ℕ) (need most : ℕ) (old new : Option (List ℕ)) : Type 0 where
  pub got : List ℕ
  pub taken : Consumes old new got
  pub few : length held + length got < need
  pub within : length held + length got ≤ most
