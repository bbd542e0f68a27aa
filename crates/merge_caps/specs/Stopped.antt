-- Where the reading of the files stopped, and why.
use Rattle.std.specs.Prelude.{◌≡◌, ◌<◌, ℕ, Bool, List, length, Option}
use Rattle.merge_caps.specs.declared.readings.Cause.{Cause}
use Rattle.merge_caps.specs.declared.readings.Cause.TheVariants as cause
use Rattle.merge_caps.specs.declared.readings.Stopped.{Stopped}
use Rattle.merge_caps.specs.Causes.{IsUnopened, IsUnread, IsLargeAt}
use Rattle.merge_caps.specs.Reading.{AreSmallUpTo}

-- what a capture shows: the file of each name, the name asked for last, whether that was refused, and its counts
pub record Seen : Type 0 where
  pub tell : List ℕ → Option (List ℕ)
  pub asked : List ℕ
  pub refused : Bool
  pub begun : ℕ
  pub missed : ℕ
  pub faults : ℕ

-- a cause, at this place among the names
abbrev pub IsCause : Cause → List (List ℕ) → ℕ → Seen → Seen → Type 0
IsCause cause.CannotOpen names place old new =
    IsUnopened names place old.missed new.missed old.begun new.begun new.refused new.asked
IsCause cause.ReadFault names place old new =
    IsUnread names place old.faults new.faults old.begun new.begun old.missed new.missed new.asked
IsCause cause.TooLarge names place old new = IsLargeAt old.tell names place
IsCause cause.NoMemory names place old new =
    (new.missed ≡ old.missed) × (new.faults ≡ old.faults)

-- none before it was too large
pub record IsStopped (names : List (List ℕ)) (stopped : Stopped) (old new : Seen) : Type 0 where
  pub within : stopped.place < length names
  pub small : AreSmallUpTo old.tell names stopped.place
  pub cause : IsCause stopped.cause names stopped.place old new
