-- What is written of files that were all read.
use Rattle.std.specs.Prelude.{◌≡◌, ℕ, List, Option}
use Rattle.capture_write.specs.declared.format.Format.{Format}
use Rattle.merge_caps.specs.declared.status.MergeStatus.{MergeStatus}
use Rattle.merge_caps.specs.Reading.{ReadSoFar}
use Rattle.merge_caps.specs.Statuses.{are_damaged, written_status}
use Rattle.merge_caps.specs.Written.{IsWrittenOf}

-- the file of what was read was written, up to the first frame that doesn't fit, and the status says so
abbrev pub IsWrittenFrom : Format → ReadSoFar → MergeStatus → Option (List ℕ) → Option (List ℕ)
    → Type 0
IsWrittenFrom format read answer old new =
    (unfit : Option ℕ) × IsWrittenOf format read.entries unfit old new
    × (answer ≡ written_status unfit (are_damaged read.endings))
