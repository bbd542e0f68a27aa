-- How merging ends.
use Rattle.std.specs.Prelude.{◌≡◌, ◌⊎◌, ℕ, Bool, true, false, List, Option, Some, None}
use Rattle.std.specs.List.{list_any}
use Rattle.std.specs.Io.KnownBytes.{Appends}
use Rattle.pk_outside.specs.Outside.{AppendsPart}
use Rattle.capture_read.specs.declared.ending.Ending.{Ending}
use Rattle.capture_read.specs.declared.ending.Ending.TheVariants as ending
use Rattle.capture_read.specs.declared.frame.Frame.{Frame}
use Rattle.capture_write.specs.declared.format.Format.{Format}
use Rattle.merge_caps.specs.declared.status.MergeStatus.{MergeStatus}
use Rattle.merge_caps.specs.declared.status.MergeStatus.TheVariants.{Done, BadWords, CannotOpen, ReadFault, Damaged, TooLarge, WriteFault, NoMemory, CannotWrite}
use Rattle.merge_caps.specs.Merged.{IsMerged}
use Rattle.merge_caps.specs.Reading.{endings_of}
use Rattle.merge_caps.specs.Written.{file_of, first_unfit}

-- the number with which the program ends
abbrev pub exit_number : MergeStatus → ℕ
exit_number Done = 0
exit_number BadWords = 1
exit_number CannotOpen = 4
exit_number ReadFault = 5
exit_number Damaged = 6
exit_number TooLarge = 7
exit_number WriteFault = 8
exit_number NoMemory = 9
exit_number CannotWrite = 10

abbrev pub is_damaged_end : Ending → Bool
is_damaged_end ending.Whole = false
is_damaged_end (ending.Damaged damage) = true
is_damaged_end ending.TooLarge = false

-- whether one of the files that end so is damaged
abbrev pub are_damaged : List Ending → Bool
are_damaged endings = list_any is_damaged_end endings

-- the status where all was written up to the first frame that doesn't fit, which has this number
abbrev pub written_status : Option ℕ → Bool → MergeStatus
written_status (Some number) damaged = CannotWrite
written_status None true = Damaged
written_status None false = Done

-- the file of the merged frames was written, up to the first that doesn't fit, and nothing else
pub record IsWritten (format : Format) (files : List (List ℕ)) (answer : MergeStatus)
    (old new : Option (List ℕ)) : Type 0 where
  pub merged : List Frame
  pub all : IsMerged files merged
  pub wrote : Appends old new (file_of format merged)
  pub status : answer ≡ written_status (first_unfit format merged) (are_damaged (endings_of files))

-- a front of that file was written, and nothing else
abbrev pub WrotePart : Format → List (List ℕ) → Option (List ℕ) → Option (List ℕ) → Type 0
WrotePart format files old new =
    (merged : List Frame) × IsMerged files merged × AppendsPart old new (file_of format merged)

-- the status of words that are refused, unless there is no memory
abbrev pub IsRefused : MergeStatus → Type 0
IsRefused answer = (answer ≡ BadWords) ⊎ (answer ≡ NoMemory)

-- P, where all was written up to the first frame that doesn't fit
abbrev pub WhenWritten : MergeStatus → Type 0 → Type 0
WhenWritten Done P = P
WhenWritten Damaged P = P
WhenWritten CannotWrite P = P
WhenWritten BadWords P = Unit {0}
WhenWritten CannotOpen P = Unit {0}
WhenWritten ReadFault P = Unit {0}
WhenWritten TooLarge P = Unit {0}
WhenWritten WriteFault P = Unit {0}
WhenWritten NoMemory P = Unit {0}

-- P, where all files were read
abbrev pub WhenRead : MergeStatus → Type 0 → Type 0
WhenRead Done P = P
WhenRead Damaged P = P
WhenRead CannotWrite P = P
WhenRead WriteFault P = P
WhenRead BadWords P = Unit {0}
WhenRead CannotOpen P = Unit {0}
WhenRead ReadFault P = Unit {0}
WhenRead TooLarge P = Unit {0}
WhenRead NoMemory P = Unit {0}

-- P, where not all files were read
abbrev pub WhenUnread : MergeStatus → Type 0 → Type 0
WhenUnread CannotOpen P = P
WhenUnread ReadFault P = P
WhenUnread TooLarge P = P
WhenUnread BadWords P = P
WhenUnread Done P = Unit {0}
WhenUnread Damaged P = Unit {0}
WhenUnread CannotWrite P = Unit {0}
WhenUnread WriteFault P = Unit {0}
WhenUnread NoMemory P = Unit {0}

-- the status where nothing outside failed
abbrev pub IsNoFault : MergeStatus → Type 0
IsNoFault CannotOpen = ⊥
IsNoFault ReadFault = ⊥
IsNoFault WriteFault = ⊥
IsNoFault BadWords = Unit {0}
IsNoFault Done = Unit {0}
IsNoFault Damaged = Unit {0}
IsNoFault CannotWrite = Unit {0}
IsNoFault TooLarge = Unit {0}
IsNoFault NoMemory = Unit {0}
