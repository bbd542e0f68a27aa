-- How a run ends.
use Rattle.std.specs.Prelude.{ℕ}
use Rattle.capture_read.specs.declared.ending.Ending.{Ending}
use Rattle.capture_read.specs.declared.ending.Ending.TheVariants as ending
use Rattle.run_frames.specs.declared.run_ending.RunEnding.{RunEnding}
use Rattle.run_frames.specs.declared.run_ending.RunEnding.TheVariants.{Read, Unfit}
use Rattle.run_words.specs.declared.refused.Refused.{Refused}
use Rattle.run_words.specs.declared.refused.Refused.TheVariants as refused
use Rattle.run_words.specs.declared.status.Status.{Status}
use Rattle.run_words.specs.declared.status.Status.TheVariants.{Done, BadWords, BadFilter, BadField, CannotOpen, ReadFault, Damaged, TooLarge, WriteFault, NoMemory, CannotWrite}

-- the number with which the program ends
abbrev pub exit_number : Status → ℕ
exit_number Done = 0
exit_number BadWords = 1
exit_number BadFilter = 2
exit_number BadField = 3
exit_number CannotOpen = 4
exit_number ReadFault = 5
exit_number Damaged = 6
exit_number TooLarge = 7
exit_number WriteFault = 8
exit_number NoMemory = 9
exit_number CannotWrite = 10

-- the status of a whole output, by how the frames that were read end
abbrev pub status_at : Ending → Status
status_at ending.Whole = Done
status_at (ending.Damaged damage) = Damaged
status_at ending.TooLarge = TooLarge

abbrev pub status_of : RunEnding → Status
status_of (Read ending) = status_at ending
status_of (Unfit number) = CannotWrite

-- the status of a refusal
abbrev pub refusal_status : Refused → Status
refusal_status (refused.Words fault) = BadWords
refusal_status (refused.Filter fault) = BadFilter
refusal_status (refused.Field name) = BadField

-- the status of words that aren't refused
abbrev pub IsNoRefusal : Status → Type 0
IsNoRefusal BadWords = ⊥
IsNoRefusal BadFilter = ⊥
IsNoRefusal BadField = ⊥
IsNoRefusal Done = Unit {0}
IsNoRefusal CannotOpen = Unit {0}
IsNoRefusal ReadFault = Unit {0}
IsNoRefusal Damaged = Unit {0}
IsNoRefusal TooLarge = Unit {0}
IsNoRefusal WriteFault = Unit {0}
IsNoRefusal NoMemory = Unit {0}
IsNoRefusal CannotWrite = Unit {0}

-- the status of words that are refused
abbrev pub IsRefusing : Status → Type 0
IsRefusing BadWords = Unit {0}
IsRefusing BadFilter = Unit {0}
IsRefusing BadField = Unit {0}
IsRefusing Done = ⊥
IsRefusing CannotOpen = ⊥
IsRefusing ReadFault = ⊥
IsRefusing Damaged = ⊥
IsRefusing TooLarge = ⊥
IsRefusing WriteFault = ⊥
IsRefusing NoMemory = ⊥
IsRefusing CannotWrite = ⊥

-- the status of a run that nothing outside failed
abbrev pub IsNoFault : Status → Type 0
IsNoFault CannotOpen = ⊥
IsNoFault ReadFault = ⊥
IsNoFault WriteFault = ⊥
IsNoFault Done = Unit {0}
IsNoFault BadWords = Unit {0}
IsNoFault BadFilter = Unit {0}
IsNoFault BadField = Unit {0}
IsNoFault Damaged = Unit {0}
IsNoFault TooLarge = Unit {0}
IsNoFault NoMemory = Unit {0}
IsNoFault CannotWrite = Unit {0}

-- P, where the file was read to its end, or to a frame that can't be written, and the output written to its end
abbrev pub WhenEnded : Status → Type 0 → Type 0
WhenEnded Done P = P
WhenEnded Damaged P = P
WhenEnded TooLarge P = P
WhenEnded CannotWrite P = P
WhenEnded BadWords P = Unit {0}
WhenEnded BadFilter P = Unit {0}
WhenEnded BadField P = Unit {0}
WhenEnded CannotOpen P = Unit {0}
WhenEnded ReadFault P = Unit {0}
WhenEnded WriteFault P = Unit {0}
WhenEnded NoMemory P = Unit {0}
