-- How carrying out a plan ends.
use Rattle.run_frames.specs.declared.run_ending.RunEnding.{RunEnding}
use Rattle.run_words.specs.declared.outcome.Outcome.{Outcome}
use Rattle.run_words.specs.declared.outcome.Outcome.TheVariants as outcome
use Rattle.run_words.specs.declared.status.Status.{Status}
use Rattle.run_words.specs.declared.status.Status.TheVariants as status
use Rattle.run_words.specs.Statuses.{status_of}

abbrev pub outcome_status : Outcome → Status
outcome_status (outcome.Ended ending) = status_of ending
outcome_status outcome.CannotOpen = status.CannotOpen
outcome_status outcome.ReadFault = status.ReadFault
outcome_status outcome.WriteFault = status.WriteFault
outcome_status outcome.NoMemory = status.NoMemory

-- P of the ending, where the output was written to its end
abbrev pub IfEnded : Outcome → (RunEnding → Type 0) → Type 0
IfEnded (outcome.Ended ending) P = P ending
IfEnded outcome.CannotOpen P = Unit {0}
IfEnded outcome.ReadFault P = Unit {0}
IfEnded outcome.WriteFault P = Unit {0}
IfEnded outcome.NoMemory P = Unit {0}

-- the output was written to its end
abbrev pub HasEnded : Outcome → Type 0
HasEnded (outcome.Ended ending) = Unit {0}
HasEnded outcome.CannotOpen = ⊥
HasEnded outcome.ReadFault = ⊥
HasEnded outcome.WriteFault = ⊥
HasEnded outcome.NoMemory = ⊥
