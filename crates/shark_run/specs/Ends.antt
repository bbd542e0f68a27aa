-- How carrying out a plan ends, by how the parts of it did.
use Rattle.std.specs.Prelude.{Result, Ok, Err}
use Rattle.pk_outside.specs.declared.sink.SinkFault.{SinkFault}
use Rattle.pk_outside.specs.declared.sink.SinkFault.TheVariants as sink
use Rattle.run_frames.specs.declared.frames.RunFault.{RunFault}
use Rattle.run_frames.specs.declared.frames.RunFault.TheVariants as fault
use Rattle.run_frames.specs.declared.run_ending.RunEnding.{RunEnding}
use Rattle.run_words.specs.declared.outcome.Outcome.{Outcome}
use Rattle.run_words.specs.declared.outcome.Outcome.TheVariants as outcome
use Rattle.shark_run.specs.declared.file.FileFault.{FileFault}
use Rattle.shark_run.specs.declared.file.FileFault.TheVariants as file

-- a write's fault as that of a run
abbrev pub run_fault_of : SinkFault → RunFault
run_fault_of sink.Failed = fault.WriteFault
run_fault_of sink.NoMemory = fault.NoMemory

-- by how the writing of the output ended
abbrev pub outcome_of : Result RunEnding RunFault → Outcome
outcome_of (Ok ending) = outcome.Ended ending
outcome_of (Err fault.ReadFault) = outcome.ReadFault
outcome_of (Err fault.WriteFault) = outcome.WriteFault
outcome_of (Err fault.NoMemory) = outcome.NoMemory

-- and where no file was begun
abbrev pub unbegun_outcome : FileFault → Outcome
unbegun_outcome file.CannotOpen = outcome.CannotOpen
unbegun_outcome file.NoMemory = outcome.NoMemory
