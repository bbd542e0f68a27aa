-- What standard error is told of each stage of merging.
use Rattle.std.specs.Prelude.{◌≡◌, ◌⊎◌, ℕ, Bool, List, [], ◌++◌, Option, Some, None, Result, Ok, Err}
use Rattle.pk_outside.specs.declared.sink.SinkFault.{SinkFault}
use Rattle.pk_outside.specs.declared.sink.SinkFault.TheVariants as sink
use Rattle.run_texts.specs.FaultTexts.{cannot_write_text, read_fault_text, too_large_text}
use Rattle.merge_caps.specs.declared.readings.Cause.{Cause}
use Rattle.merge_caps.specs.declared.readings.Cause.TheVariants as cause
use Rattle.merge_caps.specs.declared.status.MergeStatus.{MergeStatus}
use Rattle.merge_caps.specs.declared.status.MergeStatus.TheVariants.{CannotOpen, ReadFault, TooLarge, WriteFault, NoMemory}
use Rattle.merge_caps.specs.Statuses.{written_status}

-- the line of the first frame that doesn't fit
abbrev pub unfit_text : Option ℕ → List ℕ
unfit_text None = []
unfit_text (Some number) = cannot_write_text number

-- the status of what was written
abbrev pub status_by : Result (Option ℕ) SinkFault → Bool → MergeStatus
status_by (Ok unfit) damaged = written_status unfit damaged
status_by (Err sink.Failed) damaged = WriteFault
status_by (Err sink.NoMemory) damaged = NoMemory

abbrev pub unfit_in : Result (Option ℕ) SinkFault → Option ℕ
unfit_in (Ok unfit) = unfit
unfit_in (Err fault) = None

-- the text of what was written, behind these lines, or no text where there was no memory for it
abbrev pub IsWrittenText : List ℕ → Bool → Result (Option ℕ) SinkFault → MergeStatus → List ℕ
    → Type 0
IsWrittenText lines damaged written answer text =
    ((answer ≡ status_by written damaged) × (text ≡ lines ++ unfit_text (unfit_in written)))
    ⊎ ((answer ≡ NoMemory) × (text ≡ []))

-- the status of a reading that stopped
abbrev pub cause_status : Cause → MergeStatus
cause_status cause.CannotOpen = CannotOpen
cause_status cause.ReadFault = ReadFault
cause_status cause.TooLarge = TooLarge
cause_status cause.NoMemory = NoMemory

-- and its text, where that of a file that doesn't open is given
abbrev pub cause_text : Cause → List ℕ → List ℕ
cause_text cause.CannotOpen unopened = unopened
cause_text cause.ReadFault unopened = read_fault_text
cause_text cause.TooLarge unopened = too_large_text
cause_text cause.NoMemory unopened = []
