-- The texts of faults: one line that names it, or nothing.
use Rattle.std.specs.Prelude.{ℕ, decimal, List, [], ◌++◌, codes}
use Rattle.pk_text.specs.Escape.{escaped}
use Rattle.capture_read.specs.declared.ending.Ending.{Ending}
use Rattle.capture_read.specs.declared.ending.Ending.TheVariants as ending
use Rattle.flt_syntax.specs.declared.fault.FilterReason.{FilterReason}
use Rattle.flt_syntax.specs.declared.fault.FilterReason.TheVariants as filter
use Rattle.run_words.specs.declared.outcome.Outcome.{Outcome}
use Rattle.run_words.specs.declared.outcome.Outcome.TheVariants as outcome
use Rattle.run_frames.specs.declared.run_ending.RunEnding.{RunEnding}
use Rattle.run_frames.specs.declared.run_ending.RunEnding.TheVariants.{Read, Unfit}
use Rattle.run_frames.specs.declared.plan.Plan.{Plan}
use Rattle.run_words.specs.declared.refused.Refused.{Refused}
use Rattle.run_words.specs.declared.refused.Refused.TheVariants as refused
use Rattle.run_frames.specs.Accessors.{name_of}
use Rattle.run_texts.specs.FaultTexts.{cannot_open_text, cannot_write_text, read_fault_text, reason_text, too_large_text, word_fault_text}

-- the code and name of a filter's fault
abbrev pub filter_reason_text : FilterReason → List ℕ
filter_reason_text filter.BadChar = codes "F1 BadChar"
filter_reason_text filter.BadString = codes "F2 BadString"
filter_reason_text filter.Unexpected = codes "F3 Unexpected"
filter_reason_text filter.UnknownField = codes "F4 UnknownField"
filter_reason_text filter.TypeMismatch = codes "F5 TypeMismatch"
filter_reason_text filter.OutOfRange = codes "F6 OutOfRange"
filter_reason_text filter.BadPattern = codes "F7 BadPattern"
filter_reason_text filter.TooLong = codes "F8 TooLong"
filter_reason_text filter.TooDeep = codes "F9 TooDeep"
filter_reason_text filter.PatternSize = codes "F10 PatternSize"

-- what is told of a refusal
unfoldable pub refusal_text : Refused → List ℕ
refusal_text (refused.Words fault) = word_fault_text fault
refusal_text (refused.Filter fault) =
    codes "shark: filter byte " ++ (decimal fault.at ++ (codes ": " ++ (filter_reason_text fault.reason ++ codes "\n")))
refusal_text (refused.Field name) = codes "shark: field " ++ (escaped name ++ codes ": unknown\n")

-- what is told of a file's end
unfoldable pub ending_text : Ending → List ℕ
ending_text ending.Whole = []
ending_text (ending.Damaged damage) =
    codes "shark: damaged at byte " ++ (decimal damage.at ++ (codes ": " ++ (reason_text damage.reason ++ codes "\n")))
ending_text ending.TooLarge = too_large_text

-- what is told of a run's end
unfoldable pub run_ending_text : RunEnding → List ℕ
run_ending_text (Read ending) = ending_text ending
run_ending_text (Unfit number) = cannot_write_text number

-- what is told of carrying out a plan
unfoldable pub outcome_text : Plan → Outcome → List ℕ
outcome_text plan (outcome.Ended ending) = run_ending_text ending
outcome_text plan outcome.CannotOpen = cannot_open_text (name_of plan)
outcome_text plan outcome.ReadFault = read_fault_text
outcome_text plan outcome.WriteFault = []
outcome_text plan outcome.NoMemory = []
