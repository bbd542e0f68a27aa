-- How carrying out a plan ends, outcome by outcome, and what its status says.
use Rattle.std.proofs.Common.{◌≡◌, ◌≢◌, ◌∙◌, ◌⊎◌, inl, inr, ℕ, List, Option, Result, Ok, Err, IfErr, IfOk, OnOk, refl, sym, ap, subst}
use Rattle.std.specs.Prelude.{IfSome}
use Rattle.capture_read.specs.declared.ending.Ending.TheVariants as ending
use Rattle.run_frames.specs.declared.frames.RunFault.{RunFault}
use Rattle.run_frames.specs.declared.frames.RunFault.TheVariants as fault
use Rattle.run_frames.specs.declared.run_ending.RunEnding.{RunEnding}
use Rattle.run_frames.specs.declared.run_ending.RunEnding.TheVariants.{Read, Unfit}
use Rattle.run_passes.specs.Passed.{IsCalm, IsCaused}
use Rattle.run_words.specs.declared.refused.Refused.{Refused}
use Rattle.run_words.specs.declared.refused.Refused.TheVariants as refused
use Rattle.shark_run.specs.Calm.{HasFaults}
use Rattle.run_words.specs.Outcomes.{IfEnded, outcome_status}
use Rattle.run_words.specs.Statuses.{IsNoRefusal, IsRefusing, WhenEnded, refusal_status, status_of}
use Rattle.shark_run.specs.Ends.{outcome_of, unbegun_outcome}
use Rattle.shark_run.specs.declared.file.FileFault.{FileFault}
use Rattle.shark_run.specs.declared.file.FileFault.TheVariants as file
use Rattle.run_words.specs.declared.outcome.Outcome.{Outcome}
use Rattle.run_words.specs.declared.outcome.Outcome.TheVariants as outcome
use Rattle.run_words.specs.declared.status.Status.{Status}
use Rattle.run_words.specs.declared.status.Status.TheVariants as status
use Rattle.shark_run.proofs.AnswerLemmas.{each_file}

-- of the writing of the output
ended_by : (r : Result RunEnding RunFault) (P : RunEnding → Type 0) → IfOk r P → IfEnded (outcome_of r) P
ended_by (Ok end) P holds = holds
ended_by (Err fault.ReadFault) P holds = tt
ended_by (Err fault.WriteFault) P holds = tt
ended_by (Err fault.NoMemory) P holds = tt

pub ended_of : (r : Result RunEnding RunFault) (o : Outcome) (P : RunEnding → Type 0) → o ≡ outcome_of r → IfOk r P → IfEnded o P
ended_of r o P is holds = subst (λ (a : Outcome). IfEnded a P) (sym is) (ended_by r P holds)

read_by : (r : Result RunEnding RunFault) (Q : RunFault → Type 0) → IfErr r Q → outcome_of r ≡ outcome.ReadFault → Q fault.ReadFault
read_by (Ok end) Q holds is = absurd (cc is)
read_by (Err fault.ReadFault) Q holds is = holds
read_by (Err fault.WriteFault) Q holds is = absurd (cc is)
read_by (Err fault.NoMemory) Q holds is = absurd (cc is)

pub read_failed : (r : Result RunEnding RunFault) (o : Outcome) (Q : RunFault → Type 0) → o ≡ outcome_of r → IfErr r Q → o ≡ outcome.ReadFault → Q fault.ReadFault
read_failed r o Q is holds same = read_by r Q holds (sym is ∙ same)

write_by : (r : Result RunEnding RunFault) (Q : RunFault → Type 0) → IfErr r Q → outcome_of r ≡ outcome.WriteFault → Q fault.WriteFault
write_by (Ok end) Q holds is = absurd (cc is)
write_by (Err fault.ReadFault) Q holds is = absurd (cc is)
write_by (Err fault.WriteFault) Q holds is = holds
write_by (Err fault.NoMemory) Q holds is = absurd (cc is)

pub write_failed : (r : Result RunEnding RunFault) (o : Outcome) (Q : RunFault → Type 0) → o ≡ outcome_of r → IfErr r Q → o ≡ outcome.WriteFault → Q fault.WriteFault
write_failed r o Q is holds same = write_by r Q holds (sym is ∙ same)

opened_by : (r : Result RunEnding RunFault) → outcome_of r ≢ outcome.CannotOpen
opened_by (Ok end) is = absurd (cc is)
opened_by (Err fault.ReadFault) is = absurd (cc is)
opened_by (Err fault.WriteFault) is = absurd (cc is)
opened_by (Err fault.NoMemory) is = absurd (cc is)

pub was_opened : (r : Result RunEnding RunFault) (o : Outcome) → o ≡ outcome_of r → o ≢ outcome.CannotOpen
was_opened r o is same = opened_by r (sym is ∙ same)

faults_by : (r : Result RunEnding RunFault) (missed_old missed_new reads_old reads reads_new writes_old writes_new : ℕ) → missed_new ≡ missed_old → reads ≡ reads_old
    → IfErr r (IsCaused reads reads_new writes_old writes_new) → OnOk r (IsCalm reads reads_new writes_old writes_new)
    → HasFaults (outcome_of r) missed_old missed_new reads_old reads_new writes_old writes_new
faults_by (Ok end) missed_old missed_new reads_old reads reads_new writes_old writes_new missed start caused calm = record {
  missed = λ other. missed;
  reads = λ other. calm.reads ∙ start;
  writes = λ other. calm.writes;
}
faults_by (Err fault.ReadFault) missed_old missed_new reads_old reads reads_new writes_old writes_new missed start caused calm = record {
  missed = λ other. missed;
  reads = λ other. absurd (other refl);
  writes = λ other. caused.1;
}
faults_by (Err fault.WriteFault) missed_old missed_new reads_old reads reads_new writes_old writes_new missed start caused calm = record {
  missed = λ other. missed;
  reads = λ other. caused.1 ∙ start;
  writes = λ other. absurd (other refl);
}
faults_by (Err fault.NoMemory) missed_old missed_new reads_old reads reads_new writes_old writes_new missed start caused calm = record {
  missed = λ other. missed;
  reads = λ other. caused.reads ∙ start;
  writes = λ other. caused.writes;
}

pub faults_of : (r : Result RunEnding RunFault) (o : Outcome) (missed_old missed_new reads_old reads reads_new writes_old writes_new : ℕ) → o ≡ outcome_of r
    → missed_new ≡ missed_old → reads ≡ reads_old
    → IfErr r (IsCaused reads reads_new writes_old writes_new) → OnOk r (IsCalm reads reads_new writes_old writes_new)
    → HasFaults o missed_old missed_new reads_old reads_new writes_old writes_new
faults_of r o missed_old missed_new reads_old reads reads_new writes_old writes_new is missed start caused calm =
    subst (λ (a : Outcome). HasFaults a missed_old missed_new reads_old reads_new writes_old writes_new) (sym is)
    (faults_by r missed_old missed_new reads_old reads reads_new writes_old writes_new missed start caused calm)

-- where no file was begun
pub unbegun_ended : (f : FileFault) (o : Outcome) (P : RunEnding → Type 0) → o ≡ unbegun_outcome f → IfEnded o P
unbegun_ended file.CannotOpen o P is = subst (λ (a : Outcome). IfEnded a P) (sym is) tt
unbegun_ended file.NoMemory o P is = subst (λ (a : Outcome). IfEnded a P) (sym is) tt

pub unbegun_open : (f : FileFault) (o : Outcome) → o ≡ unbegun_outcome f → o ≡ outcome.CannotOpen → f ≡ file.CannotOpen
unbegun_open file.CannotOpen o is same = refl
unbegun_open file.NoMemory o is same = let bad : outcome.NoMemory ≡ outcome.CannotOpen = sym is ∙ same in absurd (cc bad)

pub unbegun_starved : (f : FileFault) (o : Outcome) → o ≡ unbegun_outcome f → o ≢ outcome.CannotOpen → f ≡ file.NoMemory
unbegun_starved file.CannotOpen o is other = absurd (other is)
unbegun_starved file.NoMemory o is other = refl

pub unbegun_read : (f : FileFault) (o : Outcome) → o ≡ unbegun_outcome f → o ≢ outcome.ReadFault
unbegun_read file.CannotOpen o is same = let bad : outcome.CannotOpen ≡ outcome.ReadFault = sym is ∙ same in absurd (cc bad)
unbegun_read file.NoMemory o is same = let bad : outcome.NoMemory ≡ outcome.ReadFault = sym is ∙ same in absurd (cc bad)

pub unbegun_written : (f : FileFault) (o : Outcome) → o ≡ unbegun_outcome f → o ≢ outcome.WriteFault
unbegun_written file.CannotOpen o is same = let bad : outcome.CannotOpen ≡ outcome.WriteFault = sym is ∙ same in absurd (cc bad)
unbegun_written file.NoMemory o is same = let bad : outcome.NoMemory ≡ outcome.WriteFault = sym is ∙ same in absurd (cc bad)

-- what the status says of an outcome
no_refusal_by : (o : Outcome) → IsNoRefusal (outcome_status o)
no_refusal_by (outcome.Ended (Read ending.Whole)) = tt
no_refusal_by (outcome.Ended (Read (ending.Damaged damage))) = tt
no_refusal_by (outcome.Ended (Read ending.TooLarge)) = tt
no_refusal_by (outcome.Ended (Unfit number)) = tt
no_refusal_by outcome.CannotOpen = tt
no_refusal_by outcome.ReadFault = tt
no_refusal_by outcome.WriteFault = tt
no_refusal_by outcome.NoMemory = tt

pub no_refusal : (o : Outcome) (s : Status) → s ≡ outcome_status o → IsNoRefusal s
no_refusal o s is = subst IsNoRefusal (sym is) (no_refusal_by o)

when_by : (o : Outcome) (P : Type 0) → IfEnded o (λ end. P) → WhenEnded (outcome_status o) P
when_by (outcome.Ended (Read ending.Whole)) P holds = holds
when_by (outcome.Ended (Read (ending.Damaged damage))) P holds = holds
when_by (outcome.Ended (Read ending.TooLarge)) P holds = holds
when_by (outcome.Ended (Unfit number)) P holds = holds
when_by outcome.CannotOpen P holds = tt
when_by outcome.ReadFault P holds = tt
when_by outcome.WriteFault P holds = tt
when_by outcome.NoMemory P holds = tt

pub when_ended : (o : Outcome) (s : Status) (P : Type 0) → s ≡ outcome_status o → IfEnded o (λ end. P) → WhenEnded s P
when_ended o s P is holds = subst (λ (a : Status). WhenEnded a P) (sym is) (when_by o P holds)

ended_so : (o : Outcome) (told : Option (List ℕ)) (W : List ℕ → Type 0) (end_of : List ℕ → RunEnding) → IfEnded o (λ end. IfSome told (λ file. W file × (end ≡ end_of file)))
    → IfEnded o (λ end. IfSome told (λ file. W file × (outcome_status o ≡ status_of (end_of file))))
ended_so (outcome.Ended end) told W end_of holds =
    each_file told (λ file. W file × (end ≡ end_of file)) (λ file. W file × (status_of end ≡ status_of (end_of file))) (λ file both. (both.0, ap status_of both.1)) holds
ended_so outcome.CannotOpen told W end_of holds = tt
ended_so outcome.ReadFault told W end_of holds = tt
ended_so outcome.WriteFault told W end_of holds = tt
ended_so outcome.NoMemory told W end_of holds = tt

pub ended_status : (o : Outcome) (s : Status) (told : Option (List ℕ)) (W : List ℕ → Type 0) (end_of : List ℕ → RunEnding) → s ≡ outcome_status o
    → IfEnded o (λ end. IfSome told (λ file. W file × (end ≡ end_of file))) → WhenEnded s (IfSome told (λ file. W file × (s ≡ status_of (end_of file))))
ended_status o s told W end_of is holds =
    subst (λ (a : Status). WhenEnded a (IfSome told (λ file. W file × (a ≡ status_of (end_of file))))) (sym is)
    (when_by o (IfSome told (λ file. W file × (outcome_status o ≡ status_of (end_of file)))) (ended_so o told W end_of holds))

open_by : (o : Outcome) → outcome_status o ≡ status.CannotOpen → o ≡ outcome.CannotOpen
open_by (outcome.Ended (Read ending.Whole)) is = absurd (cc is)
open_by (outcome.Ended (Read (ending.Damaged damage))) is = absurd (cc is)
open_by (outcome.Ended (Read ending.TooLarge)) is = absurd (cc is)
open_by (outcome.Ended (Unfit number)) is = absurd (cc is)
open_by outcome.CannotOpen is = refl
open_by outcome.ReadFault is = absurd (cc is)
open_by outcome.WriteFault is = absurd (cc is)
open_by outcome.NoMemory is = absurd (cc is)

pub status_open : (o : Outcome) (s : Status) → s ≡ outcome_status o → s ≡ status.CannotOpen → o ≡ outcome.CannotOpen
status_open o s is same = open_by o (sym is ∙ same)

unread_by : (o : Outcome) → outcome_status o ≡ status.ReadFault → o ≡ outcome.ReadFault
unread_by (outcome.Ended (Read ending.Whole)) is = absurd (cc is)
unread_by (outcome.Ended (Read (ending.Damaged damage))) is = absurd (cc is)
unread_by (outcome.Ended (Read ending.TooLarge)) is = absurd (cc is)
unread_by (outcome.Ended (Unfit number)) is = absurd (cc is)
unread_by outcome.CannotOpen is = absurd (cc is)
unread_by outcome.ReadFault is = refl
unread_by outcome.WriteFault is = absurd (cc is)
unread_by outcome.NoMemory is = absurd (cc is)

pub status_read : (o : Outcome) (s : Status) → s ≡ outcome_status o → s ≡ status.ReadFault → o ≡ outcome.ReadFault
status_read o s is same = unread_by o (sym is ∙ same)

unwritten_by : (o : Outcome) → outcome_status o ≡ status.WriteFault → o ≡ outcome.WriteFault
unwritten_by (outcome.Ended (Read ending.Whole)) is = absurd (cc is)
unwritten_by (outcome.Ended (Read (ending.Damaged damage))) is = absurd (cc is)
unwritten_by (outcome.Ended (Read ending.TooLarge)) is = absurd (cc is)
unwritten_by (outcome.Ended (Unfit number)) is = absurd (cc is)
unwritten_by outcome.CannotOpen is = absurd (cc is)
unwritten_by outcome.ReadFault is = absurd (cc is)
unwritten_by outcome.WriteFault is = refl
unwritten_by outcome.NoMemory is = absurd (cc is)

pub status_write : (o : Outcome) (s : Status) → s ≡ outcome_status o → s ≡ status.WriteFault → o ≡ outcome.WriteFault
status_write o s is same = unwritten_by o (sym is ∙ same)

-- what holds whatever the status
pub when_more : (s : Status) (P Q : Type 0) → (P → Q) → WhenEnded s P → WhenEnded s Q
when_more status.Done P Q more holds = more holds
when_more status.Damaged P Q more holds = more holds
when_more status.TooLarge P Q more holds = more holds
when_more status.CannotWrite P Q more holds = more holds
when_more status.BadWords P Q more holds = tt
when_more status.BadFilter P Q more holds = tt
when_more status.BadField P Q more holds = tt
when_more status.CannotOpen P Q more holds = tt
when_more status.ReadFault P Q more holds = tt
when_more status.WriteFault P Q more holds = tt
when_more status.NoMemory P Q more holds = tt

-- the status of words that are refused or find no memory
abbrev pub IsNoRun : Status → Type 0
IsNoRun status.BadWords = Unit {0}
IsNoRun status.BadFilter = Unit {0}
IsNoRun status.BadField = Unit {0}
IsNoRun status.NoMemory = Unit {0}
IsNoRun status.Done = ⊥
IsNoRun status.Damaged = ⊥
IsNoRun status.TooLarge = ⊥
IsNoRun status.CannotWrite = ⊥
IsNoRun status.CannotOpen = ⊥
IsNoRun status.ReadFault = ⊥
IsNoRun status.WriteFault = ⊥

refusal_no_run : (reason : Refused) → IsNoRun (refusal_status reason)
refusal_no_run (refused.Words fault) = tt
refusal_no_run (refused.Filter fault) = tt
refusal_no_run (refused.Field name) = tt

pub no_run : (reason : Refused) (s : Status) → (s ≡ refusal_status reason) ⊎ (s ≡ status.NoMemory) → IsNoRun s
no_run reason s (inl is) = subst IsNoRun (sym is) (refusal_no_run reason)
no_run reason s (inr is) = subst IsNoRun (sym is) tt

pub no_run_ended : (s : Status) (P : Type 0) → IsNoRun s → WhenEnded s P
no_run_ended status.BadWords P none = tt
no_run_ended status.BadFilter P none = tt
no_run_ended status.BadField P none = tt
no_run_ended status.NoMemory P none = tt
no_run_ended status.Done P none = absurd none
no_run_ended status.Damaged P none = absurd none
no_run_ended status.TooLarge P none = absurd none
no_run_ended status.CannotWrite P none = absurd none
no_run_ended status.CannotOpen P none = tt
no_run_ended status.ReadFault P none = tt
no_run_ended status.WriteFault P none = tt

pub refusing_by : (Given : Refused → Type 0) (reason : Refused) (s : Status) → Given reason → (s ≡ refusal_status reason) ⊎ (s ≡ status.NoMemory) → IsRefusing s
    → (other : Refused) × Given other × (s ≡ refusal_status other)
refusing_by Given reason s given (inl is) refusing = (reason, given, is)
refusing_by Given reason s given (inr is) refusing = absurd (subst IsRefusing is refusing)

pub ended_any : (o : Outcome) (P : RunEnding → Type 0) → ((end : RunEnding) → P end) → IfEnded o P
ended_any (outcome.Ended end) P all = all end
ended_any outcome.CannotOpen P all = tt
ended_any outcome.ReadFault P all = tt
ended_any outcome.WriteFault P all = tt
ended_any outcome.NoMemory P all = tt
