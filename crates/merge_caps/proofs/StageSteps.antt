-- What the stages of merging come to, status by status.
use Rattle.std.proofs.Common.{◌≡◌, ◌≢◌, ◌<◌, inl, inr, ℕ, Bool, true, false, List, length, Option, Some, None, Result, Ok, Err, IfErr, IfOk, IfSome, IsErrOf, refl, sym, ap, ◌∙◌, subst}
use Rattle.std.specs.Prelude.{◌⊎◌}
use Rattle.pk_outside.specs.declared.sink.SinkFault.{SinkFault}
use Rattle.pk_outside.specs.declared.sink.SinkFault.TheVariants as sink
use Rattle.capture_write.specs.declared.format.Format.{Format}
use Rattle.merge_caps.specs.declared.place.Entry.{Entry}
use Rattle.merge_caps.specs.declared.readings.Cause.{Cause}
use Rattle.merge_caps.specs.declared.readings.Cause.TheVariants as cause
use Rattle.merge_caps.specs.declared.readings.Stopped.{Stopped}
use Rattle.merge_caps.specs.declared.status.MergeStatus.{MergeStatus}
use Rattle.merge_caps.specs.declared.status.MergeStatus.TheVariants.{Done, BadWords, CannotOpen, ReadFault, Damaged, TooLarge, WriteFault, NoMemory, CannotWrite}
use Rattle.merge_caps.specs.ByTime.{WroteByTime}
use Rattle.merge_caps.specs.Causes.{IsLargeAt, IsUnopened, IsUnread}
use Rattle.merge_caps.specs.Merged.{IsInOrder, frames_of}
use Rattle.merge_caps.specs.Reading.{AreSmallUpTo, ReadSoFar, read_of}
use Rattle.merge_caps.specs.Stages.{IsWrittenFrom}
use Rattle.merge_caps.specs.Statuses.{IsNoFault, IsRefused, IsWritten, WhenRead, WhenUnread, WhenWritten, WrotePart, are_damaged, written_status}
use Rattle.merge_caps.specs.Stopped.{IsCause, IsStopped, Seen}
use Rattle.merge_caps.specs.Told.{IsWrittenText, cause_status, status_by}
use Rattle.merge_caps.specs.Written.{IsPartOf, IsWrittenOf, first_unfit}
use Rattle.merge_caps.proofs.FrontSteps.{wrote_by_time}
use Rattle.merge_caps.proofs.TimeOrder.{by_time}

-- what always holds, holds at each status
pub written_when : (answer : MergeStatus) (P Q : Type 0) → (P → Q) → WhenWritten answer P → WhenWritten answer Q
written_when Done P Q more h = more h
written_when Damaged P Q more h = more h
written_when CannotWrite P Q more h = more h
written_when BadWords P Q more h = tt
written_when CannotOpen P Q more h = tt
written_when ReadFault P Q more h = tt
written_when TooLarge P Q more h = tt
written_when WriteFault P Q more h = tt
written_when NoMemory P Q more h = tt

pub unread_when : (answer : MergeStatus) (P Q : Type 0) → (P → Q) → WhenUnread answer P → WhenUnread answer Q
unread_when Done P Q more h = tt
unread_when Damaged P Q more h = tt
unread_when CannotWrite P Q more h = tt
unread_when BadWords P Q more h = more h
unread_when CannotOpen P Q more h = more h
unread_when ReadFault P Q more h = more h
unread_when TooLarge P Q more h = more h
unread_when WriteFault P Q more h = tt
unread_when NoMemory P Q more h = tt

pub unread_always : (answer : MergeStatus) (P : Type 0) → P → WhenUnread answer P
unread_always Done P h = tt
unread_always Damaged P h = tt
unread_always CannotWrite P h = tt
unread_always BadWords P h = h
unread_always CannotOpen P h = h
unread_always ReadFault P h = h
unread_always TooLarge P h = h
unread_always WriteFault P h = tt
unread_always NoMemory P h = tt

pub read_always : (answer : MergeStatus) (P : Type 0) → P → WhenRead answer P
read_always Done P h = h
read_always Damaged P h = h
read_always CannotWrite P h = h
read_always WriteFault P h = h
read_always BadWords P h = tt
read_always CannotOpen P h = tt
read_always ReadFault P h = tt
read_always TooLarge P h = tt
read_always NoMemory P h = tt

-- a status of files that were all read isn't one of those of files that weren't
pub is_read : (answer other : MergeStatus) → WhenUnread answer ⊥ → answer ≡ other → WhenUnread other ⊥
is_read answer other read is = subst (λ (a : MergeStatus). WhenUnread a ⊥) is read

-- the status of what was written, or want of memory
pub by_status : (P : MergeStatus → Type 0) (lines : List ℕ) (damaged : Bool) (written : Result (Option ℕ) SinkFault) (answer : MergeStatus) (text : List ℕ)
    → IsWrittenText lines damaged written answer text → P (status_by written damaged) → P NoMemory → P answer
by_status P lines damaged written answer text (inl told) p q = subst P (sym told.0) p
by_status P lines damaged written answer text (inr told) p q = subst P (sym told.0) q

pub all_read : (written : Result (Option ℕ) SinkFault) (damaged : Bool) → WhenUnread (status_by written damaged) ⊥
all_read (Ok (Some number)) damaged = tt
all_read (Ok None) true = tt
all_read (Ok None) false = tt
all_read (Err sink.Failed) damaged = tt
all_read (Err sink.NoMemory) damaged = tt

pub wrote_from : (format : Format) (read : ReadSoFar) (written : Result (Option ℕ) SinkFault) (damaged : Bool) (old new : Option (List ℕ))
    → damaged ≡ are_damaged read.endings → IfOk written (λ unfit. IsWrittenOf format read.entries unfit old new)
    → WhenWritten (status_by written damaged) (IsWrittenFrom format read (status_by written damaged) old new)
wrote_from format read (Ok (Some number)) damaged old new same wrote = (Some number, wrote, refl)
wrote_from format read (Ok None) true old new same wrote = (None, wrote, ap (written_status None) same)
wrote_from format read (Ok None) false old new same wrote = (None, wrote, ap (written_status None) same)
wrote_from format read (Err sink.Failed) damaged old new same wrote = tt
wrote_from format read (Err sink.NoMemory) damaged old new same wrote = tt

pub write_failed : (written : Result (Option ℕ) SinkFault) (damaged : Bool) (P : Type 0) → (IsErrOf written sink.Failed → P) → status_by written damaged ≡ WriteFault → P
write_failed (Ok (Some number)) damaged P fails is = absurd (cc is)
write_failed (Ok None) true P fails is = absurd (cc is)
write_failed (Ok None) false P fails is = absurd (cc is)
write_failed (Err sink.Failed) damaged P fails is = fails refl
write_failed (Err sink.NoMemory) damaged P fails is = absurd (cc is)

-- what was read is what the files come to
in_order_of : (files : List (List ℕ)) (read : ReadSoFar) (order : List Entry) → read ≡ read_of files → IsInOrder read.entries order → IsInOrder (read_of files).entries order
in_order_of files read order is ordered = subst (λ (r : ReadSoFar). IsInOrder r.entries order) is ordered

is_written : (format : Format) (o : Option (List (List ℕ))) (read : ReadSoFar) (answer : MergeStatus) (old new : Option (List ℕ)) → IfSome o (λ files. read ≡ read_of files)
    → IsWrittenFrom format read answer old new → IfSome o (λ files. IsWritten format files answer old new)
is_written format None read answer old new is wrote = tt
is_written format (Some files) read answer old new is wrote = record {
  merged = frames_of wrote.1.order;
  all = record { order = wrote.1.order; ordered = in_order_of files read wrote.1.order is wrote.1.ordered; frames = refl };
  wrote = wrote.1.wrote;
  status = wrote.2 ∙ ap (λ (u : Option ℕ). written_status u (are_damaged read.endings)) wrote.1.unfit_is
      ∙ ap (λ (r : ReadSoFar). written_status (first_unfit format (frames_of wrote.1.order)) (are_damaged r.endings)) is;
}

pub written_of_files : (format : Format) (o : Option (List (List ℕ))) (read : ReadSoFar) (answer : MergeStatus) (old new : Option (List ℕ)) → IfSome o (λ files. read ≡ read_of files)
    → WhenWritten answer (IsWrittenFrom format read answer old new) → WhenWritten answer (IfSome o (λ files. IsWritten format files answer old new))
written_of_files format o read answer old new is wrote = written_when answer _ _ (is_written format o read answer old new is) wrote

-- and is read as the frames of the files in the order of their times
is_by_time : (format : Format) (o : Option (List (List ℕ))) (read : ReadSoFar) (answer : MergeStatus) (old new : Option (List ℕ)) → IfSome o (λ files. read ≡ read_of files)
    → IsWrittenFrom format read answer old new → IfSome o (λ files. WroteByTime format files answer old new)
is_by_time format None read answer old new is wrote = tt
is_by_time format (Some files) read answer old new is wrote =
    wrote_by_time format files wrote.1.order wrote.0 (are_damaged read.endings) answer old new
    (by_time files wrote.1.order (in_order_of files read wrote.1.order is wrote.1.ordered)) wrote.1.unfit_is wrote.2 wrote.1.wrote wrote.1.small

pub by_time_of_files : (format : Format) (o : Option (List (List ℕ))) (read : ReadSoFar) (answer : MergeStatus) (old new : Option (List ℕ)) → IfSome o (λ files. read ≡ read_of files)
    → WhenWritten answer (IsWrittenFrom format read answer old new) → WhenWritten answer (IfSome o (λ files. WroteByTime format files answer old new))
by_time_of_files format o read answer old new is wrote = written_when answer _ _ (is_by_time format o read answer old new is) wrote

part_by : (format : Format) (o : Option (List (List ℕ))) (read : ReadSoFar) (old new : Option (List ℕ)) → IfSome o (λ files. read ≡ read_of files)
    → IsPartOf format read.entries old new → IfSome o (λ files. WrotePart format files old new)
part_by format None read old new is part = tt
part_by format (Some files) read old new is part =
    (frames_of part.0, record { order = part.0; ordered = in_order_of files read part.0 is part.1; frames = refl }, part.2)

pub part_of_files : (Untouched : Type 0) (format : Format) (o : Option (List (List ℕ))) (read : ReadSoFar) (old new : Option (List ℕ)) → IfSome o (λ files. read ≡ read_of files)
    → Untouched ⊎ IsPartOf format read.entries old new → Untouched ⊎ IfSome o (λ files. WrotePart format files old new)
part_of_files Untouched format o read old new is (inl same) = inl same
part_of_files Untouched format o read old new is (inr part) = inr (part_by format o read old new is part)

-- what the status of a reading that stopped says
pub record StopFacts (names : List (List ℕ)) (answer : MergeStatus) (old new : Seen) : Type 0 where
  pub not_refused : answer ≢ BadWords
  pub not_written : WhenWritten answer ⊥
  pub not_read : WhenRead answer ⊥
  pub unopened : answer ≡ CannotOpen → (place : ℕ) × AreSmallUpTo old.tell names place
      × IsUnopened names place old.missed new.missed old.begun new.begun new.refused new.asked
  pub unread : answer ≡ ReadFault → (place : ℕ) × AreSmallUpTo old.tell names place
      × IsUnread names place old.faults new.faults old.begun new.begun old.missed new.missed new.asked
  pub large : answer ≡ TooLarge → (place : ℕ) × (place < length names) × IsLargeAt old.tell names place
  pub no_write : answer ≢ WriteFault
  pub starved : answer ≡ NoMemory → (new.missed ≡ old.missed) × (new.faults ≡ old.faults)

stop_by : (names : List (List ℕ)) (c : Cause) (place : ℕ) (old new : Seen) → place < length names → AreSmallUpTo old.tell names place → IsCause c names place old new
    → StopFacts names (cause_status c) old new
stop_by names cause.CannotOpen place old new within small why = record {
  not_refused = λ is. absurd (cc is);
  not_written = tt;
  not_read = tt;
  unopened = λ is. (place, small, why);
  unread = λ is. absurd (cc is);
  large = λ is. absurd (cc is);
  no_write = λ is. absurd (cc is);
  starved = λ is. absurd (cc is);
}
stop_by names cause.ReadFault place old new within small why = record {
  not_refused = λ is. absurd (cc is);
  not_written = tt;
  not_read = tt;
  unopened = λ is. absurd (cc is);
  unread = λ is. (place, small, why);
  large = λ is. absurd (cc is);
  no_write = λ is. absurd (cc is);
  starved = λ is. absurd (cc is);
}
stop_by names cause.TooLarge place old new within small why = record {
  not_refused = λ is. absurd (cc is);
  not_written = tt;
  not_read = tt;
  unopened = λ is. absurd (cc is);
  unread = λ is. absurd (cc is);
  large = λ is. (place, within, why);
  no_write = λ is. absurd (cc is);
  starved = λ is. absurd (cc is);
}
stop_by names cause.NoMemory place old new within small why = record {
  not_refused = λ is. absurd (cc is);
  not_written = tt;
  not_read = tt;
  unopened = λ is. absurd (cc is);
  unread = λ is. absurd (cc is);
  large = λ is. absurd (cc is);
  no_write = λ is. absurd (cc is);
  starved = λ is. why;
}

pub stop_facts : (names : List (List ℕ)) (stopped : Stopped) (answer : MergeStatus) (old new : Seen) → IsStopped names stopped old new → answer ≡ cause_status stopped.cause
    → StopFacts names answer old new
stop_facts names stopped answer old new why is =
    subst (λ (a : MergeStatus). StopFacts names a old new) (sym is) (stop_by names stopped.cause stopped.place old new why.within why.small why.cause)

pub read_never : (answer : MergeStatus) (P : Type 0) → WhenRead answer ⊥ → WhenRead answer P
read_never Done P h = absurd h
read_never Damaged P h = absurd h
read_never CannotWrite P h = absurd h
read_never WriteFault P h = absurd h
read_never BadWords P h = tt
read_never CannotOpen P h = tt
read_never ReadFault P h = tt
read_never TooLarge P h = tt
read_never NoMemory P h = tt

-- words that are refused, and words without memory
pub refused_no_fault : (answer : MergeStatus) → IsRefused answer → IsNoFault answer
refused_no_fault answer (inl is) = subst IsNoFault (sym is) tt
refused_no_fault answer (inr is) = subst IsNoFault (sym is) tt

pub refused_not : (answer other : MergeStatus) (P : Type 0) → (BadWords ≢ other) → (NoMemory ≢ other) → IsRefused answer → answer ≡ other → P
refused_not answer other P bad starved (inl is) same = absurd (bad (sym is ∙ same))
refused_not answer other P bad starved (inr is) same = absurd (starved (sym is ∙ same))

pub all_asked : {A E : Type 0} (r : Result A E) (P : A → Type 0) → ((a : A) → P a) → IfOk r P
all_asked (Ok a) P all = all a
all_asked (Err e) P all = tt

pub all_refused : {A E : Type 0} (r : Result A E) (P : E → Type 0) → ((e : E) → P e) → IfErr r P
all_refused (Ok a) P all = tt
all_refused (Err e) P all = all e

-- where no fault rose
pub no_fault_by : (answer : MergeStatus) (Missed Read Write : Type 0) → (answer ≡ CannotOpen → Missed) → (answer ≡ ReadFault → Read) → (answer ≡ WriteFault → Write)
    → ¬ Missed → ¬ Read → ¬ Write → IsNoFault answer
no_fault_by CannotOpen Missed Read Write missed read write a b c = a (missed refl)
no_fault_by ReadFault Missed Read Write missed read write a b c = b (read refl)
no_fault_by WriteFault Missed Read Write missed read write a b c = c (write refl)
no_fault_by BadWords Missed Read Write missed read write a b c = tt
no_fault_by Done Missed Read Write missed read write a b c = tt
no_fault_by Damaged Missed Read Write missed read write a b c = tt
no_fault_by CannotWrite Missed Read Write missed read write a b c = tt
no_fault_by TooLarge Missed Read Write missed read write a b c = tt
no_fault_by NoMemory Missed Read Write missed read write a b c = tt
