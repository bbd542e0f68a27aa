-- From the stages of merging to the whole.
use Rattle.std.proofs.Common.{◌≡◌, inl, inr, ℕ, Bool, true, false, List, [], ◌∷◌, ◌++◌, length, get_or, map, Option, Some, None, Result, Ok, Err, IfSome, IfOk, IfErr, IsErrOf, OnOk, slice_get, refl, sym, ap, ◌∙◌, subst, append-nil}
use Rattle.std.specs.Prelude.{◌||◌}
use Rattle.std.specs.Io.KnownBytes.{Appends}
use Rattle.std.specs.Option.{option_map}
use Rattle.std.proofs.lemmas.Option.{get_or_from_slice_get, slice_get-map}
use Rattle.std.proofs.KnownBytes.{Appends-nil}
use Rattle.pk_outside.specs.Outside.{AppendsPart}
use Rattle.pk_outside.proofs.Parts.{part_none}
use Rattle.pk_outside.specs.declared.sink.SinkFault.{SinkFault}
use Rattle.pk_outside.specs.declared.sink.SinkFault.TheVariants as sink
use Rattle.capture_read.specs.declared.ending.Ending.{Ending}
use Rattle.capture_read.specs.declared.ending.Ending.TheVariants as ending
use Rattle.capture_write.specs.declared.format.Format.{Format}
use Rattle.shark_words.specs.declared.fault.WordFault.{WordFault}
use Rattle.run_texts.specs.FaultTexts.{cannot_open_text, word_fault_text}
use Rattle.merge_caps.specs.declared.readings.Cause.{Cause}
use Rattle.merge_caps.specs.declared.readings.Cause.TheVariants as cause
use Rattle.merge_caps.specs.declared.readings.Stopped.{Stopped}
use Rattle.merge_caps.specs.declared.status.MergeStatus.{MergeStatus}
use Rattle.merge_caps.specs.declared.status.MergeStatus.TheVariants as status
use Rattle.merge_caps.specs.Merged.{IsInOrder, frames_of}
use Rattle.merge_caps.specs.Reading.{ReadSoFar, endings_of, files_of, read_of}
use Rattle.merge_caps.specs.Statuses.{are_damaged, is_damaged_end, written_status}
use Rattle.merge_caps.specs.Stopped.{IsCause, IsStopped, Seen}
use Rattle.merge_caps.specs.Texts.{AreEndings, IsStatusText, IsUnfitAt, Told, ToldRefusal, ToldRefusalWhole, ToldWhole, damage_line, damage_lines}
use Rattle.merge_caps.specs.Told.{IsWrittenText, cause_status, cause_text, unfit_text}
use Rattle.merge_caps.specs.Words.{Wanted}
use Rattle.merge_caps.specs.Written.{IsWrittenOf}
use Rattle.merge_caps.proofs.FilesSteps.{IsReadOf}

-- no line is told of files that aren't damaged
or_none : (a b : Bool) → (a || b) ≡ false → (a ≡ false) × (b ≡ false)
or_none false b none = (refl, none)
or_none true b none = let bad : true ≡ false = none in absurd (cc bad)

line_none : (name : List ℕ) (e : Ending) → is_damaged_end e ≡ false → damage_line name e ≡ []
unfolding damage_line
line_none name ending.Whole none = refl
line_none name (ending.Damaged damage) none = let bad : true ≡ false = none in absurd (cc bad)
line_none name ending.TooLarge none = refl

lines_none : (names : List (List ℕ)) (endings : List Ending) → are_damaged endings ≡ false → damage_lines names endings ≡ []
lines_none [] endings none = refl
lines_none (name ∷ names) [] none = refl
lines_none (name ∷ names) (e ∷ endings) none =
    let both = or_none (is_damaged_end e) (are_damaged endings) none in
    ap (λ (l : List ℕ). l ++ damage_lines names endings) (line_none name e both.0) ∙ lines_none names endings both.1

-- what standard error is told
are_endings : (tell : List ℕ → Option (List ℕ)) (names : List (List ℕ)) (o : Option (List (List ℕ))) (read : ReadSoFar)
    → IfSome o (λ files. read ≡ read_of files) → IfSome o (λ files. read.endings ≡ endings_of files)
are_endings tell names None read is = tt
are_endings tell names (Some files) read is = ap (λ (r : ReadSoFar). r.endings) is

unfit_at : (format : Format) (o : Option (List (List ℕ))) (read : ReadSoFar) (number : ℕ) (old new : Option (List ℕ))
    → IfSome o (λ files. read ≡ read_of files) → IsWrittenOf format read.entries (Some number) old new → IfSome o (λ files. IsUnfitAt format files number)
unfit_at format None read number old new is wrote = tt
unfit_at format (Some files) read number old new is wrote = (
  frames_of wrote.order,
  record { order = wrote.order; ordered = subst (λ (r : ReadSoFar). IsInOrder r.entries wrote.order) is wrote.ordered; frames = refl },
  sym wrote.unfit_is,
)

text_by : (wanted : Wanted) (tell : List ℕ → Option (List ℕ)) (asked : List ℕ) (read : ReadSoFar) (unfit : Option ℕ) (damaged : Bool) (old new : Option (List ℕ)) (text : List ℕ)
    → IsReadOf tell wanted.names read → length read.endings ≡ length wanted.names → damaged ≡ are_damaged read.endings → IsWrittenOf wanted.format read.entries unfit old new
    → text ≡ damage_lines wanted.names read.endings ++ unfit_text unfit → IsStatusText wanted tell asked (written_status unfit damaged) text
text_by wanted tell asked read (Some number) damaged old new text is count same wrote told =
    let endings : AreEndings tell wanted.names read.endings = record { count = count; told = are_endings tell wanted.names (files_of tell wanted.names) read is } in
    (number, unfit_at wanted.format (files_of tell wanted.names) read number old new is wrote, (damage_lines wanted.names read.endings, (read.endings, endings, refl), told))
text_by wanted tell asked read None true old new text is count same wrote told =
    (read.endings, record { count = count; told = are_endings tell wanted.names (files_of tell wanted.names) read is }, told ∙ append-nil (damage_lines wanted.names read.endings))
text_by wanted tell asked read None false old new text is count same wrote told =
    told ∙ append-nil (damage_lines wanted.names read.endings) ∙ lines_none wanted.names read.endings (sym same)

pub text_told : (wanted : Wanted) (tell : List ℕ → Option (List ℕ)) (asked : List ℕ) (read : ReadSoFar) (written : Result (Option ℕ) SinkFault) (old new : Option (List ℕ))
    (answer : MergeStatus) (text : List ℕ) → IsReadOf tell wanted.names read → length read.endings ≡ length wanted.names
    → IfOk written (λ unfit. IsWrittenOf wanted.format read.entries unfit old new)
    → IsWrittenText (damage_lines wanted.names read.endings) (are_damaged read.endings) written answer text
    → IsStatusText wanted tell asked answer text
text_told wanted tell asked read (Ok unfit) old new answer text is count wrote (inl told) =
    subst (λ (a : MergeStatus). IsStatusText wanted tell asked a text) (sym told.0)
    (text_by wanted tell asked read unfit (are_damaged read.endings) old new text is count refl wrote told.1)
text_told wanted tell asked read (Err sink.Failed) old new answer text is count wrote (inl told) =
    subst (λ (a : MergeStatus). IsStatusText wanted tell asked a text) (sym told.0)
    (read.endings, record { count = count; told = are_endings tell wanted.names (files_of tell wanted.names) read is }, told.1 ∙ append-nil (damage_lines wanted.names read.endings))
text_told wanted tell asked read (Err sink.NoMemory) old new answer text is count wrote (inl told) =
    subst (λ (a : MergeStatus). IsStatusText wanted tell asked a text) (sym told.0)
    (inr (read.endings, record { count = count; told = are_endings tell wanted.names (files_of tell wanted.names) read is }, told.1 ∙ append-nil (damage_lines wanted.names read.endings)))
text_told wanted tell asked read written old new answer text is count wrote (inr told) =
    subst (λ (a : MergeStatus). IsStatusText wanted tell asked a text) (sym told.0) (inl told.1)

-- the text made for a file that doesn't open names it
unopened_name : (names texts : List (List ℕ)) (place : ℕ) (unopened asked : List ℕ) → texts ≡ map cannot_open_text names
    → unopened ≡ get_or texts place unopened → slice_get names place ≡ Some asked → unopened ≡ cannot_open_text asked
unopened_name names texts place unopened asked made is last =
    is ∙ get_or_from_slice_get texts place (cannot_open_text asked) unopened
    (ap (λ (ts : List (List ℕ)). slice_get ts place) made ∙ slice_get-map cannot_open_text names place ∙ ap (option_map cannot_open_text) last)

stop_text : (wanted : Wanted) (c : Cause) (texts : List (List ℕ)) (place : ℕ) (unopened : List ℕ) (old new : Seen)
    → texts ≡ map cannot_open_text wanted.names → unopened ≡ get_or texts place unopened → IsCause c wanted.names place old new
    → IsStatusText wanted old.tell new.asked (cause_status c) (cause_text c unopened)
stop_text wanted cause.CannotOpen texts place unopened old new made is why = unopened_name wanted.names texts place unopened new.asked made is why.name
stop_text wanted cause.ReadFault texts place unopened old new made is why = refl
stop_text wanted cause.TooLarge texts place unopened old new made is why = refl
stop_text wanted cause.NoMemory texts place unopened old new made is why = inl refl

-- the names are those of a slice
pub stop_told : (wanted : Wanted) (names texts : List (List ℕ)) (stopped : Stopped) (unopened : List ℕ) (old new : Seen) (answer : MergeStatus)
    → names ≡ wanted.names → texts ≡ map cannot_open_text names → IsStopped names stopped old new → unopened ≡ get_or texts stopped.place unopened
    → answer ≡ cause_status stopped.cause → IsStatusText wanted old.tell new.asked answer (cause_text stopped.cause unopened)
stop_told wanted names texts stopped unopened old new answer same made why is ends =
    let why_here : IsStopped wanted.names stopped old new = subst (λ (ns : List (List ℕ)). IsStopped ns stopped old new) same why in
    subst (λ (a : MergeStatus). IsStatusText wanted old.tell new.asked a (cause_text stopped.cause unopened)) (sym ends)
    (stop_text wanted stopped.cause texts stopped.place unopened old new (made ∙ ap (map cannot_open_text) same) is why_here.cause)

-- a fault is never told as want of memory
pub calm_stop : (c : Cause) (names : List (List ℕ)) (place : ℕ) (old new : Seen) (answer : MergeStatus) → IsCause c names place old new
    → answer ≡ cause_status c → answer ≡ status.NoMemory → (new.missed ≡ old.missed) × (new.faults ≡ old.faults)
calm_stop cause.CannotOpen names place old new answer why ends is = let bad : status.CannotOpen ≡ status.NoMemory = sym ends ∙ is in absurd (cc bad)
calm_stop cause.ReadFault names place old new answer why ends is = let bad : status.ReadFault ≡ status.NoMemory = sym ends ∙ is in absurd (cc bad)
calm_stop cause.TooLarge names place old new answer why ends is = let bad : status.TooLarge ≡ status.NoMemory = sym ends ∙ is in absurd (cc bad)
calm_stop cause.NoMemory names place old new answer why ends is = why

pub calm_write : (written : Result (Option ℕ) SinkFault) (answer : MergeStatus) (old new : ℕ) → (IsErrOf written sink.Failed → answer ≡ status.WriteFault)
    → OnOk written (new ≡ old) → (IsErrOf written sink.NoMemory → new ≡ old) → answer ≡ status.NoMemory → new ≡ old
calm_write (Ok unfit) answer old new fault whole starved is = whole
calm_write (Err sink.Failed) answer old new fault whole starved is = let bad : status.WriteFault ≡ status.NoMemory = sym (fault refl) ∙ is in absurd (cc bad)
calm_write (Err sink.NoMemory) answer old new fault whole starved is = starved refl

-- standard error got the text
pub told : (wanted : Wanted) (tell : List ℕ → Option (List ℕ)) (asked : List ℕ) (answer : MergeStatus) (text : List ℕ) (old new : Option (List ℕ))
    → IsStatusText wanted tell asked answer text → AppendsPart old new text → Told wanted tell asked answer old new
unfolding Told
told wanted tell asked answer text old new is part = (text, is, part)

pub told_whole : (wanted : Wanted) (tell : List ℕ → Option (List ℕ)) (asked : List ℕ) (answer : MergeStatus) (text : List ℕ) (old new : Option (List ℕ))
    → IsStatusText wanted tell asked answer text → Appends old new text → ToldWhole wanted tell asked answer old new
unfolding ToldWhole
told_whole wanted tell asked answer text old new is whole = (text, is, whole)

pub refusal_told : (fault : WordFault) (text : List ℕ) (old new : Option (List ℕ)) → text ≡ word_fault_text fault → AppendsPart old new text
    → ToldRefusal fault status.BadWords old new
unfolding ToldRefusal
refusal_told fault text old new is part = (text, is, part)

pub refusal_whole : (fault : WordFault) (text : List ℕ) (old new : Option (List ℕ)) → text ≡ word_fault_text fault → Appends old new text
    → ToldRefusalWhole fault status.BadWords old new
unfolding ToldRefusalWhole
refusal_whole fault text old new is whole = (text, is, whole)

pub refusal_starved : (fault : WordFault) (a : Option (List ℕ)) → ToldRefusal fault status.NoMemory a a
unfolding ToldRefusal
refusal_starved fault a = ([], refl, part_none a [])

pub refusal_starved_whole : (fault : WordFault) (a : Option (List ℕ)) → ToldRefusalWhole fault status.NoMemory a a
unfolding ToldRefusalWhole
refusal_starved_whole fault a = ([], refl, Appends-nil a)

pub starved : (wanted : Wanted) (tell : List ℕ → Option (List ℕ)) (asked : List ℕ) (a : Option (List ℕ)) → Told wanted tell asked status.NoMemory a a
starved wanted tell asked a = told wanted tell asked status.NoMemory [] a a (inl refl) (part_none a [])

pub starved_whole : (wanted : Wanted) (tell : List ℕ → Option (List ℕ)) (asked : List ℕ) (a : Option (List ℕ)) → ToldWhole wanted tell asked status.NoMemory a a
starved_whole wanted tell asked a = told_whole wanted tell asked status.NoMemory [] a a (inl refl) (Appends-nil a)

-- words without memory
pub none_told : (r : Result Wanted WordFault) (tell : List ℕ → Option (List ℕ)) (asked : List ℕ) (a : Option (List ℕ)) → IfOk r (λ wanted. Told wanted tell asked status.NoMemory a a)
none_told (Ok wanted) tell asked a = starved wanted tell asked a
none_told (Err fault) tell asked a = tt

pub none_told_whole : (r : Result Wanted WordFault) (tell : List ℕ → Option (List ℕ)) (asked : List ℕ) (a : Option (List ℕ)) → IfOk r (λ wanted. ToldWhole wanted tell asked status.NoMemory a a)
none_told_whole (Ok wanted) tell asked a = starved_whole wanted tell asked a
none_told_whole (Err fault) tell asked a = tt

pub none_refused : (r : Result Wanted WordFault) (a : Option (List ℕ)) → IfErr r (λ fault. ToldRefusal fault status.NoMemory a a)
none_refused (Ok wanted) a = tt
none_refused (Err fault) a = refusal_starved fault a

pub none_refused_whole : (r : Result Wanted WordFault) (a : Option (List ℕ)) → IfErr r (λ fault. ToldRefusalWhole fault status.NoMemory a a)
none_refused_whole (Ok wanted) a = tt
none_refused_whole (Err fault) a = refusal_starved_whole fault a

-- the same, where the names are those of a slice, and the lines were put together before
pub text_told_by : (wanted : Wanted) (tell : List ℕ → Option (List ℕ)) (asked : List ℕ) (read : ReadSoFar) (written : Result (Option ℕ) SinkFault) (old new : Option (List ℕ))
    (answer : MergeStatus) (text : List ℕ) (names : List (List ℕ)) (endings : List Ending) (lines : List ℕ) (damaged : Bool) → names ≡ wanted.names → endings ≡ read.endings
    → lines ≡ damage_lines names endings → damaged ≡ are_damaged endings → IsReadOf tell wanted.names read → length read.endings ≡ length wanted.names
    → IfOk written (λ unfit. IsWrittenOf wanted.format read.entries unfit old new) → IsWrittenText lines damaged written answer text
    → IsStatusText wanted tell asked answer text
text_told_by wanted tell asked read written old new answer text names endings lines damaged same_names same_endings are is_one is count wrote told =
    let all : lines ≡ damage_lines wanted.names read.endings =
    are ∙ ap (λ (ns : List (List ℕ)). damage_lines ns endings) same_names ∙ ap (damage_lines wanted.names) same_endings in
    text_told wanted tell asked read written old new answer text is count wrote
    (subst (λ (ls : List ℕ). IsWrittenText ls (are_damaged read.endings) written answer text) all
    (subst (λ (d : Bool). IsWrittenText lines d written answer text) (is_one ∙ ap are_damaged same_endings) told))
