-- What standard error is told.
use Rattle.std.proofs.Common.{◌≡◌, ℕ, List, [], Option, None, Some, refl, sym, subst}
use Rattle.std.specs.Prelude.{IfSome}
use Rattle.std.specs.Io.KnownBytes.{Appends}
use Rattle.std.proofs.KnownBytes.{Appends-nil}
use Rattle.pk_outside.specs.Outside.{AppendsPart}
use Rattle.pk_outside.proofs.Parts.{part_none}
use Rattle.capture_read.specs.declared.ending.Ending.TheVariants as ending
use Rattle.run_words.specs.declared.outcome.Outcome.{Outcome}
use Rattle.run_words.specs.declared.outcome.Outcome.TheVariants as outcome
use Rattle.run_frames.specs.declared.run_ending.RunEnding.TheVariants.{Read, Unfit}
use Rattle.run_frames.specs.declared.plan.Plan.{Plan}
use Rattle.run_words.specs.declared.refused.Refused.{Refused}
use Rattle.run_words.specs.declared.refused.Refused.TheVariants as refused
use Rattle.run_words.specs.declared.status.Status.{Status}
use Rattle.run_words.specs.declared.status.Status.TheVariants as status
use Rattle.run_words.specs.FaultTexts.{refusal_text, ending_text, outcome_text, run_ending_text}
use Rattle.shark_run.specs.Told.{IsFaultText, IsNone, IsSame, Told, ToldWhole}
use Rattle.run_words.specs.Outcomes.{outcome_status, IfEnded}
use Rattle.run_passes.specs.Reading.{file_of, frames_read}
use Rattle.run_words.specs.Statuses.{refusal_status}

pub told : (IsAsked : Plan → Type 0) (IsReason : Refused → Type 0) (files : List ℕ → Option (List ℕ)) (answer : Status) (text : List ℕ) (old new : Option (List ℕ)) →
    IsFaultText IsAsked IsReason files answer text → AppendsPart old new text → Told IsAsked IsReason files answer old new
unfolding Told
told IsAsked IsReason files answer text old new is part = (text, is, part)

pub told_whole : (IsAsked : Plan → Type 0) (IsReason : Refused → Type 0) (files : List ℕ → Option (List ℕ)) (answer : Status) (text : List ℕ) (old new : Option (List ℕ)) →
    IsFaultText IsAsked IsReason files answer text → Appends old new text → ToldWhole IsAsked IsReason files answer old new
unfolding ToldWhole
told_whole IsAsked IsReason files answer text old new is whole = (text, is, whole)

-- for want of memory nothing is told
pub told_nothing : (IsAsked : Plan → Type 0) (IsReason : Refused → Type 0) (files : List ℕ → Option (List ℕ)) (a : Option (List ℕ)) → Told IsAsked IsReason files status.NoMemory a a
told_nothing IsAsked IsReason files a = told IsAsked IsReason files status.NoMemory [] a a refl (part_none a [])

pub whole_nothing : (IsAsked : Plan → Type 0) (IsReason : Refused → Type 0) (files : List ℕ → Option (List ℕ)) (a : Option (List ℕ)) → ToldWhole IsAsked IsReason files status.NoMemory a a
whole_nothing IsAsked IsReason files a = told_whole IsAsked IsReason files status.NoMemory [] a a refl (Appends-nil a)

-- what is told of a plan or a reason is told of the words that ask for it or give it
text_more : (P Q : Plan → Type 0) (R S : Refused → Type 0) (files : List ℕ → Option (List ℕ)) (answer : Status) (text : List ℕ)
    → ((plan : Plan) → P plan → Q plan) → ((reason : Refused) → R reason → S reason)
    → IsFaultText P R files answer text → IsFaultText Q S files answer text
text_more P Q R S files status.BadWords text plans reasons is = (is.0, reasons is.0 is.1, is.2, is.3)
text_more P Q R S files status.BadFilter text plans reasons is = (is.0, reasons is.0 is.1, is.2, is.3)
text_more P Q R S files status.BadField text plans reasons is = (is.0, reasons is.0 is.1, is.2, is.3)
text_more P Q R S files status.CannotOpen text plans reasons is = (is.0, plans is.0 is.1, is.2)
text_more P Q R S files status.Damaged text plans reasons is = (is.0, plans is.0 is.1, is.2)
text_more P Q R S files status.CannotWrite text plans reasons is = (is.0, plans is.0 is.1, is.2)
text_more P Q R S files status.ReadFault text plans reasons is = is
text_more P Q R S files status.TooLarge text plans reasons is = is
text_more P Q R S files status.Done text plans reasons is = is
text_more P Q R S files status.WriteFault text plans reasons is = is
text_more P Q R S files status.NoMemory text plans reasons is = is

pub told_more : (P Q : Plan → Type 0) (R S : Refused → Type 0) (files : List ℕ → Option (List ℕ)) (answer : Status) (old new : Option (List ℕ))
    → ((plan : Plan) → P plan → Q plan) → ((reason : Refused) → R reason → S reason) → Told P R files answer old new → Told Q S files answer old new
unfolding Told
told_more P Q R S files answer old new plans reasons was = (was.0, text_more P Q R S files answer was.0 plans reasons was.1, was.2)

pub whole_more : (P Q : Plan → Type 0) (R S : Refused → Type 0) (files : List ℕ → Option (List ℕ)) (answer : Status) (old new : Option (List ℕ))
    → ((plan : Plan) → P plan → Q plan) → ((reason : Refused) → R reason → S reason) → ToldWhole P R files answer old new → ToldWhole Q S files answer old new
unfolding ToldWhole
whole_more P Q R S files answer old new plans reasons was = (was.0, text_more P Q R S files answer was.0 plans reasons was.1, was.2)

refusal_as_told : (refused : Refused) (files : List ℕ → Option (List ℕ)) (text : List ℕ) → text ≡ refusal_text refused
    → IsFaultText IsNone (IsSame refused) files (refusal_status refused) text
refusal_as_told (refused.Words fault) files text is = (refused.Words fault, refl, refl, is)
refusal_as_told (refused.Filter fault) files text is = (refused.Filter fault, refl, refl, is)
refusal_as_told (refused.Field name) files text is = (refused.Field name, refl, refl, is)

pub refusal_told : (refused : Refused) (files : List ℕ → Option (List ℕ)) (answer : Status) (text : List ℕ) → answer ≡ refusal_status refused
    → text ≡ refusal_text refused → IsFaultText IsNone (IsSame refused) files answer text
refusal_told refused files answer text same is =
    subst (λ (a : Status). IsFaultText IsNone (IsSame refused) files a text) (sym same) (refusal_as_told refused files text is)

second : (file : Option (List ℕ)) (W P : List ℕ → Type 0) → IfSome file (λ f. W f × P f) → IfSome file P
second None W P both = tt
second (Some file) W P both = both.1

outcome_as_told : (plan : Plan) (files : List ℕ → Option (List ℕ)) (o : Outcome) (text : List ℕ) (W : List ℕ → Type 0) → text ≡ outcome_text plan o
    → IfEnded o (λ end. IfSome (file_of plan files) (λ file. W file × (end ≡ (frames_read plan file).ending)))
    → IsFaultText (IsSame plan) IsNone files (outcome_status o) text
unfolding outcome_text run_ending_text ending_text
outcome_as_told plan files (outcome.Ended (Read ending.Whole)) text W is ended = is
outcome_as_told plan files (outcome.Ended (Read (ending.Damaged damage))) text W is ended = (
  plan,
  refl,
  record {
    ending = Read (ending.Damaged damage);
    status = refl;
    read = second (file_of plan files) W (λ file. Read (ending.Damaged damage) ≡ (frames_read plan file).ending) ended;
    text = is;
  },
)
outcome_as_told plan files (outcome.Ended (Read ending.TooLarge)) text W is ended = is
outcome_as_told plan files (outcome.Ended (Unfit number)) text W is ended = (
  plan,
  refl,
  record {
    ending = Unfit number;
    status = refl;
    read = second (file_of plan files) W (λ file. Unfit number ≡ (frames_read plan file).ending) ended;
    text = is;
  },
)
outcome_as_told plan files outcome.CannotOpen text W is ended = (plan, refl, is)
outcome_as_told plan files outcome.ReadFault text W is ended = is
outcome_as_told plan files outcome.WriteFault text W is ended = is
outcome_as_told plan files outcome.NoMemory text W is ended = is

pub outcome_told : (plan : Plan) (files : List ℕ → Option (List ℕ)) (o : Outcome) (answer : Status) (text : List ℕ) (W : List ℕ → Type 0) →
    answer ≡ outcome_status o → text ≡ outcome_text plan o
    → IfEnded o (λ end. IfSome (file_of plan files) (λ file. W file × (end ≡ (frames_read plan file).ending)))
    → IsFaultText (IsSame plan) IsNone files answer text
outcome_told plan files o answer text W same is ended =
    subst (λ (a : Status). IsFaultText (IsSame plan) IsNone files a text) (sym same) (outcome_as_told plan files o text W is ended)
