-- What standard error is told: one line that names the fault, or nothing.
use Rattle.std.specs.Prelude.{◌≡◌, ℕ, List, [], Option, IfSome}
use Rattle.std.specs.Io.KnownBytes.{Appends}
use Rattle.pk_outside.specs.Outside.{AppendsPart}
use Rattle.run_texts.specs.FaultTexts.{read_fault_text, too_large_text}
use Rattle.run_words.specs.FaultTexts.{outcome_text, refusal_text, run_ending_text}
use Rattle.run_words.specs.declared.outcome.Outcome.TheVariants as outcome
use Rattle.run_frames.specs.declared.run_ending.RunEnding.{RunEnding}
use Rattle.run_frames.specs.declared.plan.Plan.{Plan}
use Rattle.run_words.specs.declared.refused.Refused.{Refused}
use Rattle.run_words.specs.declared.status.Status.{Status}
use Rattle.run_words.specs.declared.status.Status.TheVariants as status
use Rattle.run_passes.specs.Reading.{file_of, frames_read}
use Rattle.run_words.specs.Statuses.{refusal_status, status_of}

-- the text of a status that a plan's run ended with: of the end of what was read of the file
pub record EndsSo (plan : Plan) (files : List ℕ → Option (List ℕ)) (answer : Status) (told : List ℕ) : Type 0 where
  pub ending : RunEnding
  pub status : status_of ending ≡ answer
  pub read : IfSome (file_of plan files) (λ file. ending ≡ (frames_read plan file).ending)
  pub text : told ≡ run_ending_text ending

-- only this one, and none at all
abbrev pub IsSame : {A : Type 0} → A → A → Type 0
IsSame a other = other ≡ a

abbrev pub IsNone : {A : Type 0} → A → Type 0
IsNone other = ⊥

-- the text of a refusal for one of these reasons, with its status
abbrev pub IsRefusalText : (Refused → Type 0) → Status → List ℕ → Type 0
IsRefusalText IsReason answer text = (reason : Refused) × IsReason reason × (answer ≡ refusal_status reason) × (text ≡ refusal_text reason)

-- the text of a status, for words that ask for such a plan or are refused for such a reason, over these files
abbrev pub IsFaultText : (Plan → Type 0) → (Refused → Type 0) → (List ℕ → Option (List ℕ)) → Status → List ℕ → Type 0
IsFaultText IsAsked IsReason files status.BadWords text = IsRefusalText IsReason status.BadWords text
IsFaultText IsAsked IsReason files status.BadFilter text = IsRefusalText IsReason status.BadFilter text
IsFaultText IsAsked IsReason files status.BadField text = IsRefusalText IsReason status.BadField text
IsFaultText IsAsked IsReason files status.CannotOpen text = (plan : Plan) × IsAsked plan × (text ≡ outcome_text plan outcome.CannotOpen)
IsFaultText IsAsked IsReason files status.ReadFault text = text ≡ read_fault_text
IsFaultText IsAsked IsReason files status.Damaged text = (plan : Plan) × IsAsked plan × EndsSo plan files status.Damaged text
IsFaultText IsAsked IsReason files status.CannotWrite text = (plan : Plan) × IsAsked plan × EndsSo plan files status.CannotWrite text
IsFaultText IsAsked IsReason files status.TooLarge text = text ≡ too_large_text
IsFaultText IsAsked IsReason files status.Done text = text ≡ []
IsFaultText IsAsked IsReason files status.WriteFault text = text ≡ []
IsFaultText IsAsked IsReason files status.NoMemory text = text ≡ []

-- standard error got a front of the status's text, and nothing else
unfoldable pub Told : (Plan → Type 0) → (Refused → Type 0) → (List ℕ → Option (List ℕ)) → Status → Option (List ℕ) → Option (List ℕ) → Type 0
Told IsAsked IsReason files answer old new = (text : List ℕ) × IsFaultText IsAsked IsReason files answer text × AppendsPart old new text

-- standard error got the status's text, and nothing else
unfoldable pub ToldWhole : (Plan → Type 0) → (Refused → Type 0) → (List ℕ → Option (List ℕ)) → Status → Option (List ℕ) → Option (List ℕ) → Type 0
ToldWhole IsAsked IsReason files answer old new = (text : List ℕ) × IsFaultText IsAsked IsReason files answer text × Appends old new text
