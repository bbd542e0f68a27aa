-- The promise of the program, said once: the words of a command line are refused by the stated rule, or exactly the right lines come
-- out, in the order of the file, and damage is reported. Whatever cuts a run short leaves a front of these lines.
use Rattle.std.specs.Prelude.{◌≡◌, ◌⊎◌, ℕ, List, Option, IfSome}
use Rattle.run_frames.specs.declared.plan.Plan.{Plan}
use Rattle.run_frames.specs.Fitting.{FramesRead}
use Rattle.run_passes.specs.Reading.{file_of, frames_read}
use Rattle.run_words.specs.declared.refused.Refused.{Refused}
use Rattle.run_words.specs.Plan.{IsPlan, IsRefusal}
use Rattle.shark_run.specs.Wrote.{WroteAll, WrotePart}
use Rattle.run_words.specs.declared.status.Status.{Status}
use Rattle.run_words.specs.declared.status.Status.TheVariants.{Done, BadWords, BadFilter, BadField, CannotOpen, ReadFault, Damaged, TooLarge, WriteFault, NoMemory, CannotWrite}
use Rattle.shark_run.specs.Told.{Told}
use Rattle.run_words.specs.Statuses.{refusal_status, status_of, IsNoRefusal, IsRefusing, WhenEnded}

-- the words are refused: for this reason, which they give, as the status says; and nothing is written
pub record IsRefused (words : List (List ℕ)) (reason : Refused) (answer : Status) (old new : Option (List ℕ)) : Type 0 where
  pub given : IsRefusal words reason
  pub status : answer ≡ refusal_status reason
  pub nothing : new ≡ old

-- the whole output over the frames that were read is written, and the status says how these end: as the file does, damaged or not, or at
-- a frame that can't be written
pub record IsWhole (plan : Plan) (read : FramesRead) (answer : Status) (old new : Option (List ℕ)) : Type 0 where
  pub written : WroteAll plan read old new
  pub status : answer ≡ status_of read.ending

-- the status of a run that the outside, or want of memory, cut short
abbrev pub IsCutShort : Status → Type 0
IsCutShort CannotOpen = Unit {0}
IsCutShort ReadFault = Unit {0}
IsCutShort WriteFault = Unit {0}
IsCutShort NoMemory = Unit {0}
IsCutShort Done = ⊥
IsCutShort BadWords = ⊥
IsCutShort BadFilter = ⊥
IsCutShort BadField = ⊥
IsCutShort Damaged = ⊥
IsCutShort TooLarge = ⊥
IsCutShort CannotWrite = ⊥

-- a front of that output is written, and the status says why no more
pub record IsFront (plan : Plan) (read : FramesRead) (answer : Status) (old new : Option (List ℕ)) : Type 0 where
  pub written : WrotePart plan read old new
  pub status : IsCutShort answer

-- what comes of a plan over a file
abbrev pub IsCarriedOut : Plan → Status → Option (List ℕ) → Option (List ℕ) → List ℕ → Type 0
IsCarriedOut plan answer old new file =
    IsWhole plan (frames_read plan file) answer old new ⊎ IsFront plan (frames_read plan file) answer old new

-- what comes of words, over files of which some are known by their names: a refusal, or the output of the plan that they ask for, or
-- for want of memory nothing
abbrev pub IsAnswer : List (List ℕ) → (List ℕ → Option (List ℕ)) → Status → Option (List ℕ) → Option (List ℕ) → Type 0
IsAnswer words files answer old new =
    ((reason : Refused) × IsRefused words reason answer old new)
    ⊎ (((plan : Plan) × IsPlan words plan × IsNoRefusal answer × IfSome (file_of plan files) (IsCarriedOut plan answer old new))
    ⊎ ((answer ≡ NoMemory) × (new ≡ old)))

-- the promise: that comes of the words, and standard error is told no more than what the status means
unfoldable pub Headline : List (List ℕ) → (List ℕ → Option (List ℕ)) → Status → (old new told_old told_new : Option (List ℕ)) → Type 0
Headline words files answer old new told_old told_new =
    IsAnswer words files answer old new × Told (IsPlan words) (IsRefusal words) files answer told_old told_new

-- what a run's single promises about its output say, of the same words, files and status
pub record AreKept (words : List (List ℕ)) (files : List ℕ → Option (List ℕ)) (answer : Status) (old new told_old told_new : Option (List ℕ)) : Type 0 where
  pub refusing : IsRefusing answer → (reason : Refused) × IsRefusal words reason × (answer ≡ refusal_status reason)
  pub untouched : IsRefusing answer → new ≡ old
  pub ended : WhenEnded answer ((plan : Plan) × IsPlan words plan × IfSome (file_of plan files) (λ file. WroteAll plan (frames_read plan file) old new × (answer ≡ status_of (frames_read plan file).ending)))
  pub part : (new ≡ old) ⊎ ((plan : Plan) × IsPlan words plan × IfSome (file_of plan files) (λ file. WrotePart plan (frames_read plan file) old new))
  pub told : Told (IsPlan words) (IsRefusal words) files answer told_old told_new

-- each of them follows from the headline
abbrev pub HeadlineSaysAll : Type 0
HeadlineSaysAll =
    (words : List (List ℕ)) (files : List ℕ → Option (List ℕ)) (answer : Status) (old new told_old told_new : Option (List ℕ))
    → Headline words files answer old new told_old told_new → AreKept words files answer old new told_old told_new
