-- Where nothing outside fails, a plan's run ends as the reading of its frames does.
use Rattle.std.proofs.Common.{◌≡◌, ◌⊎◌, inl, inr, ℕ, List, Option, refl, ap, ◌∙◌}
use Rattle.std.specs.Prelude.{IfSome}
use Rattle.run_words.specs.declared.outcome.Outcome.{Outcome}
use Rattle.run_words.specs.declared.outcome.Outcome.TheVariants as outcome
use Rattle.run_frames.specs.declared.plan.Plan.{Plan}
use Rattle.run_words.specs.declared.status.Status.{Status}
use Rattle.run_words.specs.declared.status.Status.TheVariants as status
use Rattle.run_words.specs.Outcomes.{outcome_status, IfEnded}
use Rattle.run_passes.specs.Reading.{file_of, frames_read}
use Rattle.run_words.specs.Statuses.{status_of}
use Rattle.shark_run.proofs.AnswerLemmas.{any_file, each_file}

-- nothing failed, so the status is that of the end, or tells of want of memory
abbrev Ends : Plan → Status → Type 0 → Type 0 → Type 0 → List ℕ → Type 0
Ends plan answer A B C file = ¬ A → ¬ B → ¬ C → (answer ≡ status_of (frames_read plan file).ending) ⊎ (answer ≡ status.NoMemory)

pub complete_by : (plan : Plan) (files : List ℕ → Option (List ℕ)) (o : Outcome) (answer : Status) (W : List ℕ → Type 0) (A B C : Type 0)
    → answer ≡ outcome_status o → IfEnded o (λ end. IfSome (file_of plan files) (λ file. W file × (end ≡ (frames_read plan file).ending)))
    → (o ≡ outcome.CannotOpen → A) → (o ≡ outcome.ReadFault → B) → (o ≡ outcome.WriteFault → C) → IfSome (file_of plan files) (Ends plan answer A B C)
complete_by plan files (outcome.Ended end) answer W A B C same ended opened read wrote =
    each_file (file_of plan files) (λ file. W file × (end ≡ (frames_read plan file).ending)) (Ends plan answer A B C)
    (λ file is a b c. inl (same ∙ ap status_of is.1)) ended
complete_by plan files outcome.CannotOpen answer W A B C same ended opened read wrote =
    any_file (file_of plan files) (Ends plan answer A B C) (λ file a b c. absurd (a (opened refl)))
complete_by plan files outcome.ReadFault answer W A B C same ended opened read wrote =
    any_file (file_of plan files) (Ends plan answer A B C) (λ file a b c. absurd (b (read refl)))
complete_by plan files outcome.WriteFault answer W A B C same ended opened read wrote =
    any_file (file_of plan files) (Ends plan answer A B C) (λ file a b c. absurd (c (wrote refl)))
complete_by plan files outcome.NoMemory answer W A B C same ended opened read wrote =
    any_file (file_of plan files) (Ends plan answer A B C) (λ file a b c. inr same)
