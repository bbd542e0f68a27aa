-- Which faults a status tells of.
use Rattle.std.proofs.Common.{◌≡◌, ◌∙◌, ℕ, List, Option, refl, sym, ap, subst}
use Rattle.std.specs.Prelude.{IfSome}
use Rattle.run_frames.specs.declared.run_ending.RunEnding.TheVariants.{Read, Unfit}
use Rattle.capture_read.specs.declared.ending.Ending.TheVariants as ending
use Rattle.run_frames.specs.Accessors.{source_of}
use Rattle.run_frames.specs.Source.{IfNamed}
use Rattle.run_frames.specs.Generated.{GeneratedShown}
use Rattle.run_frames.specs.declared.plan.Plan.{Plan}
use Rattle.run_frames.specs.declared.source.PlanSource.{PlanSource}
use Rattle.run_frames.specs.declared.source.PlanSource.TheVariants as source
use Rattle.shark_run.specs.Way.{IsNextNear}
use Rattle.run_passes.specs.Reading.{file_by, file_of}
use Rattle.run_passes.specs.SoFar.{IfUnfit, IsNextNearOf}
use Rattle.shark_run.specs.Calm.{HasFaults, TellsFaults}
use Rattle.run_words.specs.Outcomes.{HasEnded, IfEnded, outcome_status}
use Rattle.run_words.specs.declared.outcome.Outcome.{Outcome}
use Rattle.run_words.specs.declared.outcome.Outcome.TheVariants as outcome
use Rattle.run_words.specs.declared.status.Status.{Status}
use Rattle.run_words.specs.declared.status.Status.TheVariants as status

-- nothing outside was touched
pub tells_still : (answer : Status) (missed reads writes : ℕ) → TellsFaults answer missed missed reads reads writes writes
tells_still answer missed reads writes = record { missed = λ other. refl; reads = λ other. refl; writes = λ other. refl }

-- a plan was carried out, and this is its status
pub tells_outcome : (end : Outcome) (answer : Status) (missed_old missed_new reads_old reads_new writes_old writes_new : ℕ) → answer ≡ outcome_status end
    → HasFaults end missed_old missed_new reads_old reads_new writes_old writes_new
    → TellsFaults answer missed_old missed_new reads_old reads_new writes_old writes_new
tells_outcome end answer missed_old missed_new reads_old reads_new writes_old writes_new same has = record {
  missed = λ other. has.missed (λ is. other (same ∙ ap outcome_status is));
  reads = λ other. has.reads (λ is. other (same ∙ ap outcome_status is));
  writes = λ other. has.writes (λ is. other (same ∙ ap outcome_status is));
}

-- there was no memory for the text of its end
pub tells_starved : (end : Outcome) (answer : Status) (missed_old missed_new reads_old reads_new writes_old writes_new : ℕ) → HasEnded end
    → HasFaults end missed_old missed_new reads_old reads_new writes_old writes_new
    → TellsFaults answer missed_old missed_new reads_old reads_new writes_old writes_new
tells_starved (outcome.Ended ending) answer missed_old missed_new reads_old reads_new writes_old writes_new ended has = record {
  missed = λ other. has.missed (λ is. absurd (cc is));
  reads = λ other. has.reads (λ is. absurd (cc is));
  writes = λ other. has.writes (λ is. absurd (cc is));
}
tells_starved outcome.CannotOpen answer missed_old missed_new reads_old reads_new writes_old writes_new ended has = absurd ended
tells_starved outcome.ReadFault answer missed_old missed_new reads_old reads_new writes_old writes_new ended has = absurd ended
tells_starved outcome.WriteFault answer missed_old missed_new reads_old reads_new writes_old writes_new ended has = absurd ended
tells_starved outcome.NoMemory answer missed_old missed_new reads_old reads_new writes_old writes_new ended has = absurd ended

-- a frame didn't fit
pub unfit_told : (end : Outcome) (answer : Status) (P : Type 0) → answer ≡ outcome_status end → IfEnded end (λ ending. IfUnfit ending P)
    → answer ≡ status.CannotWrite → P
unfit_told (outcome.Ended (Unfit number)) answer P same unfit is = unfit
unfit_told (outcome.Ended (Read ending.Whole)) answer P same unfit is = let bad : status.CannotWrite ≡ status.Done = sym is ∙ same in absurd (cc bad)
unfit_told (outcome.Ended (Read (ending.Damaged damage))) answer P same unfit is = let bad : status.CannotWrite ≡ status.Damaged = sym is ∙ same in absurd (cc bad)
unfit_told (outcome.Ended (Read ending.TooLarge)) answer P same unfit is = let bad : status.CannotWrite ≡ status.TooLarge = sym is ∙ same in absurd (cc bad)
unfit_told outcome.CannotOpen answer P same unfit is = let bad : status.CannotWrite ≡ status.CannotOpen = sym is ∙ same in absurd (cc bad)
unfit_told outcome.ReadFault answer P same unfit is = let bad : status.CannotWrite ≡ status.ReadFault = sym is ∙ same in absurd (cc bad)
unfit_told outcome.WriteFault answer P same unfit is = let bad : status.CannotWrite ≡ status.WriteFault = sym is ∙ same in absurd (cc bad)
unfit_told outcome.NoMemory answer P same unfit is = let bad : status.CannotWrite ≡ status.NoMemory = sym is ∙ same in absurd (cc bad)

pub unfit_any : (end : Outcome) (P : Type 0) → P → IfEnded end (λ ending. IfUnfit ending P)
unfit_any (outcome.Ended (Unfit number)) P holds = holds
unfit_any (outcome.Ended (Read ending)) P holds = tt
unfit_any outcome.CannotOpen P holds = tt
unfit_any outcome.ReadFault P holds = tt
unfit_any outcome.WriteFault P holds = tt
unfit_any outcome.NoMemory P holds = tt

-- nothing is taken of a file for a generated capture
pub next_generated : (plan : Plan) (files : List ℕ → Option (List ℕ)) (left : Option (List ℕ)) (generated : GeneratedShown) → source_of plan ≡ source.Generated generated
    → IfSome (file_of plan files) (λ file. IsNextNear plan file left)
next_generated plan files left generated is =
    subst (λ (from : PlanSource). IfSome (file_by from files) (λ file. IfNamed from (IsNextNearOf plan file left))) (sym is) tt
