-- Where no write failed, no failed write is counted.
use Rattle.std.proofs.Common.{◌≡◌, ◌∙◌, ℕ, Ok, Err, Result, ap, refl, sym}
use Rattle.std.specs.Prelude.{IfErr, IsErrOf, OnOk}
use Rattle.pk_outside.specs.Outside.{CountsFault}
use Rattle.pk_outside.specs.declared.sink.SinkFault.{SinkFault}
use Rattle.pk_outside.specs.declared.sink.SinkFault.TheVariants.{Failed, NoMemory}
use Rattle.run_frames.specs.declared.frames.RunFault.{RunFault}
use Rattle.run_frames.specs.declared.frames.RunFault.TheVariants.{WriteFault}

-- by what a write counts
pub calm_write : {A : Type 0} (answer : Result A SinkFault) (old new starved_old starved_new : ℕ) → OnOk answer (new ≡ old)
    → IfErr answer (λ fault. CountsFault fault old new starved_old starved_new) → ¬ IsErrOf answer Failed → new ≡ old
calm_write (Ok value) old new starved_old starved_new no_fault counts other = no_fault
calm_write (Err Failed) old new starved_old starved_new no_fault counts other = absurd (other refl)
calm_write (Err NoMemory) old new starved_old starved_new no_fault counts other = counts.others

pub calm_counted : {A : Type 0} (fault : SinkFault) (old new starved_old starved_new : ℕ) → CountsFault fault old new starved_old starved_new
    → ¬ IsErrOf {T = A} {E = SinkFault} (Err fault) Failed → new ≡ old
calm_counted Failed old new starved_old starved_new counts other = absurd (other refl)
calm_counted NoMemory old new starved_old starved_new counts other = counts.others

-- by an answer that isn't this fault
pub calm_ok : {A E : Type 0} (value : A) (bad : E) (old new : ℕ) → (¬ IsErrOf {T = A} {E = E} (Ok value) bad → new ≡ old) → new ≡ old
calm_ok value bad old new calm = calm (λ is. absurd (cc is))

pub calm_err : {A E : Type 0} (fault bad : E) (old new : ℕ) → (¬ IsErrOf {T = A} {E = E} (Err fault) bad → new ≡ old) → ¬ (fault ≡ bad) → new ≡ old
calm_err fault bad old new calm other = calm (λ is. let same : fault ≡ bad = cc is in other same)

pub calm_starved : {A : Type 0} (fault : SinkFault) (old new : ℕ) → fault ≡ NoMemory → (¬ IsErrOf {T = A} {E = SinkFault} (Err fault) Failed → new ≡ old) → new ≡ old
calm_starved fault old new none calm = calm (λ is. let same : fault ≡ Failed = cc is in absurd (cc (sym same ∙ none)))

-- a write's fault as that of a run
pub calm_fault : {A B : Type 0} (fault : SinkFault) (told : RunFault) (old new : ℕ) → (fault ≡ Failed → told ≡ WriteFault)
    → (¬ IsErrOf {T = A} {E = SinkFault} (Err fault) Failed → new ≡ old) → ¬ IsErrOf {T = B} {E = RunFault} (Err told) WriteFault → new ≡ old
calm_fault fault told old new fails calm other = calm (λ is. let same : fault ≡ Failed = cc is in other (ap Err (fails same)))
