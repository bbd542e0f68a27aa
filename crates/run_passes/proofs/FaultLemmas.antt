-- What a fault comes from, and what it leaves behind.
use Rattle.std.proofs.Common.{◌≡◌, ℕ, List, [], ◌∙◌, Option, refl, sym, arith}
use Rattle.std.specs.Prelude.{IfSome}
use Rattle.pk_outside.specs.Outside.{Rose}
use Rattle.capture_read.specs.declared.kind.Phase.{Phase}
use Rattle.capture_read.specs.declared.kind.Phase.TheVariants.{Open, Spent}
use Rattle.run_frames.specs.declared.frames.RunFault.{RunFault}
use Rattle.run_frames.specs.declared.frames.RunFault.TheVariants.{ReadFault, WriteFault, NoMemory}
use Rattle.run_frames.specs.declared.plan.Plan.{Plan}
use Rattle.run_passes.specs.Passed.{AreCutOff, IsCaused, IsReadCaused, IsReadOn, IsWriteCaused}
use Rattle.run_passes.specs.SoFar.{IsBrokenBehind}

pub rose_before : (old now new : ℕ) → now ≡ old → Rose now new → Rose old new
rose_before old now new same rose = omega (arith, same, rose)

-- a reader that answered no error
pub never_spent : (kept : Phase) → kept ≡ Open → kept ≡ Spent → ⊥
never_spent kept fresh spent = let bad : Open ≡ Spent = sym fresh ∙ spent in absurd (cc bad)

-- a write failed, or there was no memory
pub write_caused : (old now new : ℕ) (fault : RunFault) → now ≡ old → (fault ≡ ReadFault → ⊥) → (fault ≡ WriteFault → Rose now new)
    → (¬ (fault ≡ WriteFault) → new ≡ now) → IsWriteCaused old new fault
write_caused old now new ReadFault same none rose calm = absurd (none refl)
write_caused old now new WriteFault same none rose calm = omega (arith, same, rose refl)
write_caused old now new NoMemory same none rose calm = calm (λ is. absurd (cc is)) ∙ same

pub caused_write : (reads_old reads_new old new : ℕ) (fault : RunFault) → reads_new ≡ reads_old → IsWriteCaused old new fault
    → IsCaused reads_old reads_new old new fault
caused_write reads_old reads_new old new ReadFault same is = absurd is
caused_write reads_old reads_new old new WriteFault same is = (is, same)
caused_write reads_old reads_new old new NoMemory same is = record { reads = same; writes = is }

pub caused_read : (old new writes_old writes_new : ℕ) (fault : RunFault) → writes_new ≡ writes_old → IsReadCaused old new fault
    → IsCaused old new writes_old writes_new fault
caused_read old new writes_old writes_new ReadFault same is = (is, same)
caused_read old new writes_old writes_new WriteFault same is = absurd is
caused_read old new writes_old writes_new NoMemory same is = record { reads = is; writes = same }

-- a frame's line was cut off
pub cut_off : (plan : Plan) (told left old new : Option (List ℕ)) (fault : RunFault) → (fault ≡ ReadFault → ⊥)
    → IfSome told (λ file. IsBrokenBehind [] plan file left old new) → AreCutOff plan told left old new fault
cut_off plan told left old new ReadFault none broken = absurd (none refl)
cut_off plan told left old new WriteFault none broken = broken
cut_off plan told left old new NoMemory none broken = tt

-- one call behind the other
pub read_further : (asked_old asked asked_new : List ℕ) (begun_old begun begun_new missed_old missed missed_new : ℕ)
    → IsReadOn asked_old asked begun_old begun missed_old missed → asked_new ≡ asked → begun_new ≡ begun → missed_new ≡ missed
    → IsReadOn asked_old asked_new begun_old begun_new missed_old missed_new
read_further asked_old asked asked_new begun_old begun begun_new missed_old missed missed_new on same_asked same_begun same_missed = record {
  asked = same_asked ∙ on.asked;
  begun = same_begun ∙ on.begun;
  missed = same_missed ∙ on.missed;
}
