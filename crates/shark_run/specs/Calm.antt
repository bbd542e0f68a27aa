-- Each fault of the outside is told, and as no other.
use Rattle.std.specs.Prelude.{◌≡◌, ◌≢◌, ℕ}
use Rattle.run_words.specs.declared.outcome.Outcome.{Outcome}
use Rattle.run_words.specs.declared.outcome.Outcome.TheVariants as outcome
use Rattle.run_words.specs.declared.status.Status.{Status}
use Rattle.run_words.specs.declared.status.Status.TheVariants as status

-- the counts of the begins, reads and writes that failed are as before, but for the one whose fault the status tells of
pub record TellsFaults (answer : Status) (missed_old missed_new reads_old reads_new writes_old writes_new : ℕ) : Type 0 where
  pub missed : answer ≢ status.CannotOpen → missed_new ≡ missed_old
  pub reads : answer ≢ status.ReadFault → reads_new ≡ reads_old
  pub writes : answer ≢ status.WriteFault → writes_new ≡ writes_old

-- the same of how carrying out a plan ended
pub record HasFaults (end : Outcome) (missed_old missed_new reads_old reads_new writes_old writes_new : ℕ) : Type 0 where
  pub missed : end ≢ outcome.CannotOpen → missed_new ≡ missed_old
  pub reads : end ≢ outcome.ReadFault → reads_new ≡ reads_old
  pub writes : end ≢ outcome.WriteFault → writes_new ≡ writes_old
