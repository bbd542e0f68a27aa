-- What reads leave of a capture, and what they count.
use Rattle.std.specs.Prelude.{◌≡◌, ◌≢◌, ◌≤◌, ℕ, Bool, List, Option}
use Rattle.pk_outside.specs.Outside.{Rose}
use Rattle.capture_read.specs.declared.read_error.ReadError.{ReadError}
use Rattle.capture_read.specs.declared.read_error.ReadError.TheVariants.{NoMemory, ReadFault, Spent}

-- the files, and what is told of the calls that begin one, stay as they are
pub record StaysBegun (file_old file_new : List ℕ → Option (List ℕ)) (asked_old asked_new : List ℕ)
    (refused_old refused_new : Bool) (begun_old begun_new missed_old missed_new : ℕ) : Type 0 where
  pub file : (n : List ℕ) → file_new n ≡ file_old n
  pub asked : asked_new ≡ asked_old
  pub refused : refused_new ≡ refused_old
  pub begun : begun_new ≡ begun_old
  pub missed : missed_new ≡ missed_old

-- why there is no answer, and the count of failed reads: no other fault is counted as one
pub record CountsFault (error : ReadError) (old new : ℕ) : Type 0 where
  pub fault : error ≡ ReadFault → Rose old new
  pub starved : error ≡ NoMemory → new ≡ old
  pub spent : error ≢ Spent
  pub stay : old ≤ new
