-- What the counts of the outside say of a fault.
use Rattle.std.specs.Prelude.{◌≡◌, ◌≤◌, ℕ, ◌+◌, List}
use Rattle.pk_outside.specs.Outside.{Rose}

-- a `begin` of the named file failed, and no other file was begun
pub record IsUnopened (missed_old missed_new begun_old begun_new : ℕ) (asked name : List ℕ) : Type 0 where
  pub rose : Rose missed_old missed_new
  pub not_begun : begun_new ≡ begun_old
  pub asked_name : asked ≡ name

-- the named file was begun, once, and a read of it failed
pub record IsUnread (faults_old faults_new begun_old begun_new missed_old missed_new : ℕ) (asked name : List ℕ) : Type 0 where
  pub rose : Rose faults_old faults_new
  pub begun : Rose begun_old begun_new
  pub begun_once : begun_new ≤ begun_old + 1
  pub not_missed : missed_new ≡ missed_old
  pub asked_name : asked ≡ name
