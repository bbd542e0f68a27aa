-- Why not all files were read, by the counts of the outside.
use Rattle.std.specs.Prelude.{◌≡◌, ◌≤◌, ℕ, suc, ◌+◌, Bool, true, List, take, slice_get, Option, Some, IfSome}
use Rattle.pk_outside.specs.Outside.{Rose}
use Rattle.merge_caps.specs.Reading.{files_of, are_too_large}

-- a `begin` of the file with this place among the names failed, and no more than those before it were begun
pub record IsUnopened (names : List (List ℕ)) (place missed_old missed_new begun_old begun_new : ℕ)
    (refused : Bool) (asked : List ℕ) : Type 0 where
  pub name : slice_get names place ≡ Some asked
  pub rose : Rose missed_old missed_new
  pub begun : begun_new ≤ begun_old + place
  pub last : refused ≡ true

-- a read of that file failed, which was begun, and no more than it and those before it were
pub record IsUnread (names : List (List ℕ))
    (place faults_old faults_new begun_old begun_new missed_old missed_new : ℕ)
    (asked : List ℕ) : Type 0 where
  pub name : slice_get names place ≡ Some asked
  pub rose : Rose faults_old faults_new
  pub begun : Rose begun_old begun_new
  pub few : begun_new ≤ begun_old + suc place
  pub not_missed : missed_new ≡ missed_old

-- the files up to this one are too large
abbrev pub IsLargeAt : (List ℕ → Option (List ℕ)) → List (List ℕ) → ℕ → Type 0
IsLargeAt tell names place =
    IfSome (files_of tell (take (suc place) names)) (λ files. are_too_large files ≡ true)
