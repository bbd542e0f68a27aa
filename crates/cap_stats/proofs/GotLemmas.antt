-- What stands at a place of a list that was changed.
use Rattle.std.proofs.Common.{◌≡◌, ◌<◌, ℕ, zero, suc, List, [], ◌∷◌, ◌++◌, length, Some, slice_get, refl, ap, arith}
use Rattle.std.specs.List.{slice_set}

-- one more behind it
pub got_last : {X : Type 0} (xs : List X) (x : X) → slice_get (xs ++ x ∷ []) (length xs) ≡ Some x
got_last [] x = refl
got_last (y ∷ xs) x = got_last xs x

pub got_before : {X : Type 0} (xs : List X) (x : X) (at : ℕ) → at < length xs → slice_get (xs ++ x ∷ []) at ≡ slice_get xs at
got_before [] x at within = absurd (omega (arith, within))
got_before (y ∷ xs) x zero within = refl
got_before (y ∷ xs) x (suc at) within = got_before xs x at (omega (arith, within))

pub got_elsewhere : {X : Type 0} (xs : List X) (x : X) (at : ℕ) → (at ≡ length xs → ⊥) → slice_get (xs ++ x ∷ []) at ≡ slice_get xs at
got_elsewhere [] x zero apart = absurd (apart refl)
got_elsewhere [] x (suc at) apart = refl
got_elsewhere (y ∷ xs) x zero apart = refl
got_elsewhere (y ∷ xs) x (suc at) apart = got_elsewhere xs x at (λ e. apart (ap suc e))

-- another at one place
pub got_set : {X : Type 0} (xs : List X) (at : ℕ) (x : X) → at < length xs → slice_get (slice_set xs at x) at ≡ Some x
got_set [] at x within = absurd (omega (arith, within))
got_set (y ∷ xs) zero x within = refl
got_set (y ∷ xs) (suc at) x within = got_set xs at x (omega (arith, within))

pub got_other : {X : Type 0} (xs : List X) (at : ℕ) (x : X) (other : ℕ) → (other ≡ at → ⊥) → slice_get (slice_set xs at x) other ≡ slice_get xs other
got_other [] at x other apart = refl
got_other (y ∷ xs) zero x zero apart = absurd (apart refl)
got_other (y ∷ xs) zero x (suc other) apart = refl
got_other (y ∷ xs) (suc at) x zero apart = refl
got_other (y ∷ xs) (suc at) x (suc other) apart = got_other xs at x other (λ e. apart (ap suc e))
