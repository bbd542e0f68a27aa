-- What the registers hold while a compiled program runs: each is unset, or holds what its owner has in the tree.
use Rattle.std.proofs.Common.{◌≡◌, ℕ, zero, suc, List, [], ◌∷◌, length, replicate, Option, Some, None, slice_get, slice_set, ap, sym, refl}
use Rattle.flt_code.specs.Owners.{IsOwned, Owner, held}
use Rattle.flt_vm.specs.Held.{Held}
use Rattle.flt_vm.specs.Machine.{kept}
use Rattle.pk_tree.specs.Trees.{TreeShown}

abbrev pub IsOf : TreeShown → Owner → Option Held → Type 0
IsOf tree o None = Unit {0}
IsOf tree o (Some h) = h ≡ held tree o

abbrev pub AreTrue : TreeShown → List Owner → List (Option Held) → Type 0
AreTrue tree [] [] = Unit {0}
AreTrue tree (o ∷ os) (r ∷ rs) = IsOf tree o r × AreTrue tree os rs
AreTrue tree os rs = ⊥

-- at the start no register is set
pub unset_true : (tree : TreeShown) (os : List Owner) → AreTrue tree os (replicate (length os) None)
unset_true tree [] = tt
unset_true tree (o ∷ os) = (tt, unset_true tree os)

none_some : {A : Type 0} {x : A} → None ≡ Some x → ⊥
none_some e = cc

is_of : (tree : TreeShown) (o p : Owner) (g h : Held) → Some p ≡ Some o → Some (Some g) ≡ Some (Some h) → g ≡ held tree p → h ≡ held tree o
is_of tree o p g h own set is = cc

-- what a register that is set holds
pub true_held : (tree : TreeShown) (os : List Owner) (rs : List (Option Held)) (r : ℕ) (o : Owner) (h : Held) → AreTrue tree os rs → IsOwned os r o → slice_get rs r ≡ Some (Some h) → h ≡ held tree o
true_held tree [] [] r o h are own set = absurd (none_some own)
true_held tree [] (x ∷ rs) r o h are own set = absurd are
true_held tree (p ∷ os) [] r o h are own set = absurd are
true_held tree (p ∷ os) (None ∷ rs) zero o h are own set = cc
true_held tree (p ∷ os) (Some g ∷ rs) zero o h are own set = is_of tree o p g h own set are.0
true_held tree (p ∷ os) (x ∷ rs) (suc r) o h are own set = true_held tree os rs r o h are.1 own set

-- a register is set to what its owner has
pub true_set : (tree : TreeShown) (os : List Owner) (rs : List (Option Held)) (r : ℕ) (o : Owner) → AreTrue tree os rs → IsOwned os r o → AreTrue tree os (slice_set rs r (Some (held tree o)))
true_set tree [] [] r o are own = tt
true_set tree [] (x ∷ rs) r o are own = absurd are
true_set tree (p ∷ os) [] r o are own = absurd are
true_set tree (p ∷ os) (x ∷ rs) zero o are own = (let same : o ≡ p = cc in ap (held tree) same, are.1)
true_set tree (p ∷ os) (x ∷ rs) (suc r) o are own = (are.0, true_set tree os rs r o are.1 own)

pub set_there : (tree : TreeShown) (os : List Owner) (rs : List (Option Held)) (r : ℕ) (o : Owner) (h : Held) → AreTrue tree os rs → IsOwned os r o → slice_get (slice_set rs r (Some h)) r ≡ Some (Some h)
set_there tree [] [] r o h are own = absurd (none_some own)
set_there tree [] (x ∷ rs) r o h are own = absurd are
set_there tree (p ∷ os) [] r o h are own = absurd are
set_there tree (p ∷ os) (x ∷ rs) zero o h are own = refl
set_there tree (p ∷ os) (x ∷ rs) (suc r) o h are own = set_there tree os rs r o h are.1 own

-- what was set before stays as it was
pub set_kept : (tree : TreeShown) (os : List Owner) (rs : List (Option Held)) (r : ℕ) (o : Owner) → AreTrue tree os rs → IsOwned os r o → (q : ℕ) (g : Held) → slice_get rs q ≡ Some (Some g) →
    slice_get (slice_set rs r (Some (held tree o))) q ≡ Some (Some g)
set_kept tree [] [] r o are own q g set = absurd (none_some own)
set_kept tree [] (x ∷ rs) r o are own q g set = absurd are
set_kept tree (p ∷ os) [] r o are own q g set = absurd are
set_kept tree (p ∷ os) (x ∷ rs) zero o are own zero g set = ap (λ h. Some (Some h)) (sym (true_held tree (p ∷ os) (x ∷ rs) zero o g are own set))
set_kept tree (p ∷ os) (x ∷ rs) zero o are own (suc q) g set = set
set_kept tree (p ∷ os) (x ∷ rs) (suc r) o are own zero g set = set
set_kept tree (p ∷ os) (x ∷ rs) (suc r) o are own (suc q) g set = set_kept tree os rs r o are.1 own q g set

-- what a read leaves is the owner's, whether the register was set before or not
pub kept_true : (tree : TreeShown) (os : List Owner) (rs : List (Option Held)) (r : ℕ) (o : Owner) → AreTrue tree os rs → IsOwned os r o → kept (slice_get rs r) (held tree o) ≡ held tree o
kept_true tree [] [] r o are own = absurd (none_some own)
kept_true tree [] (x ∷ rs) r o are own = absurd are
kept_true tree (p ∷ os) [] r o are own = absurd are
kept_true tree (p ∷ os) (None ∷ rs) zero o are own = refl
kept_true tree (p ∷ os) (Some g ∷ rs) zero o are own = true_held tree (p ∷ os) (Some g ∷ rs) zero o g are own refl
kept_true tree (p ∷ os) (x ∷ rs) (suc r) o are own = kept_true tree os rs r o are.1 own
