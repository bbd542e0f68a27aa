-- What the registers of a compiled program are for: each has an owner, whose values it holds once it is set.
use Rattle.std.specs.Prelude.{◌≡◌, ℕ, List, ◌++◌, map, Some, slice_get, option_to_list}
use Rattle.flt_code.specs.declared.owners.Owner.{Owner as OwnerRef}
use Rattle.flt_code.specs.declared.owners.Owner.TheVariants as refs
use Rattle.flt_mean.specs.Meaning.{meaning}
use Rattle.flt_mean.specs.Values.{prefix_of_term, values_of_term}
use Rattle.flt_typed.specs.declared.typed.Term.{Term}
use Rattle.flt_typed.specs.declared.typed.Typed.{Typed}
use Rattle.flt_typed.specs.Arithmetic.{extreme_of}
use Rattle.flt_typed.specs.declared.arithmetic.Extreme.{Extreme}
use Rattle.flt_vm.specs.Held.{Held, plain, truth_held}
use Rattle.pk_tree.specs.Trees.{TreeShown}

-- a term's values, the least or the greatest of a term's numbers, or the truth of a part of the filter
pub data Owner : Type 0 where
  OfTerm : (term : Term) → Owner
  OfExtreme : (extreme : Extreme) (term : Term) → Owner
  OfPart : (part : Typed) → Owner

abbrev pub owner_of : OwnerRef → Owner
owner_of (refs.OfTerm term) = OfTerm term.now
owner_of (refs.OfExtreme extreme term) = OfExtreme extreme term.now
owner_of (refs.OfPart part) = OfPart part.now

abbrev pub owners_of : List OwnerRef → List Owner
owners_of refs = map owner_of refs

abbrev pub IsOwned : List Owner → ℕ → Owner → Type 0
IsOwned owners register owner = slice_get owners register ≡ Some owner

-- what a register of an owner holds in a tree
abbrev pub held : TreeShown → Owner → Held
held tree (OfTerm term) =
    record { values = values_of_term term tree; prefix = prefix_of_term term }
held tree (OfExtreme extreme term) =
    plain (option_to_list (extreme_of extreme (values_of_term term tree)))
held tree (OfPart part) = truth_held (meaning part tree)

-- there are more owners than before
abbrev pub Grows : {A : Type 0} → List A → List A → Type 0
Grows {A = A} old new = (more : List A) × (new ≡ old ++ more)
