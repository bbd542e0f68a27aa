-- One more owner.
use Rattle.std.proofs.Common.{◌≡◌, ◌<◌, ℕ, Some, List, [], ◌∷◌, ◌++◌, append_assoc, ap, get_or, length, option_map, refl, slice_get, sym, ◌∙◌}
use Rattle.std.proofs.lemmas.List.{append-nil, map-append}
use Rattle.std.proofs.lemmas.Option.{slice_get-get_or, slice_get-map}
use Rattle.flt_code.specs.Owners.{Grows, IsOwned, Owner, owner_of, owners_of}
use Rattle.flt_code.specs.declared.owners.Owner.{Owner as OwnerRef}

pub get_last : {A : Type 0} (xs : List A) (x : A) → slice_get (xs ++ x ∷ []) (length xs) ≡ Some x
get_last [] x = refl
get_last (y ∷ ys) x = get_last ys x

pub owned_last : (old new : List OwnerRef) (o : OwnerRef) (owner : Owner) (r : ℕ) → owner_of o ≡ owner → new ≡ old ++ o ∷ [] → r ≡ length old → IsOwned (owners_of new) r owner
owned_last old new o owner r is more last =
    ap (λ xs. slice_get (owners_of xs) r) more ∙ ap (slice_get (owners_of (old ++ o ∷ []))) last
    ∙ slice_get-map owner_of (old ++ o ∷ []) (length old) ∙ ap (option_map owner_of) (get_last old o) ∙ ap Some is

pub owned_at : (os : List OwnerRef) (r : ℕ) (d : OwnerRef) (owner : Owner) → r < length os → owner_of (get_or os r d) ≡ owner → IsOwned (owners_of os) r owner
owned_at os r d owner less is = slice_get-map owner_of os r ∙ ap (option_map owner_of) (slice_get-get_or os r d less) ∙ ap Some is

pub owners_grow : (old new : List OwnerRef) (o : OwnerRef) → new ≡ old ++ o ∷ [] → Grows (owners_of old) (owners_of new)
owners_grow old new o more = (owner_of o ∷ [], ap owners_of more ∙ map-append owner_of old (o ∷ []))

pub grows_none : {A : Type 0} (old new : List A) → new ≡ old → Grows old new
grows_none old new same = ([], same ∙ sym (append-nil old))

pub grows_on : {A : Type 0} (a b c : List A) → Grows a b → Grows b c → Grows a c
grows_on a b c first second = (first.0 ++ second.0, second.1 ∙ ap (λ xs. xs ++ second.0) first.1 ∙ append_assoc a first.0 second.0)
