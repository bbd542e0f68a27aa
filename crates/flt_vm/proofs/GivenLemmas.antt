-- What a step takes is there where the step is.
use Rattle.std.proofs.Common.{◌≡◌, ℕ, zero, suc, ◌+◌, ◌<◌, Bool as Truth, true, false, List, [], ◌∷◌, length, map, get_or, Option, Some, None, slice_get, slice_set, is_some, ap, sym, refl, ◌∙◌, subst, arith}
use Rattle.std.proofs.lemmas.Option.{slice_get_read, slice_get_within}
use Rattle.flt_vm.proofs.StepLemmas.{held_there}
use Rattle.flt_vm.specs.Given.{Finds, takes_of}
use Rattle.flt_vm.specs.Held.{Held, kept_truth}
use Rattle.flt_vm.specs.Machine.{Job, Move, act, given, with_held}
use Rattle.flt_program.specs.Programs.{Fits}
use Rattle.flt_vm.specs.Slots.{HasRegisters, IsGiven, IsHeld, IsKept, IsSet, IsThere, acts, held_in, is_unset, state_in, truth_in, truth_of}
use Rattle.flt_vm.specs.declared.given.Takes.{Takes}
use Rattle.flt_program.specs.declared.instr.Instr.{Instr}
use Rattle.flt_program.specs.declared.instr.Instr.TheVariants as instr
use Rattle.flt_vm.specs.declared.slots.Flag.{Flag}
use Rattle.flt_vm.specs.declared.slots.Slot.{Slot}
use Rattle.flt_vm.specs.declared.slots.Slot.TheVariants as slots
use Rattle.pk_tree.specs.Trees.{TreeShown}

held_by : (register : Option (Option Held)) (go : Held → Move) → IsThere (with_held register go) → (h : Held) × (register ≡ Some (Some h)) × IsThere (go h)
held_by None go there = absurd there
held_by (Some None) go there = absurd there
held_by (Some (Some h)) go there = (h, refl, there)

given_by : {A : Type 0} (x : Option A) (go : A → Move) → IsThere (given x go) → (a : A) × (x ≡ Some a) × IsThere (go a)
given_by None go there = absurd there
given_by (Some a) go there = (a, refl, there)

slot_set : (tree : TreeShown) (slot : Slot) (h : Held) → held_in tree slot ≡ Some h → is_unset slot ≡ false
slot_set tree slots.Unset h is = cc
slot_set tree (slots.Field field layers) h is = refl
slot_set tree (slots.Single c) h is = refl
slot_set tree (slots.Truth truth) h is = refl
slot_set tree (slots.Values vs) h is = refl

-- a register that holds something is set
is_set : (tree : TreeShown) (all : List Slot) (q : ℕ) (h : Held) → IsHeld tree all q h → IsSet all q
is_set tree all q h held = λ slot at. slot_set tree slot h (held_there tree all q slot h at held)

set_by : (tree : TreeShown) (all : List Slot) (q : ℕ) (go : Held → Move) → IsThere (with_held (slice_get (map (held_in tree) all) q) go) → IsSet all q
set_by tree all q go there = let by = held_by (slice_get (map (held_in tree) all) q) go there in is_set tree all q by.0 by.1

both_set : (tree : TreeShown) (all : List Slot) (p q : ℕ) (go : Held → Held → Move) →
    IsThere (with_held (slice_get (map (held_in tree) all) p) (λ g. with_held (slice_get (map (held_in tree) all) q) (go g))) → IsSet all p × IsSet all q
both_set tree all p q go there =
    let left = held_by (slice_get (map (held_in tree) all) p) (λ g. with_held (slice_get (map (held_in tree) all) q) (go g)) there in
    (is_set tree all p left.0 left.1, set_by tree all q (go left.0) left.2)

kept_by : (tree : TreeShown) (all : List Slot) (r : ℕ) (go : Truth → Move) → IsThere (with_held (slice_get (map (held_in tree) all) r) (λ h. given (kept_truth h) go)) → IsKept tree all r
kept_by tree all r go there =
    let by = held_by (slice_get (map (held_in tree) all) r) (λ h. given (kept_truth h) go) there in
    let keeps = given_by (kept_truth by.0) go by.2 in
    λ slot at. (keeps.0, ap truth_of (held_there tree all r slot by.0 at by.1) ∙ keeps.1)

found_by : (tree : TreeShown) (all : List Slot) (r n : ℕ) (patterns : List (List ℕ)) (go : Held → List ℕ → Move) →
    IsThere (with_held (slice_get (map (held_in tree) all) r) (λ h. given (slice_get patterns n) (go h))) → IsSet all r × (n < length patterns)
found_by tree all r n patterns go there =
    let by = held_by (slice_get (map (held_in tree) all) r) (λ h. given (slice_get patterns n) (go h)) there in
    let pattern = given_by (slice_get patterns n) (go by.0) by.2 in
    (is_set tree all r by.0 by.1, slice_get_within patterns n pattern.0 pattern.1)

-- what an instruction takes is there where its step is
pub is_given : (job : Job) (tree : TreeShown) (at : ℕ) (flag : Flag) (all : List Slot) (i : Instr) → IsThere (act job (state_in tree at flag all) (Some i)) → IsGiven tree job.patterns all i
unfolding act
is_given job tree at flag all (instr.Read r field layers) there = tt
is_given job tree at flag all (instr.Const r c) there = tt
is_given job tree at flag all (instr.Slice r q ranges) there = set_by tree all q _ there
is_given job tree at flag all (instr.Mask r q mask) there = set_by tree all q _ there
is_given job tree at flag all (instr.Call r function q) there = set_by tree all q _ there
is_given job tree at flag all (instr.Count r field layers) there = tt
is_given job tree at flag all (instr.Compute r operation p q) there = both_set tree all p q _ there
is_given job tree at flag all (instr.Choose r extreme p q) there = both_set tree all p q _ there
is_given job tree at flag all (instr.Save r) there = tt
is_given job tree at flag all (instr.Test choice relation p q) there = both_set tree all p q _ there
is_given job tree at flag all (instr.In choice r ms) there = set_by tree all r _ there
is_given job tree at flag all (instr.Match choice r n) there = found_by tree all r n job.patterns _ there
is_given job tree at flag all (instr.NonZero r) there = set_by tree all r _ there
is_given job tree at flag all instr.Not there = tt
is_given job tree at flag all (instr.Differ r) there = kept_by tree all r _ there
is_given job tree at flag all (instr.JumpFalse n) there = tt
is_given job tree at flag all (instr.JumpTrue n) there = tt
is_given job tree at flag all instr.Return there = tt

-- a register that is set stays so where another one, or the same, is set
stays_set : (all : List Slot) (q r : ℕ) (slot : Slot) → is_unset slot ≡ false → IsSet all r → IsSet (slice_set all q slot) r
stays_set [] q r slot set is = is
stays_set (s ∷ all) zero zero slot set is = λ other at. ap is_unset at ∙ set
stays_set (s ∷ all) zero (suc r) slot set is = is
stays_set (s ∷ all) (suc q) zero slot set is = is
stays_set (s ∷ all) (suc q) (suc r) slot set is = stays_set all q r slot set is

pub put_stays : (all new : List Slot) (q r : ℕ) (slot : Slot) → new ≡ slice_set all q slot → is_unset slot ≡ false → IsSet all r → IsSet new r
put_stays all new q r slot by set is = subst (λ (xs : List Slot). IsSet xs r) (sym by) (stays_set all q r slot set is)

-- an instruction's registers, and that there is one behind it
pub has_registers : (count size at : ℕ) (i : Instr) → Fits count size at i → HasRegisters count i
has_registers count size at (instr.Read r field layers) fits = fits.0
has_registers count size at (instr.Const r c) fits = fits.0
has_registers count size at (instr.Slice r q ranges) fits = (fits.0, fits.1)
has_registers count size at (instr.Mask r q mask) fits = (fits.0, fits.1)
has_registers count size at (instr.Call r function q) fits = (fits.0, fits.1)
has_registers count size at (instr.Count r field layers) fits = fits.0
has_registers count size at (instr.Compute r operation p q) fits = (fits.0, fits.1, fits.2)
has_registers count size at (instr.Choose r extreme p q) fits = (fits.0, fits.1, fits.2)
has_registers count size at (instr.Save r) fits = fits.0
has_registers count size at (instr.Test choice relation p q) fits = (fits.0, fits.1)
has_registers count size at (instr.In choice r ms) fits = fits.0
has_registers count size at (instr.Match choice r n) fits = fits.0
has_registers count size at (instr.NonZero r) fits = fits.0
has_registers count size at instr.Not fits = tt
has_registers count size at (instr.Differ r) fits = fits.0
has_registers count size at (instr.JumpFalse n) fits = tt
has_registers count size at (instr.JumpTrue n) fits = tt
has_registers count size at instr.Return fits = tt

pub has_next : (count size at : ℕ) (i : Instr) → Fits count size at i → acts i ≡ true → at + 1 < size
has_next count size at (instr.Read r field layers) fits on = fits.1
has_next count size at (instr.Const r c) fits on = fits.1
has_next count size at (instr.Slice r q ranges) fits on = fits.2
has_next count size at (instr.Mask r q mask) fits on = fits.2
has_next count size at (instr.Call r function q) fits on = fits.2
has_next count size at (instr.Count r field layers) fits on = fits.1
has_next count size at (instr.Compute r operation p q) fits on = fits.3
has_next count size at (instr.Choose r extreme p q) fits on = fits.3
has_next count size at (instr.Save r) fits on = fits.1
has_next count size at (instr.Test choice relation p q) fits on = fits.2
has_next count size at (instr.In choice r ms) fits on = fits.1
has_next count size at (instr.Match choice r n) fits on = fits.1
has_next count size at (instr.NonZero r) fits on = fits.1
has_next count size at instr.Not fits on = fits
has_next count size at (instr.Differ r) fits on = fits.1
has_next count size at (instr.JumpFalse n) fits on = cc
has_next count size at (instr.JumpTrue n) fits on = cc
has_next count size at instr.Return fits on = cc

-- by what is seen of a slot
same_slot : (all : List Slot) (q : ℕ) (slot other : Slot) → q < length all → slot ≡ get_or all q slot → other ≡ get_or all q other → slot ≡ other
same_slot all q slot other less at there =
    let one = slice_get_read all (length all) q slot refl less at in
    let two = slice_get_read all (length all) q other refl less there in
    let same : Some slot ≡ Some other = sym one ∙ two in
    cc

pub set_where : (all : List Slot) (q : ℕ) (slot : Slot) → q < length all → slot ≡ get_or all q slot → is_unset slot ≡ false → IsSet all q
set_where all q slot less at set = λ other there. ap is_unset (sym (same_slot all q slot other less at there)) ∙ set

kept_where : (tree : TreeShown) (all : List Slot) (q : ℕ) (slot : Slot) (truth : Truth) → q < length all → slot ≡ get_or all q slot → truth_in tree slot ≡ Some truth → IsKept tree all q
kept_where tree all q slot truth less at keeps = λ other there. (truth, ap (truth_in tree) (sym (same_slot all q slot other less at there)) ∙ keeps)

pub kept_some : (tree : TreeShown) (all : List Slot) (q : ℕ) (slot : Slot) (kept : Option Truth) → q < length all → slot ≡ get_or all q slot → kept ≡ truth_in tree slot → is_some kept ≡ true → IsKept tree all q
kept_some tree all q slot None less at is some = cc
kept_some tree all q slot (Some truth) less at is some = kept_where tree all q slot truth less at (sym is)

pub kept_set : (tree : TreeShown) (slot : Slot) (truth : Truth) → truth_in tree slot ≡ Some truth → is_unset slot ≡ false
kept_set tree slots.Unset truth keeps = cc
kept_set tree (slots.Field field layers) truth keeps = refl
kept_set tree (slots.Single c) truth keeps = refl
kept_set tree (slots.Truth t) truth keeps = refl
kept_set tree (slots.Values vs) truth keeps = refl

pub finds_given : (tree : TreeShown) (patterns : List (List ℕ)) (all : List Slot) (i : Instr) → Finds tree patterns all (takes_of i) → IsGiven tree patterns all i
finds_given tree patterns all (instr.Read r field layers) finds = tt
finds_given tree patterns all (instr.Const r c) finds = tt
finds_given tree patterns all (instr.Slice r q ranges) finds = finds
finds_given tree patterns all (instr.Mask r q mask) finds = finds
finds_given tree patterns all (instr.Call r function q) finds = finds
finds_given tree patterns all (instr.Count r field layers) finds = tt
finds_given tree patterns all (instr.Compute r operation p q) finds = finds
finds_given tree patterns all (instr.Choose r extreme p q) finds = finds
finds_given tree patterns all (instr.Save r) finds = tt
finds_given tree patterns all (instr.Test choice relation p q) finds = finds
finds_given tree patterns all (instr.In choice r ms) finds = finds
finds_given tree patterns all (instr.Match choice r n) finds = finds
finds_given tree patterns all (instr.NonZero r) finds = finds
finds_given tree patterns all instr.Not finds = tt
finds_given tree patterns all (instr.Differ r) finds = finds
finds_given tree patterns all (instr.JumpFalse n) finds = tt
finds_given tree patterns all (instr.JumpTrue n) finds = tt
finds_given tree patterns all instr.Return finds = tt

pub taken_given : (tree : TreeShown) (patterns : List (List ℕ)) (all : List Slot) (i : Instr) (takes : Takes) → takes ≡ takes_of i → Finds tree patterns all takes → IsGiven tree patterns all i
taken_given tree patterns all i takes is finds = finds_given tree patterns all i (subst (λ (t : Takes). Finds tree patterns all t) is finds)

-- and the other way round
pub set_inside : (all : List Slot) (q : ℕ) → IsSet all q → q < length all
set_inside [] q set = let none = set slots.Unset refl in cc
set_inside (s ∷ all) zero set = omega arith
set_inside (s ∷ all) (suc q) set = let less = set_inside all q set in omega (arith, less)

pub kept_is_set : (tree : TreeShown) (all : List Slot) (q : ℕ) → IsKept tree all q → IsSet all q
kept_is_set tree all q kept = λ slot at. let k = kept slot at in kept_set tree slot k.0 k.1

given_finds : (tree : TreeShown) (patterns : List (List ℕ)) (all : List Slot) (i : Instr) → IsGiven tree patterns all i → Finds tree patterns all (takes_of i)
given_finds tree patterns all (instr.Read r field layers) given = tt
given_finds tree patterns all (instr.Const r c) given = tt
given_finds tree patterns all (instr.Slice r q ranges) given = given
given_finds tree patterns all (instr.Mask r q mask) given = given
given_finds tree patterns all (instr.Call r function q) given = given
given_finds tree patterns all (instr.Count r field layers) given = tt
given_finds tree patterns all (instr.Compute r operation p q) given = given
given_finds tree patterns all (instr.Choose r extreme p q) given = given
given_finds tree patterns all (instr.Save r) given = tt
given_finds tree patterns all (instr.Test choice relation p q) given = given
given_finds tree patterns all (instr.In choice r ms) given = given
given_finds tree patterns all (instr.Match choice r n) given = given
given_finds tree patterns all (instr.NonZero r) given = given
given_finds tree patterns all instr.Not given = tt
given_finds tree patterns all (instr.Differ r) given = given
given_finds tree patterns all (instr.JumpFalse n) given = tt
given_finds tree patterns all (instr.JumpTrue n) given = tt
given_finds tree patterns all instr.Return given = tt

pub given_taken : (tree : TreeShown) (patterns : List (List ℕ)) (all : List Slot) (i : Instr) (takes : Takes) → takes ≡ takes_of i → IsGiven tree patterns all i → Finds tree patterns all takes
given_taken tree patterns all i takes is given = subst (λ (t : Takes). Finds tree patterns all t) (sym is) (given_finds tree patterns all i given)
