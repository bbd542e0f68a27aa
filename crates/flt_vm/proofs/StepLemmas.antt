-- What a step does, seen through the slots.
use Rattle.std.proofs.Common.{◌≡◌, ℕ, ◌+◌, ◌<◌, Bool as Truth, true, false, zero, suc, List, [], ◌∷◌, ◌++◌, map, length, Option, Some, None, Result, Ok, Err, IfOk, IsOkAnd, OnOk, not, option_map, get_or, slice_get, slice_set, option_to_list, filter_map, ap, sym, refl, ◌∙◌, subst}
use Rattle.std.proofs.lemmas.List.{get_or-set_same, map-set}
use Rattle.std.specs.List.{list_any}
use Rattle.std.proofs.lemmas.Option.{slice_get-get_or, slice_get-map}
use Rattle.flt_lists.specs.Called.{values_called}
use Rattle.flt_lists.specs.Pairs.{values_calculated}
use Rattle.flt_lists.specs.Passes.{compares, is_some_value, passes}
use Rattle.flt_lists.specs.Questions.{is_among, is_matched}
use Rattle.flt_syntax.specs.declared.ast.Arithmetic.{Arithmetic}
use Rattle.flt_syntax.specs.declared.ast.Choice.{Choice}
use Rattle.flt_syntax.specs.declared.ast.Function.{Function}
use Rattle.flt_syntax.specs.declared.ast.RangePart.{RangePart}
use Rattle.flt_typed.specs.declared.typed.Member.{Member}
use Rattle.flt_typed.specs.Arithmetic.{extreme_of}
use Rattle.flt_typed.specs.Calls.{is_nonzero, masked}
use Rattle.flt_typed.specs.Slices.{sliced}
use Rattle.flt_typed.specs.declared.arithmetic.Extreme.{Extreme}
use Rattle.flt_typed.specs.declared.relation.Relation.{Relation}
use Rattle.flt_vm.specs.Held.{Held, can_be_among, can_call, can_compare, can_compute, can_mask, can_search, can_slice, constant_held, kept_truth, plain, truth_held}
use Rattle.flt_vm.specs.Machine.{Job, Move, Goes, State, act, differs, kept, only_if, with_held, given, sets, fills, reads, jumps, tells}
use Rattle.flt_program.specs.declared.instr.Instr.{Instr}
use Rattle.flt_program.specs.declared.instr.Instr.TheVariants as instr
use Rattle.flt_vm.specs.Slots.{Does, IsHeld, flag_in, held_in, is_unset, place_behind, state_in}
use Rattle.flt_vm.specs.declared.slots.Flag.{Flag}
use Rattle.flt_vm.specs.declared.slots.Flag.TheVariants.{Known}
use Rattle.flt_vm.specs.declared.slots.Slot.{Slot}
use Rattle.flt_vm.specs.declared.slots.Slot.TheVariants as slots
use Rattle.flt_typed.specs.declared.constant.Constant.{Constant}
use Rattle.pk_tree.specs.FieldValues.{values_of}
use Rattle.pk_tree.specs.Trees.{TreeShown}
use Rattle.pk_base.specs.declared.chosen.Layers.{Layers}
use Rattle.pk_base.specs.declared.value.Value.{Value}
use Rattle.pk_base.specs.declared.value.Value.TheVariants.{Uint}

pub does_held : (register : Option (Option Held)) (go : Held → Move) (move : Move) → ((h : Held) → register ≡ Some (Some h) → Does (go h) move) → Does (with_held register go) move
does_held None go move d = tt
does_held (Some None) go move d = tt
does_held (Some (Some h)) go move d = d h refl

pub does_given : {A : Type 0} (x : Option A) (go : A → Move) (move : Move) → ((a : A) → x ≡ Some a → Does (go a) move) → Does (given x go) move
does_given None go move d = tt
does_given (Some a) go move d = d a refl

pub does_only : (b : Truth) (m move : Move) → Does m move → Does (only_if b m) move
does_only true m move d = d
does_only false m move d = tt

-- a register is set
pub set_goes : (tree : TreeShown) (at : ℕ) (flag : Flag) (all new : List Slot) (r : ℕ) (slot : Slot) (held : Held) → held_in tree slot ≡ Some held → new ≡ slice_set all r slot →
    Goes (state_in tree (at + 1) flag new) ≡ sets (state_in tree at flag all) r held
set_goes tree at flag all new r slot held is by =
    ap (λ registers. Goes (record { at = at + 1; flag = flag_in tree flag; registers = registers }))
    (ap (map (held_in tree)) by ∙ map-set (held_in tree) all r slot ∙ ap (slice_set (map (held_in tree) all) r) is)

-- a register is set, and the flag told
pub fill_goes : (tree : TreeShown) (at : ℕ) (old flag : Flag) (all new : List Slot) (r : ℕ) (slot : Slot) (held : Held) → held_in tree slot ≡ Some held → new ≡ slice_set all r slot →
    flag_in tree flag ≡ is_some_value held.values → Goes (state_in tree (at + 1) flag new) ≡ fills (state_in tree at old all) r held
fill_goes tree at old flag all new r slot held is by told =
    ap (λ registers. Goes (record { at = at + 1; flag = flag_in tree flag; registers = registers }))
    (ap (map (held_in tree)) by ∙ map-set (held_in tree) all r slot ∙ ap (slice_set (map (held_in tree) all) r) is)
    ∙ ap (λ truth. Goes (record { at = at + 1; flag = truth; registers = slice_set (map (held_in tree) all) r (Some held) })) told

set_same : {A : Type 0} (xs : List A) (i : ℕ) (x : A) → slice_get xs i ≡ Some x → slice_set xs i x ≡ xs
set_same [] i x is = refl
set_same (y ∷ ys) zero x is = cc
set_same (y ∷ ys) (suc i) x is = ap (λ zs. y ∷ zs) (set_same ys i x is)

pub held_at : (tree : TreeShown) (all : List Slot) (r : ℕ) (slot : Slot) → slice_get all r ≡ Some slot → slice_get (map (held_in tree) all) r ≡ Some (held_in tree slot)
held_at tree all r slot is = slice_get-map (held_in tree) all r ∙ ap (option_map (held_in tree)) is

-- what a register holds is what its slot stands for
pub held_got : (tree : TreeShown) (all : List Slot) (r : ℕ) (d : Slot) (h : Held) → IsHeld tree all r h → held_in tree (get_or all r d) ≡ Some h
held_got tree [] r d h is = cc
held_got tree (s ∷ all) zero d h is = let same : Some (held_in tree s) ≡ Some (Some h) = is in cc
held_got tree (s ∷ all) (suc r) d h is = held_got tree all r d h is

pub got_there : {A : Type 0} (xs : List A) (i : ℕ) (d x : A) → slice_get xs i ≡ Some x → get_or xs i d ≡ x
got_there [] i d x is = cc
got_there (y ∷ xs) zero d x is = cc
got_there (y ∷ xs) (suc i) d x is = got_there xs i d x is

-- the same of the slot that stands there
pub held_there : (tree : TreeShown) (all : List Slot) (r : ℕ) (s : Slot) (h : Held) → s ≡ get_or all r s → IsHeld tree all r h → held_in tree s ≡ Some h
held_there tree all r s h at is = ap (held_in tree) at ∙ held_got tree all r s h is

-- a read of an unset register, and of one that is set
pub read_unset : (tree : TreeShown) (at : ℕ) (old flag : Flag) (all new : List Slot) (r : ℕ) (slot now : Slot) (vs : List Value) → slice_get all r ≡ Some slot → held_in tree slot ≡ None →
    new ≡ slice_set all r now → held_in tree now ≡ Some (plain vs) → flag_in tree flag ≡ is_some_value vs → Goes (state_in tree (at + 1) flag new) ≡ reads (state_in tree at old all) r vs
read_unset tree at old flag all new r slot now vs is unset by set told =
    fill_goes tree at old flag all new r now (plain vs) set by told
    ∙ sym (ap (λ register. fills (state_in tree at old all) r (kept register (plain vs))) (held_at tree all r slot is ∙ ap Some unset))

pub read_set : (tree : TreeShown) (at : ℕ) (old flag : Flag) (all new : List Slot) (r : ℕ) (slot : Slot) (held : Held) (vs : List Value) → slice_get all r ≡ Some slot → held_in tree slot ≡ Some held →
    new ≡ all → flag_in tree flag ≡ is_some_value held.values → Goes (state_in tree (at + 1) flag new) ≡ reads (state_in tree at old all) r vs
read_set tree at old flag all new r slot held vs is set by told =
    let there = held_at tree all r slot is ∙ ap Some set in
    ap (λ registers. Goes (record { at = at + 1; flag = flag_in tree flag; registers = registers })) (ap (map (held_in tree)) by ∙ sym (set_same (map (held_in tree) all) r (Some held) there))
    ∙ ap (λ truth. Goes (record { at = at + 1; flag = truth; registers = slice_set (map (held_in tree) all) r (Some held) })) told
    ∙ sym (ap (λ register. fills (state_in tree at old all) r (kept register (plain vs))) there)

held_unset : (tree : TreeShown) (slot : Slot) → is_unset slot ≡ true → held_in tree slot ≡ None
held_unset tree slots.Unset is = refl
held_unset tree (slots.Field field layers) is = cc
held_unset tree (slots.Single c) is = cc
held_unset tree (slots.Truth truth) is = cc
held_unset tree (slots.Values vs) is = cc

pub held_set : (tree : TreeShown) (slot : Slot) → is_unset slot ≡ false → (held : Held) × (held_in tree slot ≡ Some held)
held_set tree slots.Unset is = cc
held_set tree (slots.Field field layers) is = (_, refl)
held_set tree (slots.Single c) is = (_, refl)
held_set tree (slots.Truth truth) is = (_, refl)
held_set tree (slots.Values vs) is = (_, refl)

-- the same, by what is read of the slots
pub reads_unset : (tree : TreeShown) (old flag : Flag) (all new : List Slot) (r : ℕ) (d e now : Slot) (vs : List Value) → r < length all → is_unset (get_or all r d) ≡ true →
    new ≡ slice_set all r now → held_in tree now ≡ Some (plain vs) → ((held : Held) → held_in tree (get_or new r e) ≡ Some held → flag_in tree flag ≡ is_some_value held.values) →
    (at : ℕ) → Goes (state_in tree (at + 1) flag new) ≡ reads (state_in tree at old all) r vs
reads_unset tree old flag all new r d e now vs less unset by set told at =
    read_unset tree at old flag all new r (get_or all r d) now vs (slice_get-get_or all r d less) (held_unset tree (get_or all r d) unset) by set
    (told (plain vs) (ap (held_in tree) (ap (λ xs. get_or xs r e) by ∙ get_or-set_same all r now e less) ∙ set))

pub reads_set : (tree : TreeShown) (old flag : Flag) (all new : List Slot) (r : ℕ) (d e : Slot) (vs : List Value) → r < length all → is_unset (get_or all r d) ≡ false →
    new ≡ all → ((held : Held) → held_in tree (get_or new r e) ≡ Some held → flag_in tree flag ≡ is_some_value held.values) →
    (at : ℕ) → Goes (state_in tree (at + 1) flag new) ≡ reads (state_in tree at old all) r vs
reads_set tree old flag all new r d e vs less set by told at =
    let there = slice_get-get_or all r d less in
    let is : get_or all r e ≡ get_or all r d = let same : Some (get_or all r e) ≡ Some (get_or all r d) = sym (slice_get-get_or all r e less) ∙ there in cc in
    let h = held_set tree (get_or all r d) set in
    read_set tree at old flag all new r (get_or all r d) h.0 vs there h.1 by
    (told h.0 (ap (held_in tree) (ap (λ xs. get_or xs r e) by ∙ is) ∙ h.1))

-- what is set to a value, or told, that was made
pub set_ok : {T E A F : Type 0} (r : Result T E) (made : Result A F) (P Q : A → Type 0) (G : Type 0) → OnOk r (IsOkAnd made Q) → IfOk made P → ((a : A) → P a → Q a → G) → OnOk r G
set_ok (Ok u) (Ok a) P Q G set are go = go a are set
set_ok (Ok u) (Err f) P Q G set are go = absurd set
set_ok (Err e) made P Q G set are go = set

-- an instruction by another name
pub does_same : (job : Job) (s : State) (i j : Instr) (move : Move) → i ≡ j → Does (act job s (Some j)) move → Does (act job s (Some i)) move
does_same job s i j move is does = subst (λ x. Does (act job s (Some x)) move) (sym is) does

pub read_does : (tree : TreeShown) (old flag : Flag) (all new : List Slot) (r field : ℕ) (layers : Layers) (at : ℕ) →
    Goes (state_in tree (at + 1) flag new) ≡ reads (state_in tree at old all) r (values_of tree field layers) → (job : Job) → job.tree ≡ tree →
    Does (act job (state_in tree at old all) (Some (instr.Read r field layers))) (Goes (state_in tree (at + 1) flag new))
unfolding act
read_does tree old flag all new r field layers at is job same = is ∙ ap (λ t. reads (state_in tree at old all) r (values_of t field layers)) (sym same)

pub const_does : (tree : TreeShown) (flag : Flag) (all new : List Slot) (r : ℕ) (c : Constant) (slot : Slot) → new ≡ slice_set all r slot → held_in tree slot ≡ Some (constant_held c) → (job : Job) (at : ℕ) →
    Does (act job (state_in tree at flag all) (Some (instr.Const r c))) (Goes (state_in tree (at + 1) flag new))
unfolding act
const_does tree flag all new r c slot by holds job at = set_goes tree at flag all new r slot (constant_held c) holds by

pub save_does : (tree : TreeShown) (flag : Flag) (all new : List Slot) (r : ℕ) (slot : Slot) → held_in tree slot ≡ Some (truth_held (flag_in tree flag)) → new ≡ slice_set all r slot → (job : Job) (at : ℕ) →
    Does (act job (state_in tree at flag all) (Some (instr.Save r))) (Goes (state_in tree (at + 1) flag new))
unfolding act
save_does tree flag all new r slot holds by job at = set_goes tree at flag all new r slot (truth_held (flag_in tree flag)) holds by

pub count_does : (tree : TreeShown) (all new : List Slot) (r field : ℕ) (layers : Layers) (vs : List Value) (slot : Slot) → held_in tree slot ≡ Some (plain vs) →
    vs ≡ Uint (length (values_of tree field layers)) ∷ [] → new ≡ slice_set all r slot → (job : Job) (at : ℕ) (flag : Flag) → job.tree ≡ tree →
    Does (act job (state_in tree at flag all) (Some (instr.Count r field layers))) (Goes (state_in tree (at + 1) flag new))
unfolding act
count_does tree all new r field layers vs slot holds are by job at flag same =
    set_goes tree at flag all new r slot (plain vs) holds by
    ∙ ap (λ x. sets (state_in tree at flag all) r (plain x)) (are ∙ ap (λ t. Uint (length (values_of t field layers)) ∷ []) (sym same))

-- what instructions do, by what their registers hold
pub slice_does : (tree : TreeShown) (old flag : Flag) (all new : List Slot) (r q : ℕ) (ranges : List RangePart) (vs : List Value) (slot : Slot) → held_in tree slot ≡ Some (plain vs) →
    ((h : Held) → IsHeld tree all q h → vs ≡ filter_map (λ value. sliced value ranges) h.values) → new ≡ slice_set all r slot → flag_in tree flag ≡ is_some_value vs → (job : Job) (at : ℕ) →
    Does (act job (state_in tree at old all) (Some (instr.Slice r q ranges))) (Goes (state_in tree (at + 1) flag new))
unfolding act
slice_does tree old flag all new r q ranges vs slot holds are by told job at =
    does_held (slice_get (map (held_in tree) all) q) (λ h. only_if (can_slice h) (fills (state_in tree at old all) r (plain (filter_map (λ value. sliced value ranges) h.values)))) (Goes (state_in tree (at + 1) flag new))
    (λ h set. does_only (can_slice h) (fills (state_in tree at old all) r (plain (filter_map (λ value. sliced value ranges) h.values))) (Goes (state_in tree (at + 1) flag new))
    (fill_goes tree at old flag all new r slot (plain vs) holds by told ∙ ap (λ x. fills (state_in tree at old all) r (plain x)) (are h set)))

pub mask_does : (tree : TreeShown) (all new : List Slot) (r q mask : ℕ) (vs : List Value) (slot : Slot) → held_in tree slot ≡ Some (plain vs) →
    ((h : Held) → IsHeld tree all q h → vs ≡ filter_map (λ value. masked mask value) h.values) → new ≡ slice_set all r slot → (job : Job) (at : ℕ) (flag : Flag) →
    Does (act job (state_in tree at flag all) (Some (instr.Mask r q mask))) (Goes (state_in tree (at + 1) flag new))
unfolding act
mask_does tree all new r q mask vs slot holds are by job at flag =
    does_held (slice_get (map (held_in tree) all) q) (λ h. only_if (can_mask h) (sets (state_in tree at flag all) r (plain (filter_map (λ value. masked mask value) h.values)))) (Goes (state_in tree (at + 1) flag new))
    (λ h set. does_only (can_mask h) (sets (state_in tree at flag all) r (plain (filter_map (λ value. masked mask value) h.values))) (Goes (state_in tree (at + 1) flag new))
    (set_goes tree at flag all new r slot (plain vs) holds by ∙ ap (λ x. sets (state_in tree at flag all) r (plain x)) (are h set)))

pub call_does : (tree : TreeShown) (all new : List Slot) (r : ℕ) (function : Function) (q : ℕ) (vs : List Value) (slot : Slot) → held_in tree slot ≡ Some (plain vs) →
    ((h : Held) → IsHeld tree all q h → vs ≡ values_called function h.values) → new ≡ slice_set all r slot → (job : Job) (at : ℕ) (flag : Flag) →
    Does (act job (state_in tree at flag all) (Some (instr.Call r function q))) (Goes (state_in tree (at + 1) flag new))
unfolding act
call_does tree all new r function q vs slot holds are by job at flag =
    does_held (slice_get (map (held_in tree) all) q) (λ h. only_if (can_call function h) (sets (state_in tree at flag all) r (plain (values_called function h.values)))) (Goes (state_in tree (at + 1) flag new))
    (λ h set. does_only (can_call function h) (sets (state_in tree at flag all) r (plain (values_called function h.values))) (Goes (state_in tree (at + 1) flag new))
    (set_goes tree at flag all new r slot (plain vs) holds by ∙ ap (λ x. sets (state_in tree at flag all) r (plain x)) (are h set)))

-- what two registers give
two_do : (tree : TreeShown) (all new : List Slot) (r p q : ℕ) (vs : List Value) (slot : Slot) (f : List Value → List Value → List Value) → held_in tree slot ≡ Some (plain vs) →
    ((g h : Held) → IsHeld tree all p g → IsHeld tree all q h → vs ≡ f g.values h.values) → new ≡ slice_set all r slot → (at : ℕ) (flag : Flag) →
    Does (with_held (slice_get (map (held_in tree) all) p) (λ g. with_held (slice_get (map (held_in tree) all) q) (λ h. only_if (can_compute g) (only_if (can_compute h)
    (sets (state_in tree at flag all) r (plain (f g.values h.values))))))) (Goes (state_in tree (at + 1) flag new))
two_do tree all new r p q vs slot f holds are by at flag =
    let end = Goes (state_in tree (at + 1) flag new) in
    let s = state_in tree at flag all in
    does_held (slice_get (map (held_in tree) all) p) (λ g. with_held (slice_get (map (held_in tree) all) q) (λ h. only_if (can_compute g) (only_if (can_compute h) (sets s r (plain (f g.values h.values)))))) end
    (λ g left. does_held (slice_get (map (held_in tree) all) q) (λ h. only_if (can_compute g) (only_if (can_compute h) (sets s r (plain (f g.values h.values))))) end
    (λ h right. does_only (can_compute g) (only_if (can_compute h) (sets s r (plain (f g.values h.values)))) end
    (does_only (can_compute h) (sets s r (plain (f g.values h.values))) end
    (set_goes tree at flag all new r slot (plain vs) holds by ∙ ap (λ x. sets s r (plain x)) (are g h left right)))))

pub compute_does : (tree : TreeShown) (all new : List Slot) (r : ℕ) (a : Arithmetic) (p q : ℕ) (vs : List Value) (slot : Slot) → held_in tree slot ≡ Some (plain vs) →
    ((g h : Held) → IsHeld tree all p g → IsHeld tree all q h → vs ≡ values_calculated a g.values h.values) → new ≡ slice_set all r slot → (job : Job) (at : ℕ) (flag : Flag) →
    Does (act job (state_in tree at flag all) (Some (instr.Compute r a p q))) (Goes (state_in tree (at + 1) flag new))
unfolding act
compute_does tree all new r a p q vs slot holds are by job at flag = two_do tree all new r p q vs slot (values_calculated a) holds are by at flag

pub choose_does : (tree : TreeShown) (all new : List Slot) (r : ℕ) (e : Extreme) (p q : ℕ) (vs : List Value) (slot : Slot) → held_in tree slot ≡ Some (plain vs) →
    ((g h : Held) → IsHeld tree all p g → IsHeld tree all q h → vs ≡ option_to_list (extreme_of e (g.values ++ h.values))) → new ≡ slice_set all r slot → (job : Job) (at : ℕ) (flag : Flag) →
    Does (act job (state_in tree at flag all) (Some (instr.Choose r e p q))) (Goes (state_in tree (at + 1) flag new))
unfolding act
choose_does tree all new r e p q vs slot holds are by job at flag = two_do tree all new r p q vs slot (λ xs ys. option_to_list (extreme_of e (xs ++ ys))) holds are by at flag

-- what tests tell
told : (tree : TreeShown) (all : List Slot) (at : ℕ) (flag : Flag) (truth other : Truth) → truth ≡ other → Goes (state_in tree (at + 1) (Known truth) all) ≡ tells (state_in tree at flag all) other
told tree all at flag truth other is = ap (λ t. Goes (record { at = at + 1; flag = t; registers = map (held_in tree) all })) is

pub test_does : (tree : TreeShown) (all : List Slot) (choice : Choice) (relation : Relation) (p q : ℕ) (truth : Truth) →
    ((g h : Held) → IsHeld tree all p g → IsHeld tree all q h → truth ≡ compares relation choice g.values h.values h.prefix) → (job : Job) (at : ℕ) (flag : Flag) →
    Does (act job (state_in tree at flag all) (Some (instr.Test choice relation p q))) (Goes (state_in tree (at + 1) (Known truth) all))
unfolding act
test_does tree all choice relation p q truth is job at flag =
    let end = Goes (state_in tree (at + 1) (Known truth) all) in
    let s = state_in tree at flag all in
    does_held (slice_get (map (held_in tree) all) p) (λ g. with_held (slice_get (map (held_in tree) all) q) (λ h. only_if (can_compare relation g h) (tells s (compares relation choice g.values h.values h.prefix)))) end
    (λ g left. does_held (slice_get (map (held_in tree) all) q) (λ h. only_if (can_compare relation g h) (tells s (compares relation choice g.values h.values h.prefix))) end
    (λ h right. does_only (can_compare relation g h) (tells s (compares relation choice g.values h.values h.prefix)) end (told tree all at flag truth (compares relation choice g.values h.values h.prefix) (is g h left right))))

pub in_does : (tree : TreeShown) (all : List Slot) (choice : Choice) (r : ℕ) (ms : List Member) (truth : Truth) → ((h : Held) → IsHeld tree all r h → truth ≡ passes choice (λ v. is_among ms v) h.values) → (job : Job) (at : ℕ) (flag : Flag) →
    Does (act job (state_in tree at flag all) (Some (instr.In choice r ms))) (Goes (state_in tree (at + 1) (Known truth) all))
unfolding act
in_does tree all choice r ms truth is job at flag =
    let end = Goes (state_in tree (at + 1) (Known truth) all) in
    let s = state_in tree at flag all in
    does_held (slice_get (map (held_in tree) all) r) (λ h. only_if (can_be_among ms h) (tells s (passes choice (λ v. is_among ms v) h.values))) end
    (λ h set. does_only (can_be_among ms h) (tells s (passes choice (λ v. is_among ms v) h.values)) end (told tree all at flag truth (passes choice (λ v. is_among ms v) h.values) (is h set)))

pub nonzero_does : (tree : TreeShown) (all : List Slot) (r : ℕ) (truth : Truth) → ((h : Held) → IsHeld tree all r h → truth ≡ list_any is_nonzero h.values) → (job : Job) (at : ℕ) (flag : Flag) →
    Does (act job (state_in tree at flag all) (Some (instr.NonZero r))) (Goes (state_in tree (at + 1) (Known truth) all))
unfolding act
nonzero_does tree all r truth is job at flag =
    let end = Goes (state_in tree (at + 1) (Known truth) all) in
    let s = state_in tree at flag all in
    does_held (slice_get (map (held_in tree) all) r) (λ h. only_if (can_mask h) (tells s (list_any is_nonzero h.values))) end
    (λ h set. does_only (can_mask h) (tells s (list_any is_nonzero h.values)) end (told tree all at flag truth (list_any is_nonzero h.values) (is h set)))

pub match_does : (tree : TreeShown) (all : List Slot) (choice : Choice) (r n : ℕ) (patterns : List (List ℕ)) (truth : Truth) →
    ((h : Held) (bytes : List ℕ) → IsHeld tree all r h → slice_get patterns n ≡ Some bytes → truth ≡ passes choice (λ v. is_matched bytes v) h.values) → (job : Job) → job.patterns ≡ patterns → (at : ℕ) (flag : Flag) →
    Does (act job (state_in tree at flag all) (Some (instr.Match choice r n))) (Goes (state_in tree (at + 1) (Known truth) all))
unfolding act
match_does tree all choice r n patterns truth is job same at flag =
    let end = Goes (state_in tree (at + 1) (Known truth) all) in
    let s = state_in tree at flag all in
    does_held (slice_get (map (held_in tree) all) r) (λ h. given (slice_get job.patterns n) (λ pattern. only_if (can_search h) (tells s (passes choice (λ v. is_matched pattern v) h.values)))) end
    (λ h set. does_given (slice_get job.patterns n) (λ pattern. only_if (can_search h) (tells s (passes choice (λ v. is_matched pattern v) h.values))) end
    (λ pattern there. does_only (can_search h) (tells s (passes choice (λ v. is_matched pattern v) h.values)) end
    (told tree all at flag truth (passes choice (λ v. is_matched pattern v) h.values) (is h pattern set (ap (λ x. slice_get x n) (sym same) ∙ there)))))

pub differ_does : (tree : TreeShown) (all : List Slot) (r : ℕ) (flag : Flag) (answer : Truth) →
    ((h : Held) (other : Truth) → IsHeld tree all r h → kept_truth h ≡ Some other → answer ≡ differs other (flag_in tree flag)) → (job : Job) (at : ℕ) → Does (act job (state_in tree at flag all) (Some (instr.Differ r))) (Goes (state_in tree (at + 1) (Known answer) all))
unfolding act
differ_does tree all r flag answer is job at =
    let end = Goes (state_in tree (at + 1) (Known answer) all) in
    let s = state_in tree at flag all in
    does_held (slice_get (map (held_in tree) all) r) (λ h. given (kept_truth h) (λ t. tells s (differs t s.flag))) end
    (λ h set. does_given (kept_truth h) (λ t. tells s (differs t s.flag)) end
    (λ t keeps. told tree all at flag answer (differs t (flag_in tree flag)) (is h t set keeps)))

pub turn_does : (tree : TreeShown) (all : List Slot) (flag : Flag) (truth : Truth) → truth ≡ not (flag_in tree flag) → (job : Job) (at : ℕ) →
    Does (act job (state_in tree at flag all) (Some instr.Not)) (Goes (state_in tree (at + 1) (Known truth) all))
unfolding act
turn_does tree all flag truth is job at = told tree all at flag truth (not (flag_in tree flag)) is

-- the same by a flag that is the truth
pub by_flag : (tree : TreeShown) (move : Move) (at : ℕ) (flag : Flag) (truth : Truth) (all : List Slot) → flag ≡ Known truth → Does move (Goes (state_in tree at (Known truth) all)) → Does move (Goes (state_in tree at flag all))
by_flag tree move at flag truth all is does = subst (λ f. Does move (Goes (state_in tree at f all))) (sym is) does

-- jumps: over so many instructions, or to the next one
jump_goes : (tree : TreeShown) (at : ℕ) (all : List Slot) (old new : Flag) (passes : Truth) (n : ℕ) → flag_in tree new ≡ flag_in tree old →
    Does (jumps (state_in tree at old all) passes n) (Goes (state_in tree (place_behind at passes n) new all))
jump_goes tree at all old new true n same = ap (λ t. Goes (record { at = at + 1 + n; flag = t; registers = map (held_in tree) all })) same
jump_goes tree at all old new false n same = ap (λ t. Goes (record { at = at + 1; flag = t; registers = map (held_in tree) all })) same

jump_to : (tree : TreeShown) (all : List Slot) (old new : Flag) (passes : Truth) (at place n : ℕ) → place ≡ place_behind at passes n → flag_in tree new ≡ flag_in tree old →
    Does (jumps (state_in tree at old all) passes n) (Goes (state_in tree place new all))
jump_to tree all old new passes at place n is same =
    subst (λ p. Does (jumps (state_in tree at old all) passes n) (Goes (state_in tree p new all))) (sym is) (jump_goes tree at all old new passes n same)

pub false_does : (tree : TreeShown) (all : List Slot) (old new : Flag) (at place n : ℕ) → place ≡ place_behind at (not (flag_in tree old)) n → flag_in tree new ≡ flag_in tree old → (job : Job) →
    Does (act job (state_in tree at old all) (Some (instr.JumpFalse n))) (Goes (state_in tree place new all))
unfolding act
false_does tree all old new at place n is same job = jump_to tree all old new (not (flag_in tree old)) at place n is same

pub true_does : (tree : TreeShown) (all : List Slot) (old new : Flag) (at place n : ℕ) → place ≡ place_behind at (flag_in tree old) n → flag_in tree new ≡ flag_in tree old → (job : Job) →
    Does (act job (state_in tree at old all) (Some (instr.JumpTrue n))) (Goes (state_in tree place new all))
unfolding act
true_does tree all old new at place n is same job = jump_to tree all old new (flag_in tree old) at place n is same
