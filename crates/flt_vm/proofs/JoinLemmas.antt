-- READ, CONST and TEST at once: three steps.
use Rattle.std.proofs.Common.{◌≡◌, ℕ, ◌+◌, ◌<◌, Bool as Truth, zero, suc, List, [], ◌∷◌, length, Some, slice_get, slice_set, ap, sym, refl, ◌∙◌, subst, arith}
use Rattle.flt_lists.specs.Passes.{compares}
use Rattle.flt_syntax.specs.declared.ast.Choice.{Choice}
use Rattle.flt_typed.specs.declared.constant.Constant.{Constant}
use Rattle.flt_typed.specs.declared.relation.Relation.{Relation}
use Rattle.flt_vm.proofs.RunLemmas.{begun, run_on, step_at}
use Rattle.flt_vm.proofs.StepLemmas.{const_does, held_at, read_does, test_does}
use Rattle.flt_vm.specs.Held.{Held, constant_held}
use Rattle.flt_vm.specs.Machine.{Job, Goes, act, reads}
use Rattle.flt_vm.specs.Slots.{Does, IsHeld, LeadsTo, held_in, state_in}
use Rattle.flt_program.specs.declared.instr.Instr.{Instr}
use Rattle.flt_program.specs.declared.instr.Instr.TheVariants as instr
use Rattle.flt_vm.specs.declared.slots.Flag.{Flag}
use Rattle.flt_vm.specs.declared.slots.Flag.TheVariants.{Known}
use Rattle.flt_vm.specs.declared.slots.Slot.{Slot}
use Rattle.pk_tree.specs.FieldValues.{values_of}
use Rattle.pk_tree.specs.Trees.{TreeShown}
use Rattle.pk_base.specs.declared.chosen.Layers.{Layers}

-- no step
pub stays : (job : Job) (tree : TreeShown) (at : ℕ) (flag : Flag) (all : List Slot) → LeadsTo job (state_in tree at flag all) (state_in tree (at + 0) flag all) 0
stays job tree at flag all =
    let same : at ≡ at + 0 = omega arith in
    subst (λ n. LeadsTo job (state_in tree at flag all) (state_in tree n flag all) 0) same (begun job (state_in tree at flag all))

set_there : {A : Type 0} (xs : List A) (i : ℕ) (x : A) → i < length xs → slice_get (slice_set xs i x) i ≡ Some x
set_there [] i x less = let none : ⊥ = omega (arith, less) in absurd none
set_there (y ∷ ys) zero x less = refl
set_there (y ∷ ys) (suc i) x less = set_there ys i x (omega (arith, less))

-- what a register holds that was set
held_now : (tree : TreeShown) (all new : List Slot) (q : ℕ) (slot : Slot) (held h : Held) → q < length all → new ≡ slice_set all q slot → held_in tree slot ≡ Some held → IsHeld tree new q h → held ≡ h
held_now tree all new q slot held h less by holds is =
    let there = held_at tree new q slot (ap (λ xs. slice_get xs q) by ∙ set_there all q slot less) ∙ ap Some holds in
    let same : Some (Some held) ≡ Some (Some h) = sym there ∙ is in
    cc

-- three steps are one way
three_on : (job : Job) (tree : TreeShown) (at : ℕ) (old told truth : Flag) (all one two : List Slot) (first second third : Instr) → slice_get job.code at ≡ Some first → slice_get job.code (at + 1) ≡ Some second → slice_get job.code (at + 2) ≡ Some third →
    Does (act job (state_in tree at old all) (Some first)) (Goes (state_in tree (at + 1) told one)) → ((n : ℕ) → Does (act job (state_in tree n told one) (Some second)) (Goes (state_in tree (n + 1) told two))) →
    ((n : ℕ) → Does (act job (state_in tree n told two) (Some third)) (Goes (state_in tree (n + 1) truth two))) → LeadsTo job (state_in tree at old all) (state_in tree (at + 3) truth two) 3
three_on job tree at old told truth all one two first second third there here behind read const test =
    let s0 = state_in tree at old all in
    let s1 = state_in tree (at + 1) told one in
    let s2 = state_in tree (at + 2) told two in
    let s3 = state_in tree (at + 3) truth two in
    let to2 : at + 1 + 1 ≡ at + 2 = omega arith in
    let to3 : at + 2 + 1 ≡ at + 3 = omega arith in
    let d1 = step_at job s0 first (Goes s1) there read in
    let d2 = step_at job s1 second (Goes s2) here (subst (λ n. Does (act job s1 (Some second)) (Goes (state_in tree n told two))) to2 (const (at + 1))) in
    let d3 = step_at job s2 third (Goes s3) behind (subst (λ n. Does (act job s2 (Some third)) (Goes (state_in tree n truth two))) to3 (test (at + 2))) in
    run_on job s0 s2 s3 2 3 (run_on job s0 s1 s2 1 2 (run_on job s0 s0 s1 0 1 (begun job s0) d1 refl) d2 refl) d3 refl

-- a field is read, a constant set, and a register compared with the constant
pub joined : (job : Job) (tree : TreeShown) (at : ℕ) (old told : Flag) (all one two : List Slot) (r field : ℕ) (layers : Layers) (q : ℕ) (c : Constant) (slot : Slot) (choice : Choice) (relation : Relation) (p : ℕ) (truth : Truth) →
    slice_get job.code at ≡ Some (instr.Read r field layers) → slice_get job.code (at + 1) ≡ Some (instr.Const q c) → slice_get job.code (at + 2) ≡ Some (instr.Test choice relation p q) → job.tree ≡ tree →
    Goes (state_in tree (at + 1) told one) ≡ reads (state_in tree at old all) r (values_of tree field layers) → two ≡ slice_set one q slot → held_in tree slot ≡ Some (constant_held c) → q < length one →
    ((h : Held) → IsHeld tree two p h → truth ≡ compares relation choice h.values (c.value ∷ []) c.prefix) → LeadsTo job (state_in tree at old all) (state_in tree (at + 3) (Known truth) two) 3
joined job tree at old told all one two r field layers q c slot choice relation p truth there here behind same read by holds less is =
    three_on job tree at old told (Known truth) all one two (instr.Read r field layers) (instr.Const q c) (instr.Test choice relation p q) there here behind
    (read_does tree old told all one r field layers at read job same)
    (λ n. const_does tree told one two q c slot by holds job n)
    (λ n. test_does tree two choice relation p q truth
    (λ g h left right. is g left ∙ ap (λ (x : Held). compares relation choice g.values x.values x.prefix) (held_now tree one two q slot (constant_held c) h less by holds right)) job n told)
