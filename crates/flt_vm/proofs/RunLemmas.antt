-- A run, step by step.
use Rattle.std.proofs.Common.{◌≡◌, ℕ, zero, suc, ◌+◌, ◌<◌, Bool as Truth, false, true, List, [], ◌∷◌, map, length, replicate, get_or, slice_get, Option, IfSome, Some, None, ap, sym, refl, ◌∙◌, subst, arith}
use Rattle.flt_typed.specs.declared.typed.Typed.{Typed}
use Rattle.flt_vm.specs.Machine.{Job, LeadsOn, Move, Goes, Ends, Missing, Runs, State, act, start, step}
use Rattle.flt_vm.specs.Possible.{CanRun, HasRun}
use Rattle.flt_program.specs.Programs.{Code, patterns_of}
use Rattle.flt_vm.specs.Programs.{FitsFilter, Ready, RunsOn}
use Rattle.flt_vm.specs.Slots.{Does, IsThere, LeadsTo, held_in, is_return, state_in}
use Rattle.flt_program.specs.declared.instr.Instr.{Instr}
use Rattle.flt_program.specs.declared.instr.Instr.TheVariants as instr
use Rattle.flt_vm.specs.declared.slots.Flag.TheVariants.{Known}
use Rattle.flt_vm.specs.declared.slots.Slot.{Slot}
use Rattle.flt_vm.specs.declared.slots.Slot.TheVariants as slots
use Rattle.pk_tree.specs.Trees.{IsTree, TreeShown}

-- a run leads from its state to where it is after no step
pub begun : (job : Job) (first : State) → LeadsTo job first first 0
begun job first total flag run = (total, run, omega arith)

leads_next : (move : Move) (next : State) (n : ℕ) (flag : Truth) (Rest : State → Type 0) → Does move (Goes next) → LeadsOn move n flag Rest → Rest next
leads_next (Goes s) next n flag Rest does rest = let same : s ≡ next = cc in subst Rest same rest
leads_next (Ends f) next n flag Rest does rest = cc
leads_next Missing next n flag Rest does rest = absurd rest

leads_end : (move : Move) (holds : Truth) (n : ℕ) (flag : Truth) (Rest : State → Type 0) → Does move (Ends holds) → LeadsOn move n flag Rest → (n ≡ 0) × (holds ≡ flag)
leads_end (Goes s) holds n flag Rest does rest = cc
leads_end (Ends f) holds n flag Rest does rest = (rest.0, let same : holds ≡ f = cc in same ∙ rest.1)
leads_end Missing holds n flag Rest does rest = absurd rest

on_step : (job : Job) (now next : State) (rest : ℕ) (flag : Truth) → Does (step job now) (Goes next) → Runs job rest now flag → (n : ℕ) × (rest ≡ suc n) × Runs job n next flag
on_step job now next zero flag does run = absurd run
on_step job now next (suc n) flag does run = (n, refl, leads_next (step job now) next n flag (λ t. Runs job n t flag) does run)

last_step : (job : Job) (now : State) (holds : Truth) (rest : ℕ) (flag : Truth) → Does (step job now) (Ends holds) → Runs job rest now flag → (rest ≡ 1) × (holds ≡ flag)
last_step job now holds zero flag does run = absurd run
last_step job now holds (suc n) flag does run = let e = leads_end (step job now) holds n flag (λ t. Runs job n t flag) does run in (ap suc e.0, e.1)

pub run_on : (job : Job) (first now next : State) (steps n : ℕ) → LeadsTo job first now steps → Does (step job now) (Goes next) → n ≡ steps + 1 → LeadsTo job first next n
run_on job first now next steps n way does more total flag run =
    let w = way total flag run in
    let on = on_step job now next w.0 flag does w.1 in
    (on.0, on.2, omega (arith, more, w.2, on.1))

-- and from there on to a third state
pub leads_both : (job : Job) (first now next : State) (steps more n : ℕ) → LeadsTo job first now steps → LeadsTo job now next more → n ≡ steps + more → LeadsTo job first next n
leads_both job first now next steps more n way on sum total flag run =
    let w = way total flag run in
    let o = on w.0 flag w.1 in
    (o.0, o.1, omega (arith, sum, w.2, o.2))

pub run_ends : (job : Job) (first now : State) (holds : Truth) (steps n : ℕ) → LeadsTo job first now steps → Does (step job now) (Ends holds) → n ≡ steps + 1 →
    (total : ℕ) (flag : Truth) → Runs job total first flag → (n ≡ total) × (holds ≡ flag)
run_ends job first now holds steps n way does more total flag run =
    let w = way total flag run in
    let last = last_step job now holds w.0 flag does w.1 in
    (omega (arith, more, w.2, last.0), last.1)

-- a step of a run is there
leads_there : (move : Move) (n : ℕ) (flag : Truth) (Rest : State → Type 0) → LeadsOn move n flag Rest → IsThere move
leads_there (Goes s) n flag Rest on = tt
leads_there (Ends f) n flag Rest on = tt
leads_there Missing n flag Rest on = absurd on

runs_there : (job : Job) (s : State) (steps : ℕ) (flag : Truth) → Runs job steps s flag → IsThere (step job s)
runs_there job s zero flag run = absurd run
runs_there job s (suc n) flag run = leads_there (step job s) n flag (λ next. Runs job n next flag) run

pub way_there : (job : Job) (first now : State) (steps : ℕ) → HasRun job first → LeadsTo job first now steps → IsThere (step job now)
way_there job first now steps run way =
    let w = way run.0 run.1 run.2 in
    runs_there job now w.0 run.1 w.1

-- the step at a place is that of the instruction there
pub step_at : (job : Job) (s : State) (i : Instr) (move : Move) → slice_get job.code s.at ≡ Some i → Does (act job s (Some i)) move → Does (step job s) move
step_at job s i move is does = subst (λ x. Does (act job s x) move) (sym is) does

-- RETURN ends a run with the flag
pub return_ends : (job : Job) (s : State) (i : Instr) (holds : Truth) → is_return i ≡ true → holds ≡ s.flag → Does (act job s (Some i)) (Ends holds)
unfolding act
return_ends job s instr.Return holds is same = ap Ends same
return_ends job s i holds is same = cc

pub some_at : {X : Type 0} (o : Option X) (x : X) (P : X → Type 0) → o ≡ Some x → IfSome o P → P x
some_at o x P is all = subst (λ p. IfSome p P) is all

-- either it is looked for what an instruction takes, or it is known
pub by_looks : (looks : Truth) (G : Type 0) → (looks ≡ true → G) → (looks ≡ false → G) → G
by_looks true G look know = look refl
by_looks false G look know = know refl

-- and it is there where that one is
pub there_at : (job : Job) (s : State) (i : Instr) → slice_get job.code s.at ≡ Some i → IsThere (step job s) → IsThere (act job s (Some i))
there_at job s i is there = subst (λ x. IsThere (act job s x)) is there

-- a run from unset registers, by what the slots stand for
pub from_start : (code same_code : List Instr) (patterns same_patterns : List (List ℕ)) (tree : TreeShown) (all : List Slot) (count total : ℕ) (flag : Truth) →
    same_code ≡ code → same_patterns ≡ patterns → map (held_in tree) all ≡ replicate count None →
    Runs (record { code = code; patterns = patterns; tree = tree }) total (start count) flag →
    Runs (record { code = same_code; patterns = same_patterns; tree = tree }) total (state_in tree 0 (Known false) all) flag
from_start code same_code patterns same_patterns tree all count total flag by_code by_patterns unset run =
    let one = subst (λ cs. Runs (record { code = cs; patterns = patterns; tree = tree }) total (start count) flag) (sym by_code) run in
    let two = subst (λ ps. Runs (record { code = same_code; patterns = ps; tree = tree }) total (start count) flag) (sym by_patterns) one in
    subst (λ rs. Runs (record { code = same_code; patterns = same_patterns; tree = tree }) total (record { at = 0; flag = false; registers = rs }) flag) (sym unset) two

pub runs_from_start : (code same_code : List Instr) (patterns same_patterns : List (List ℕ)) (tree : TreeShown) (all : List Slot) (count : ℕ) →
    same_code ≡ code → same_patterns ≡ patterns → map (held_in tree) all ≡ replicate count None →
    HasRun (record { code = code; patterns = patterns; tree = tree }) (start count) →
    HasRun (record { code = same_code; patterns = same_patterns; tree = tree }) (state_in tree 0 (Known false) all)
runs_from_start code same_code patterns same_patterns tree all count by_code by_patterns unset run =
    (run.0, run.1, from_start code same_code patterns same_patterns tree all count run.0 run.1 by_code by_patterns unset run.2)

-- a machine with a program that fits its filter has a run on each tree
pub can_run : (program : Code) (filter : Typed) (tree : TreeShown) (machine : Ready) → machine ≡ record { code = program; patterns = patterns_of filter } → FitsFilter program filter → IsTree tree → CanRun machine tree
unfolding FitsFilter
can_run program filter tree machine is fits tree_is = subst (λ (m : Ready). CanRun m tree) (sym is) (fits tree tree_is)

-- a program that fits its filter has a run, so what is so of each run is so of that one
pub answered : (program : Code) (filter : Typed) (tree : TreeShown) (machine : Ready) (steps : ℕ) (holds : Truth) → machine ≡ record { code = program; patterns = patterns_of filter } →
    FitsFilter program filter → IsTree tree →
    ((total : ℕ) (flag : Truth) → Runs (record { code = machine.code.items; patterns = machine.patterns; tree = tree }) total (start machine.code.registers) flag → (steps ≡ total) × (holds ≡ flag)) →
    RunsOn program filter tree steps holds
unfolding FitsFilter
answered program filter tree machine steps holds is fits tree_is each =
    let run = fits tree tree_is in
    let there = subst (λ (m : Ready). Runs (record { code = m.code.items; patterns = m.patterns; tree = tree }) run.0 (start m.code.registers) run.1) (sym is) run.2 in
    let same = each run.0 run.1 there in
    subst (λ truth. RunsOn program filter tree steps truth) (sym same.1) (subst (λ n. RunsOn program filter tree n run.1) (sym same.0) run.2)

-- slots that are all unset
pub all_unset : (tree : TreeShown) (all : List Slot) (n : ℕ) → length all ≡ n → ((k : ℕ) → k < n → get_or all k slots.Unset ≡ slots.Unset) → map (held_in tree) all ≡ replicate n None
all_unset tree [] zero size each = refl
all_unset tree [] (suc n) size each = cc
all_unset tree (s ∷ all) zero size each = cc
all_unset tree (s ∷ all) (suc n) size each =
    let first : s ≡ slots.Unset = each 0 (omega arith) in
    let rest = all_unset tree all n (omega (arith, size)) (λ k less. each (suc k) (omega (arith, less))) in
    ap (λ x. held_in tree x ∷ map (held_in tree) all) first ∙ ap (λ xs. None ∷ xs) rest
