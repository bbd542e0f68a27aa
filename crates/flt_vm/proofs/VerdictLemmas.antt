-- What a program answers, as a function: it is what its runs end with, and trees are alike to it that have the same values
-- of its fields.
use Rattle.std.proofs.Common.{◌≡◌, ℕ, zero, suc, ◌+◌, ◌≤◌, Bool as Truth, List, [], ◌∷◌, length, Option, Some, None, Ok, Err, Result, IfOk, option_map, slice_get, ap, sym, refl, ◌∙◌, subst, arith}
use Rattle.flt_typed.specs.declared.typed.Typed.{Typed}
use Rattle.flt_vm.specs.Machine.{Job, LeadsOn, Move, Goes, Ends, Missing, Runs, State, act, fills, kept, sets, start, step}
use Rattle.flt_vm.specs.Held.{plain}
use Rattle.flt_program.specs.Programs.{Code, patterns_of}
use Rattle.flt_vm.specs.Programs.{FitsFilter, Ready, RunsOn, job_of}
use Rattle.flt_program.specs.Asked.{HasCode, HasField}
use Rattle.flt_vm.specs.Verdicts.{ComputedIsRun, HaveSame, RunsAreComputed, VerdictsAlike, a_step_more, ended, run_of, verdict_of}
use Rattle.flt_program.specs.declared.instr.Instr.{Instr}
use Rattle.flt_program.specs.declared.instr.Instr.TheVariants as instr
use Rattle.flt_vm.specs.declared.run.Verdict.{Verdict}
use Rattle.pk_tree.specs.Trees.{IsTree, TreeShown}
use Rattle.pk_base.specs.declared.value.Value.{Value}
use Rattle.pk_base.specs.declared.value.Value.TheVariants as values

-- a verdict of a flag and a number of steps
abbrev answer : Truth → ℕ → Option Verdict
answer flag steps = Some (record { holds = flag; steps = steps })

moved : (job : Job) (most k : ℕ) (flag : Truth) (move : Move) → ((s : State) → Runs job k s flag → run_of job most s ≡ answer flag k) → LeadsOn move k flag (λ s. Runs job k s flag) →
    ended move (λ s. run_of job most s) ≡ answer flag (suc k)
moved job most k flag (Goes s) rest run =
    let more : k + 1 ≡ suc k = omega arith in
    ap (option_map a_step_more) (rest s run) ∙ ap (answer flag) more
moved job most k flag (Ends f) rest run =
    let one : 1 ≡ suc k = omega (arith, run.0) in
    ap (λ truth. answer truth 1) run.1 ∙ ap (answer flag) one
moved job most k flag Missing rest run = absurd run

pub runs_computed : RunsAreComputed
runs_computed job s zero most flag run within = absurd run
runs_computed job s (suc k) zero flag run within = let none : ⊥ = omega (arith, within) in absurd none
runs_computed job s (suc k) (suc most) flag run within =
    let less : k ≤ most = omega (arith, within) in
    moved job most k flag (step job s) (λ next rest. runs_computed job next k most flag rest less) run

-- the rest of a verdict that a step leads to
one_less : (rest : Option Verdict) (verdict : Verdict) → option_map a_step_more rest ≡ Some verdict → (w : Verdict) × (rest ≡ Some w) × (verdict.steps ≡ suc w.steps) × (w.holds ≡ verdict.holds)
one_less None verdict is = cc
one_less (Some w) verdict is =
    let same : a_step_more w ≡ verdict = cc in
    let steps = ap (λ (v : Verdict). v.steps) same in
    (w, refl, omega (arith, steps), ap (λ (v : Verdict). v.holds) same)

-- a run by a step
by_step : (job : Job) (s : State) (verdict : Verdict) (k : ℕ) → verdict.steps ≡ suc k → LeadsOn (step job s) k verdict.holds (λ next. Runs job k next verdict.holds) → Runs job verdict.steps s verdict.holds
by_step job s verdict k is leads = subst (λ n. Runs job n s verdict.holds) (sym is) leads

leading : (job : Job) (most : ℕ) (move : Move) (verdict : Verdict) → ((s : State) (w : Verdict) → run_of job most s ≡ Some w → Runs job w.steps s w.holds) →
    ended move (λ s. run_of job most s) ≡ Some verdict → (k : ℕ) × (verdict.steps ≡ suc k) × LeadsOn move k verdict.holds (λ next. Runs job k next verdict.holds)
leading job most (Goes s) verdict rest is =
    let less = one_less (run_of job most s) verdict is in
    (less.0.steps, less.2, subst (λ truth. Runs job less.0.steps s truth) less.3 (rest s less.0 less.1))
leading job most (Ends f) verdict rest is =
    let same : record { holds = f; steps = 1 } ≡ verdict = cc in
    let steps = ap (λ (v : Verdict). v.steps) same in
    (zero, omega (arith, steps), (refl, ap (λ (v : Verdict). v.holds) same))
leading job most Missing verdict rest is = cc

pub computed_run : ComputedIsRun
computed_run job s zero verdict is = cc
computed_run job s (suc most) verdict is =
    let l = leading job most (step job s) verdict (λ next w found. computed_run job next most w found) is in
    by_step job s verdict l.0 l.1 l.2

-- jobs that differ in the tree alone
abbrev job_with : List Instr → List (List ℕ) → TreeShown → Job
job_with code patterns tree = record { code = code; patterns = patterns; tree = tree }

instr_alike : (set : List ℕ) (code : List Instr) (patterns : List (List ℕ)) (t u : TreeShown) (s : State) (i : Instr) → HaveSame set t u → HasField set i →
    act (job_with code patterns u) s (Some i) ≡ act (job_with code patterns t) s (Some i)
unfolding act
instr_alike set code patterns t u s (instr.Read r field layers) same has =
    ap (λ (vs : List Value). fills s r (kept (slice_get s.registers r) (plain vs))) (same field layers has)
instr_alike set code patterns t u s (instr.Count r field layers) same has =
    ap (λ (vs : List Value). sets s r (plain (values.Uint (length vs) ∷ []))) (same field layers has)
instr_alike set code patterns t u s i same has = refl

step_alike : (set : List ℕ) (code : List Instr) (patterns : List (List ℕ)) (t u : TreeShown) (s : State) (found : Option Instr) → HaveSame set t u → ((i : Instr) → found ≡ Some i → HasField set i) →
    act (job_with code patterns u) s found ≡ act (job_with code patterns t) s found
unfolding act
step_alike set code patterns t u s None same has = refl
step_alike set code patterns t u s (Some i) same has = instr_alike set code patterns t u s i same (has i refl)

ended_alike : (move : Move) (f g : State → Option Verdict) → ((s : State) → f s ≡ g s) → ended move f ≡ ended move g
ended_alike (Goes s) f g same = ap (option_map a_step_more) (same s)
ended_alike (Ends flag) f g same = refl
ended_alike Missing f g same = refl

run_alike : (set : List ℕ) (code : Code) (patterns : List (List ℕ)) (t u : TreeShown) (most : ℕ) (s : State) → HaveSame set t u → HasCode set code →
    run_of (job_with code.items patterns u) most s ≡ run_of (job_with code.items patterns t) most s
unfolding HasCode
run_alike set code patterns t u zero s same has = refl
run_alike set code patterns t u (suc most) s same has =
    let at = step_alike set code.items patterns t u s (slice_get code.items s.at) same (λ i found. has s.at i found) in
    ap (λ move. ended move (λ next. run_of (job_with code.items patterns u) most next)) at
    ∙ ended_alike (step (job_with code.items patterns t) s) _ _ (λ next. run_alike set code patterns t u most next same has)

pub verdicts_alike : VerdictsAlike
unfolding verdict_of
verdicts_alike set code filter t u same has = run_alike set code (patterns_of filter) t u (length code.items) (start code.registers) same has

-- what a program that fits its filter answers, by its run
pub run_computed : (program : Code) (filter : Typed) (tree : TreeShown) (verdict : Verdict) → RunsOn program filter tree verdict.steps verdict.holds → verdict.steps ≤ length program.items →
    verdict_of program filter tree ≡ Some verdict
unfolding verdict_of
run_computed program filter tree verdict run few = runs_computed (job_of program filter tree) (start program.registers) verdict.steps (length program.items) verdict.holds run few

-- a machine's answer, where its program fits the filter whose patterns it searches for
pub machine_computed : (machine : Ready) (filter : Typed) (tree : TreeShown) (verdict : Verdict) → IsTree tree → machine.patterns ≡ patterns_of filter → FitsFilter machine.code filter →
    ((steps : ℕ) (flag : Truth) → Runs (record { code = machine.code.items; patterns = machine.patterns; tree = tree }) steps (start machine.code.registers) flag → (verdict.steps ≡ steps) × (verdict.holds ≡ flag)) →
    verdict.steps ≤ length machine.code.items → verdict_of machine.code filter tree ≡ Some verdict
unfolding FitsFilter
machine_computed machine filter tree verdict good by fits each few =
    let run = fits tree good in
    let there = subst (λ ps. Runs (record { code = machine.code.items; patterns = ps; tree = tree }) run.0 (start machine.code.registers) run.1) (sym by) run.2 in
    let same = each run.0 run.1 there in
    let one = subst (λ n. RunsOn machine.code filter tree n run.1) (sym same.0) run.2 in
    run_computed machine.code filter tree verdict (subst (λ truth. RunsOn machine.code filter tree verdict.steps truth) (sym same.1) one) few

-- two facts of a result
pub ok_both : {X Y : Type 0} (r : Result X Y) (P Q R : X → Type 0) → ((x : X) → P x → Q x → R x) → IfOk r P → IfOk r Q → IfOk r R
ok_both (Ok x) P Q R go p q = go x p q
ok_both (Err e) P Q R go p q = tt
