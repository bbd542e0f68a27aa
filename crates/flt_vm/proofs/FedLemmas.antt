-- A program has a run exactly where each instruction that it comes to finds what it takes.
use Rattle.std.proofs.Common.{◌≡◌, ◌<◌, ◌≤◌, ◌⊎◌, inl, inr, ⊎_elim, ℕ, zero, suc, ◌+◌, Bool as Truth, true, false, List, [], length, Option, Some, None, not, ap, sym, refl, ◌∙◌, subst, arith}
use Rattle.std.proofs.lemmas.Option.{slice_get-get_or, slice_get_within}
use Rattle.std.specs.List.{slice_get}
use Rattle.std.specs.Option.{is_some}
use Rattle.flt_program.specs.Programs.{Code, Fits, IsProgram, patterns_of}
use Rattle.flt_program.specs.declared.instr.Instr.{Instr}
use Rattle.flt_program.specs.declared.instr.Instr.TheVariants as instr
use Rattle.flt_vm.proofs.VerdictLemmas.{run_computed}
use Rattle.flt_vm.specs.Fed.{Comes, FedProgramsRun, FittingProgramsAnswer, HoldComparable, HoldsSuch, IsFed, LacksFrom, LeadsInto, ProgramsRunOrLack, RunsAreFed, job_with}
use Rattle.flt_vm.specs.Held.{Held, can_be_among, can_call, can_compare, can_compute, can_mask, can_search, can_slice, kept_truth}
use Rattle.flt_vm.specs.Machine.{Job, LeadsOn, Move, Goes, Ends, Missing, Runs, State, act, given, jumps, only_if, start, step, with_held}
use Rattle.flt_vm.specs.Programs.{FitsFilter}
use Rattle.flt_vm.specs.Slots.{IsThere}
use Rattle.flt_vm.specs.declared.run.Verdict.{Verdict}
use Rattle.pk_tree.specs.Trees.{TreeShown}

-- a step leads behind a place, inside the code
abbrev Lands : ℕ → ℕ → Move → Type 0
Lands at size (Goes s) = (at < s.at) × (s.at < size)
Lands at size (Ends flag) = Unit {0}
Lands at size Missing = Unit {0}

lands_held : (at size : ℕ) (register : Option (Option Held)) (go : Held → Move) → ((h : Held) → Lands at size (go h)) → Lands at size (with_held register go)
lands_held at size None go each = tt
lands_held at size (Some None) go each = tt
lands_held at size (Some (Some h)) go each = each h

lands_given : {A : Type 0} (at size : ℕ) (x : Option A) (go : A → Move) → ((a : A) → Lands at size (go a)) → Lands at size (given x go)
lands_given at size None go each = tt
lands_given at size (Some a) go each = each a

lands_only : (at size : ℕ) (truth : Truth) (move : Move) → Lands at size move → Lands at size (only_if truth move)
lands_only at size true move lands = lands
lands_only at size false move lands = tt

lands_next : (at size : ℕ) → at + 1 < size → (at < at + 1) × (at + 1 < size)
lands_next at size less = (omega arith, less)

lands_jump : (s : State) (size : ℕ) (passes : Truth) (n : ℕ) → s.at + 1 + n < size → Lands s.at size (jumps s passes n)
lands_jump s size true n less = (omega arith, less)
lands_jump s size false n less = (omega arith, omega (arith, less))

lands : (job : Job) (s : State) (count size : ℕ) (i : Instr) → Fits count size s.at i → Lands s.at size (act job s (Some i))
unfolding act
lands job s count size (instr.Read r field layers) fits = lands_next s.at size fits.1
lands job s count size (instr.Const r c) fits = lands_next s.at size fits.1
lands job s count size (instr.Slice r q ranges) fits = lands_held s.at size (slice_get s.registers q) _ (λ h. lands_only s.at size (can_slice h) _ (lands_next s.at size fits.2))
lands job s count size (instr.Mask r q mask) fits = lands_held s.at size (slice_get s.registers q) _ (λ h. lands_only s.at size (can_mask h) _ (lands_next s.at size fits.2))
lands job s count size (instr.Call r function q) fits = lands_held s.at size (slice_get s.registers q) _ (λ h. lands_only s.at size (can_call function h) _ (lands_next s.at size fits.2))
lands job s count size (instr.Count r field layers) fits = lands_next s.at size fits.1
lands job s count size (instr.Compute r operation p q) fits = lands_held s.at size (slice_get s.registers p) _ (λ g. lands_held s.at size (slice_get s.registers q) _
    (λ h. lands_only s.at size (can_compute g) _ (lands_only s.at size (can_compute h) _ (lands_next s.at size fits.3))))
lands job s count size (instr.Choose r extreme p q) fits = lands_held s.at size (slice_get s.registers p) _ (λ g. lands_held s.at size (slice_get s.registers q) _
    (λ h. lands_only s.at size (can_compute g) _ (lands_only s.at size (can_compute h) _ (lands_next s.at size fits.3))))
lands job s count size (instr.Save r) fits = lands_next s.at size fits.1
lands job s count size (instr.Test choice relation p q) fits = lands_held s.at size (slice_get s.registers p) _ (λ g. lands_held s.at size (slice_get s.registers q) _
    (λ h. lands_only s.at size (can_compare relation g h) _ (lands_next s.at size fits.2)))
lands job s count size (instr.In choice r ms) fits = lands_held s.at size (slice_get s.registers r) _ (λ h. lands_only s.at size (can_be_among ms h) _ (lands_next s.at size fits.1))
lands job s count size (instr.Match choice r n) fits = lands_held s.at size (slice_get s.registers r) _ (λ h. lands_given s.at size (slice_get job.patterns n) _
    (λ pattern. lands_only s.at size (can_search h) _ (lands_next s.at size fits.1)))
lands job s count size (instr.NonZero r) fits = lands_held s.at size (slice_get s.registers r) _ (λ h. lands_only s.at size (can_mask h) _ (lands_next s.at size fits.1))
lands job s count size instr.Not fits = lands_next s.at size fits
lands job s count size (instr.Differ r) fits = lands_held s.at size (slice_get s.registers r) _ (λ h. lands_given s.at size (kept_truth h) _ (λ truth. lands_next s.at size fits.1))
lands job s count size (instr.JumpFalse n) fits = lands_jump s size (not s.flag) n fits
lands job s count size (instr.JumpTrue n) fits = lands_jump s size s.flag n fits
lands job s count size instr.Return fits = tt

-- what is taken is there where a step is, and the other way round
held_by : (register : Option (Option Held)) (go : Held → Move) → IsThere (with_held register go) → (h : Held) × (register ≡ Some (Some h)) × IsThere (go h)
held_by None go there = absurd there
held_by (Some None) go there = absurd there
held_by (Some (Some h)) go there = (h, refl, there)

given_by : {A : Type 0} (x : Option A) (go : A → Move) → IsThere (given x go) → (a : A) × (x ≡ Some a) × IsThere (go a)
given_by None go there = absurd there
given_by (Some a) go there = (a, refl, there)

only_by : (truth : Truth) (move : Move) → IsThere (only_if truth move) → (truth ≡ true) × IsThere move
only_by true move there = (refl, there)
only_by false move there = absurd there

such_by : (registers : List (Option Held)) (r : ℕ) (test : Held → Truth) (go : Held → Move) → IsThere (with_held (slice_get registers r) (λ h. only_if (test h) (go h))) → HoldsSuch registers r test
such_by registers r test go there =
    let by = held_by (slice_get registers r) (λ h. only_if (test h) (go h)) there in
    (by.0, by.1, (only_by (test by.0) (go by.0) by.2).0)

both_by : (registers : List (Option Held)) (p q : ℕ) (test : Held → Truth) (go : Held → Held → Move) →
    IsThere (with_held (slice_get registers p) (λ g. with_held (slice_get registers q) (λ h. only_if (test g) (only_if (test h) (go g h))))) → HoldsSuch registers p test × HoldsSuch registers q test
both_by registers p q test go there =
    let one = held_by (slice_get registers p) (λ g. with_held (slice_get registers q) (λ h. only_if (test g) (only_if (test h) (go g h)))) there in
    let two = held_by (slice_get registers q) (λ h. only_if (test one.0) (only_if (test h) (go one.0 h))) one.2 in
    let left = only_by (test one.0) (only_if (test two.0) (go one.0 two.0)) two.2 in
    ((one.0, one.1, left.0), (two.0, two.1, (only_by (test two.0) (go one.0 two.0) left.1).0))

compared_by : (registers : List (Option Held)) (p q : ℕ) (test : Held → Held → Truth) (go : Held → Held → Move) →
    IsThere (with_held (slice_get registers p) (λ g. with_held (slice_get registers q) (λ h. only_if (test g h) (go g h)))) → HoldComparable registers p q test
compared_by registers p q test go there =
    let one = held_by (slice_get registers p) (λ g. with_held (slice_get registers q) (λ h. only_if (test g h) (go g h))) there in
    let two = held_by (slice_get registers q) (λ h. only_if (test one.0 h) (go one.0 h)) one.2 in
    (one.0, two.0, one.1, two.1, (only_by (test one.0 two.0) (go one.0 two.0) two.2).0)

searched_by : (job : Job) (registers : List (Option Held)) (r n : ℕ) (go : Held → List ℕ → Move) →
    IsThere (with_held (slice_get registers r) (λ h. given (slice_get job.patterns n) (λ pattern. only_if (can_search h) (go h pattern)))) → HoldsSuch registers r can_search × (n < length job.patterns)
searched_by job registers r n go there =
    let one = held_by (slice_get registers r) (λ h. given (slice_get job.patterns n) (λ pattern. only_if (can_search h) (go h pattern))) there in
    let two = given_by (slice_get job.patterns n) (λ pattern. only_if (can_search one.0) (go one.0 pattern)) one.2 in
    ((one.0, one.1, (only_by (can_search one.0) (go one.0 two.0) two.2).0), slice_get_within job.patterns n two.0 two.1)

kept_by : (registers : List (Option Held)) (r : ℕ) (go : Truth → Move) → IsThere (with_held (slice_get registers r) (λ h. given (kept_truth h) go)) → HoldsSuch registers r (λ held. is_some (kept_truth held))
kept_by registers r go there =
    let one = held_by (slice_get registers r) (λ h. given (kept_truth h) go) there in
    let two = given_by (kept_truth one.0) go one.2 in
    (one.0, one.1, ap is_some two.1)

there_fed : (job : Job) (s : State) (i : Instr) → IsThere (act job s (Some i)) → IsFed job s.registers i
unfolding act
there_fed job s (instr.Read r field layers) there = tt
there_fed job s (instr.Const r c) there = tt
there_fed job s (instr.Slice r q ranges) there = such_by s.registers q can_slice _ there
there_fed job s (instr.Mask r q mask) there = such_by s.registers q can_mask _ there
there_fed job s (instr.Call r function q) there = such_by s.registers q (can_call function) _ there
there_fed job s (instr.Count r field layers) there = tt
there_fed job s (instr.Compute r operation p q) there = both_by s.registers p q can_compute _ there
there_fed job s (instr.Choose r extreme p q) there = both_by s.registers p q can_compute _ there
there_fed job s (instr.Save r) there = tt
there_fed job s (instr.Test choice relation p q) there = compared_by s.registers p q (can_compare relation) _ there
there_fed job s (instr.In choice r ms) there = such_by s.registers r (can_be_among ms) _ there
there_fed job s (instr.Match choice r n) there = searched_by job s.registers r n _ there
there_fed job s (instr.NonZero r) there = such_by s.registers r can_mask _ there
there_fed job s instr.Not there = tt
there_fed job s (instr.Differ r) there = kept_by s.registers r _ there
there_fed job s (instr.JumpFalse n) there = tt
there_fed job s (instr.JumpTrue n) there = tt
there_fed job s instr.Return there = tt

-- where registers and patterns are there, the step is
there_held : (register : Option (Option Held)) (go : Held → Move) (h : Held) → register ≡ Some (Some h) → IsThere (go h) → IsThere (with_held register go)
there_held register go h is there = subst (λ x. IsThere (with_held x go)) (sym is) there

there_only : (truth : Truth) (move : Move) → truth ≡ true → IsThere move → IsThere (only_if truth move)
there_only truth move is there = subst (λ t. IsThere (only_if t move)) (sym is) there

there_given : {A : Type 0} (x : Option A) (go : A → Move) (a : A) → x ≡ Some a → IsThere (go a) → IsThere (given x go)
there_given x go a is there = subst (λ y. IsThere (given y go)) (sym is) there

there_such : (registers : List (Option Held)) (r : ℕ) (test : Held → Truth) (go : Held → Move) → HoldsSuch registers r test → ((h : Held) → IsThere (go h)) → IsThere (with_held (slice_get registers r) (λ h. only_if (test h) (go h)))
there_such registers r test go such each = there_held (slice_get registers r) (λ h. only_if (test h) (go h)) such.0 such.1 (there_only (test such.0) (go such.0) such.2 (each such.0))

there_both : (registers : List (Option Held)) (p q : ℕ) (test : Held → Truth) (go : Held → Held → Move) → HoldsSuch registers p test → HoldsSuch registers q test → ((g h : Held) → IsThere (go g h)) →
    IsThere (with_held (slice_get registers p) (λ g. with_held (slice_get registers q) (λ h. only_if (test g) (only_if (test h) (go g h)))))
there_both registers p q test go left right each =
    there_held (slice_get registers p) (λ g. with_held (slice_get registers q) (λ h. only_if (test g) (only_if (test h) (go g h)))) left.0 left.1
    (there_held (slice_get registers q) (λ h. only_if (test left.0) (only_if (test h) (go left.0 h))) right.0 right.1
    (there_only (test left.0) (only_if (test right.0) (go left.0 right.0)) left.2 (there_only (test right.0) (go left.0 right.0) right.2 (each left.0 right.0))))

there_compared : (registers : List (Option Held)) (p q : ℕ) (test : Held → Held → Truth) (go : Held → Held → Move) → HoldComparable registers p q test → ((g h : Held) → IsThere (go g h)) →
    IsThere (with_held (slice_get registers p) (λ g. with_held (slice_get registers q) (λ h. only_if (test g h) (go g h))))
there_compared registers p q test go are each =
    there_held (slice_get registers p) (λ g. with_held (slice_get registers q) (λ h. only_if (test g h) (go g h))) are.0 are.2
    (there_held (slice_get registers q) (λ h. only_if (test are.0 h) (go are.0 h)) are.1 are.3 (there_only (test are.0 are.1) (go are.0 are.1) are.4 (each are.0 are.1)))

there_searched : (job : Job) (registers : List (Option Held)) (r n : ℕ) (go : Held → List ℕ → Move) → HoldsSuch registers r can_search → n < length job.patterns → ((h : Held) (pattern : List ℕ) → IsThere (go h pattern)) →
    IsThere (with_held (slice_get registers r) (λ h. given (slice_get job.patterns n) (λ pattern. only_if (can_search h) (go h pattern))))
there_searched job registers r n go such less each =
    there_held (slice_get registers r) (λ h. given (slice_get job.patterns n) (λ pattern. only_if (can_search h) (go h pattern))) such.0 such.1
    (there_given (slice_get job.patterns n) (λ pattern. only_if (can_search such.0) (go such.0 pattern)) _ (slice_get-get_or job.patterns n [] less)
    (there_only (can_search such.0) (go such.0 _) such.2 (each such.0 _)))

there_some : (x : Option Truth) (go : Truth → Move) → is_some x ≡ true → ((truth : Truth) → IsThere (go truth)) → IsThere (given x go)
there_some None go is each = cc
there_some (Some truth) go is each = each truth

there_kept : (registers : List (Option Held)) (r : ℕ) (go : Truth → Move) → HoldsSuch registers r (λ held. is_some (kept_truth held)) → ((truth : Truth) → IsThere (go truth)) →
    IsThere (with_held (slice_get registers r) (λ h. given (kept_truth h) go))
there_kept registers r go such each = there_held (slice_get registers r) (λ h. given (kept_truth h) go) such.0 such.1 (there_some (kept_truth such.0) go such.2 each)

there_jump : (s : State) (passes : Truth) (n : ℕ) → IsThere (jumps s passes n)
there_jump s true n = tt
there_jump s false n = tt

fed_there : (job : Job) (s : State) (i : Instr) → IsFed job s.registers i → IsThere (act job s (Some i))
unfolding act
fed_there job s (instr.Read r field layers) fed = tt
fed_there job s (instr.Const r c) fed = tt
fed_there job s (instr.Slice r q ranges) fed = there_such s.registers q can_slice _ fed (λ h. tt)
fed_there job s (instr.Mask r q mask) fed = there_such s.registers q can_mask _ fed (λ h. tt)
fed_there job s (instr.Call r function q) fed = there_such s.registers q (can_call function) _ fed (λ h. tt)
fed_there job s (instr.Count r field layers) fed = tt
fed_there job s (instr.Compute r operation p q) fed = there_both s.registers p q can_compute _ fed.0 fed.1 (λ g h. tt)
fed_there job s (instr.Choose r extreme p q) fed = there_both s.registers p q can_compute _ fed.0 fed.1 (λ g h. tt)
fed_there job s (instr.Save r) fed = tt
fed_there job s (instr.Test choice relation p q) fed = there_compared s.registers p q (can_compare relation) _ fed (λ g h. tt)
fed_there job s (instr.In choice r ms) fed = there_such s.registers r (can_be_among ms) _ fed (λ h. tt)
fed_there job s (instr.Match choice r n) fed = there_searched job s.registers r n _ fed.0 fed.1 (λ h pattern. tt)
fed_there job s (instr.NonZero r) fed = there_such s.registers r can_mask _ fed (λ h. tt)
fed_there job s instr.Not fed = tt
fed_there job s (instr.Differ r) fed = there_kept s.registers r _ fed (λ truth. tt)
fed_there job s (instr.JumpFalse n) fed = there_jump s (not s.flag) n
fed_there job s (instr.JumpTrue n) fed = there_jump s s.flag n
fed_there job s instr.Return fed = tt

-- what comes of a state: a run of at most so many steps, or an instruction that doesn't find what it takes
abbrev ComesOf : Job → ℕ → State → Type 0
ComesOf job most s = ((steps : ℕ) × (flag : Truth) × (steps ≤ most) × Runs job steps s flag) ⊎ LacksFrom job s

come_by : (job : Job) (s next : State) (move : Move) (n : ℕ) (t : State) → move ≡ Goes next → Comes job n next t → LeadsInto move (λ u. Comes job n u t)
come_by job s next move n t is comes = subst (λ m. LeadsInto m (λ u. Comes job n u t)) (sym is) comes

on_by : (job : Job) (next : State) (move : Move) (n : ℕ) (flag : Truth) → move ≡ Goes next → Runs job n next flag → LeadsOn move n flag (λ u. Runs job n u flag)
on_by job next move n flag is run = subst (λ m. LeadsOn m n flag (λ u. Runs job n u flag)) (sym is) run

after_step : (job : Job) (s next : State) (most : ℕ) → step job s ≡ Goes next → ComesOf job most next → ComesOf job (suc most) s
after_step job s next most is (inl run) = inl (suc run.0, run.1, omega (arith, run.2), on_by job next (step job s) run.0 run.1 is run.3)
after_step job s next most is (inr lacks) = inr (suc lacks.0, lacks.1, lacks.2, come_by job s next (step job s) lacks.0 lacks.1 is lacks.3, lacks.4, lacks.5)

ends_by : (job : Job) (s : State) (move : Move) (flag : Truth) → move ≡ Ends flag → LeadsOn move 0 flag (λ u. Runs job 0 u flag)
ends_by job s move flag is = subst (λ m. LeadsOn m 0 flag (λ u. Runs job 0 u flag)) (sym is) (refl, refl)

-- by the step at the state
by_move : (job : Job) (s : State) (most : ℕ) (i : Instr) (move : Move) → slice_get job.code s.at ≡ Some i → act job s (Some i) ≡ move → Lands s.at (length job.code) move →
    ((next : State) → s.at < next.at → next.at < length job.code → ComesOf job most next) → ComesOf job (suc most) s
by_move job s most i (Goes next) at is lands rest = after_step job s next most (ap (act job s) at ∙ is) (rest next lands.0 lands.1)
by_move job s most i (Ends flag) at is lands rest = inl (1, flag, omega arith, ends_by job s (step job s) flag (ap (act job s) at ∙ is))
by_move job s most i Missing at is lands rest = inr (0, s, i, refl, at, λ fed. subst IsThere is (fed_there job s i fed))

found_at : (items : List Instr) (at : ℕ) → at < length items → (i : Instr) × (slice_get items at ≡ Some i)
found_at items at less = (_, slice_get-get_or items at instr.Not less)

walk : (code : Code) (patterns : List (List ℕ)) (tree : TreeShown) → IsProgram code → (most : ℕ) (s : State) → s.at < length code.items → length code.items ≤ s.at + most → ComesOf (job_with code patterns tree) most s
walk code patterns tree is zero s less enough = let none : ⊥ = omega (arith, less, enough) in absurd none
walk code patterns tree is (suc most) s less enough =
    let job = job_with code patterns tree in
    let found = found_at code.items s.at less in
    by_move job s most found.0 (act job s (Some found.0)) found.1 refl (lands job s code.registers (length code.items) found.0 (is.fits s.at found.0 found.1))
    (λ next ahead within. walk code patterns tree is most next within (omega (arith, ahead, enough)))

pub run_or_lack : ProgramsRunOrLack
run_or_lack code patterns tree is = walk code patterns tree is (length code.items) (start code.registers) is.some (omega arith)

pub fed_run : FedProgramsRun
fed_run code patterns tree is fed =
    ⊎_elim (λ run. run) (λ lacks. absurd (lacks.5 (fed lacks.0 lacks.1 lacks.2 lacks.3 lacks.4))) (run_or_lack code patterns tree is)

-- a run goes on wherever its steps come to
leads_there : (move : Move) (n : ℕ) (flag : Truth) (Rest : State → Type 0) → LeadsOn move n flag Rest → IsThere move
leads_there (Goes s) n flag Rest on = tt
leads_there (Ends f) n flag Rest on = tt
leads_there Missing n flag Rest on = absurd on

run_there : (job : Job) (s : State) (steps : ℕ) (flag : Truth) → Runs job steps s flag → IsThere (step job s)
run_there job s zero flag run = absurd run
run_there job s (suc n) flag run = leads_there (step job s) n flag (λ next. Runs job n next flag) run

both_on : (job : Job) (move : Move) (n k : ℕ) (flag : Truth) (t : State) → LeadsOn move k flag (λ u. Runs job k u flag) → LeadsInto move (λ u. Comes job n u t) → (next : State) × Runs job k next flag × Comes job n next t
both_on job (Goes s) n k flag t on into = (s, on, into)
both_on job (Ends f) n k flag t on into = absurd into
both_on job Missing n k flag t on into = absurd into

run_at : (job : Job) (n steps : ℕ) (flag : Truth) (s t : State) → Runs job steps s flag → Comes job n s t → (rest : ℕ) × Runs job rest t flag
run_at job zero steps flag s t run comes = (steps, subst (λ u. Runs job steps u flag) comes run)
run_at job (suc n) zero flag s t run comes = absurd run
run_at job (suc n) (suc k) flag s t run comes =
    let on = both_on job (step job s) n k flag t run comes in
    run_at job n k flag on.0 t on.1 on.2

pub runs_fed : RunsAreFed
runs_fed job s run n t i comes at =
    let rest = run_at job n run.0 run.1 s t run.2 comes in
    there_fed job t i (subst (λ x. IsThere (act job t x)) at (run_there job t rest.0 run.1 rest.1))

-- a program that fits its filter answers something of every tree
pub fitting_answer : FittingProgramsAnswer
unfolding FitsFilter
fitting_answer code filter tree is fits good =
    let job = job_with code (patterns_of filter) tree in
    let has = fits tree good in
    let run = fed_run code (patterns_of filter) tree is (runs_fed job (start code.registers) has) in
    let verdict : Verdict = record { holds = run.1; steps = run.0 } in
    (verdict, run_computed code filter tree verdict run.3 run.2, run.3, run.2)
