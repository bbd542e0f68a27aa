-- The run of a filter's code, part by part.
use Rattle.std.proofs.Common.{◌≡◌, ◌≤◌, ℕ, zero, suc, ◌+◌, Bool as Truth, true, false, cond, not, ◌&&◌, ◌||◌, List, [], ◌∷◌, ◌++◌, length, Some, slice_get, slice_set, filter_map, option_to_list, ap, sym, refl, ◌∙◌, subst, arith, length-append, append_assoc}
use Rattle.flt_code.specs.Code.{Chooses, CountsField, IsCode, Loads, LoadsCall, Makes, is_several, turned}
use Rattle.std.specs.Global.{Box}
use Rattle.std.specs.List.{list_any}
use Rattle.flt_code.specs.Owners.{IsOwned, Owner, OfTerm, OfExtreme, OfPart, held}
use Rattle.flt_code.proofs.Allowed.{May, MayCall, MayTerm, Taken, Way, There, IfThere, has, loaded, owner_for, tells}
use Rattle.flt_code.proofs.Registers.{AreTrue, kept_true, set_kept, set_there, true_set, unset_true}
use Rattle.flt_lists.specs.Called.{values_called}
use Rattle.flt_lists.specs.Pairs.{values_calculated}
use Rattle.flt_lists.specs.Passes.{compares, is_some_value, passes}
use Rattle.flt_lists.specs.Questions.{is_among, is_matched}
use Rattle.flt_mean.specs.Meaning.{exactly_one, meaning, opposite}
use Rattle.flt_mean.specs.Values.{values_of_term}
use Rattle.flt_syntax.specs.declared.ast.Choice.{Choice}
use Rattle.flt_syntax.specs.declared.ast.Function.{Function}
use Rattle.flt_syntax.specs.declared.ast.Function.TheVariants.{Len, Count, Upper, Lower, Min, Max}
use Rattle.flt_typing.specs.Terms.{is_field}
use Rattle.flt_typed.specs.declared.typed.Term.{Term}
use Rattle.flt_typed.specs.declared.typed.Term.TheVariants as terms
use Rattle.flt_typed.specs.declared.typed.Typed.{Typed}
use Rattle.flt_typed.specs.declared.typed.Typed.TheVariants.{Either', Differ', Both', Not', Exists, AnyBit, Compare, Among, Matches}
use Rattle.flt_typed.specs.Arithmetic.{extreme_of}
use Rattle.flt_typed.specs.Calls.{is_nonzero, masked}
use Rattle.flt_typed.specs.Slices.{sliced}
use Rattle.flt_typed.specs.declared.arithmetic.Extreme.{Extreme}
use Rattle.flt_typed.specs.declared.arithmetic.Extreme.TheVariants.{Least, Greatest}
use Rattle.flt_vm.proofs.ExtremeLists.{extreme_front, extreme_twice}
use Rattle.flt_vm.specs.Held.{Held, can_be_among, can_call, can_compare, can_compute, can_mask, can_search, can_slice, plain, truth_held}
use Rattle.flt_vm.specs.Machine.{Job, Move, Goes, Ends, Missing, State, LeadsOn, Runs, act, differs, jumps, only_if, sets, fills, start, step, tells as told}
use Rattle.flt_program.specs.declared.instr.Instr.{Instr}
use Rattle.flt_program.specs.declared.instr.Instr.TheVariants as instr
use Rattle.pk_tree.specs.FieldValues.{values_of}
use Rattle.pk_tree.specs.Trees.{TreeShown}
use Rattle.flt_syntax.specs.declared.ast.Arithmetic.{Arithmetic}
use Rattle.flt_syntax.specs.declared.ast.RangePart.{RangePart}
use Rattle.flt_typed.specs.declared.typed.Member.{Member}
use Rattle.flt_typed.specs.declared.constant.Constant.{Constant}
use Rattle.flt_typed.specs.declared.relation.Relation.{Relation}
use Rattle.pk_base.specs.declared.chosen.Layers.{Layers}
use Rattle.pk_base.specs.declared.value.Value.TheVariants.{Uint}

-- the code stands at a place of what is run
abbrev pub Holds : Job → ℕ → List Instr → Type 0
Holds job at [] = Unit {0}
Holds job at (i ∷ is) = (slice_get job.code at ≡ Some i) × Holds job (at + 1) is

pub holds_front : (job : Job) (at : ℕ) (a b : List Instr) → Holds job at (a ++ b) → Holds job at a
holds_front job at [] b h = tt
holds_front job at (i ∷ a) b h = (h.0, holds_front job (at + 1) a b h.1)

pub holds_back : (job : Job) (at : ℕ) (a b : List Instr) → Holds job at (a ++ b) → Holds job (at + length a) b
holds_back job at [] b h = subst (λ (x : ℕ). Holds job x b) (let e : at ≡ at + 0 = omega arith in e) h
holds_back job at (i ∷ a) b h =
    subst (λ (x : ℕ). Holds job x b) (let e : (at + 1) + length a ≡ at + suc (length a) = omega arith in e) (holds_back job (at + 1) a b h.1)

false_true : false ≡ true → ⊥
false_true e = cc

-- so many steps lead from a state to another; or each run from it comes by the other
abbrev pub Leads : Way → Job → ℕ → State → State → Type 0
Leads There job steps s t = (k : ℕ) (flag : Truth) → Runs job k t flag → Runs job (steps + k) s flag
Leads IfThere job steps s t = (k : ℕ) (flag : Truth) → Runs job k s flag → (rest : ℕ) × Runs job rest t flag

leads_then : (way : Way) (job : Job) (m n : ℕ) (s t u : State) → Leads way job m s t → Leads way job n t u → Leads way job (m + n) s u
leads_then There job m n s t u first second = λ k flag run.
    subst (λ (x : ℕ). Runs job x s flag) (let e : m + (n + k) ≡ (m + n) + k = omega arith in e) (first (n + k) flag (second k flag run))
leads_then IfThere job m n s t u first second = λ k flag run.
    let there = first k flag run in
    second there.0 flag there.1

leads_none : (way : Way) (job : Job) (s : State) → Leads way job 0 s s
leads_none There job s = λ k flag run. subst (λ (x : ℕ). Runs job x s flag) (let e : k ≡ 0 + k = omega arith in e) run
leads_none IfThere job s = λ k flag run. (k, run)

-- a move leads to a state; or does, if there is one
abbrev pub Moves : Way → Move → State → Type 0
Moves There move t = move ≡ Goes t
Moves IfThere (Goes s) t = s ≡ t
Moves IfThere (Ends flag) t = ⊥
Moves IfThere Missing t = Unit {0}

moves : (way : Way) (move : Move) (t : State) → move ≡ Goes t → Moves way move t
moves There move t is = is
moves IfThere move t is = subst (λ (x : Move). Moves IfThere x t) (sym is) refl

moves_if : (way : Way) (can : Truth) (move : Move) (t : State) → move ≡ only_if can (Goes t) → Taken way can → Moves way move t
moves_if There true move t is taken = is
moves_if There false move t is taken = absurd (false_true taken)
moves_if IfThere true move t is taken = subst (λ (x : Move). Moves IfThere x t) (sym is) refl
moves_if IfThere false move t is taken = subst (λ (x : Move). Moves IfThere x t) (sym is) tt

moves_both : (way : Way) (can may : Truth) (move : Move) (t : State) → move ≡ only_if can (only_if may (Goes t)) → Taken way can → Taken way may → Moves way move t
moves_both There true may move t is first second = moves_if There may move t is second
moves_both There false may move t is first second = absurd (false_true first)
moves_both IfThere true may move t is first second = moves_if IfThere may move t is second
moves_both IfThere false may move t is first second = subst (λ (x : Move). Moves IfThere x t) (sym is) tt

-- a register holds this
abbrev pub IsSet : State → ℕ → Held → Type 0
IsSet s r h = slice_get s.registers r ≡ Some (Some h)

-- a state at a place is reached within so many steps. The registers hold what is theirs, and those that were set still do
pub record Reached (way : Way) (job : Job) (os : List Owner) (s : State) (end n : ℕ) : Type 0 where
  pub steps : ℕ
  pub few : steps ≤ n
  pub after : State
  pub leads : Leads way job steps s after
  pub place : after.at ≡ end
  pub are : AreTrue job.tree os after.registers
  pub kept : (r : ℕ) (h : Held) → IsSet s r h → IsSet after r h

reached_then : (way : Way) (job : Job) (os : List Owner) (s : State) (mid end m n : ℕ) (first : Reached way job os s mid m) → Reached way job os first.after end n → Reached way job os s end (m + n)
reached_then way job os s mid end m n first second = record {
  steps = first.steps + second.steps;
  few = omega (arith, first.few, second.few);
  after = second.after;
  leads = leads_then way job first.steps second.steps s first.after second.after first.leads second.leads;
  place = second.place;
  are = second.are;
  kept = λ r h set. second.kept r h (first.kept r h set);
}

-- and a register is set; the flag may tell whether it has a value
pub record Loaded (way : Way) (job : Job) (os : List Owner) (s : State) (end n r : ℕ) (h : Held) (telling : Truth) : Type 0 where
  pub reached : Reached way job os s end n
  pub set : IsSet reached.after r h
  pub flag : telling ≡ true → reached.after.flag ≡ is_some_value h.values

-- and the flag is the truth
pub record Decided (way : Way) (job : Job) (os : List Owner) (s : State) (end n : ℕ) (truth : Truth) : Type 0 where
  pub reached : Reached way job os s end n
  pub flag : reached.after.flag ≡ truth

loaded_then : (way : Way) (job : Job) (os : List Owner) (s : State) (mid end m n r : ℕ) (h : Held) (telling : Truth) (first : Reached way job os s mid m) → Loaded way job os first.after end n r h telling →
    Loaded way job os s end (m + n) r h telling
unfolding reached_then
loaded_then way job os s mid end m n r h telling first second =
    record { reached = reached_then way job os s mid end m n first second.reached; set = second.set; flag = second.flag }

decided_then : (way : Way) (job : Job) (os : List Owner) (s : State) (mid end m n : ℕ) (truth : Truth) (first : Reached way job os s mid m) → Decided way job os first.after end n truth → Decided way job os s end (m + n) truth
unfolding reached_then
decided_then way job os s mid end m n truth first second = record { reached = reached_then way job os s mid end m n first second.reached; flag = second.flag }

loaded_as : (way : Way) (job : Job) (os : List Owner) (s : State) (end fin n m r : ℕ) (h : Held) (telling : Truth) → end ≡ fin → n ≡ m → Loaded way job os s end n r h telling → Loaded way job os s fin m r h telling
loaded_as way job os s end fin n m r h telling place count l = subst (λ (x : ℕ). Loaded way job os s x m r h telling) place (subst (λ (x : ℕ). Loaded way job os s end x r h telling) count l)

decided_as : (way : Way) (job : Job) (os : List Owner) (s : State) (end fin n m : ℕ) (truth : Truth) → end ≡ fin → n ≡ m → Decided way job os s end n truth → Decided way job os s fin m truth
decided_as way job os s end fin n m truth place count l = subst (λ (x : ℕ). Decided way job os s x m truth) place (subst (λ (x : ℕ). Decided way job os s end x truth) count l)

-- one step, to a state
step_leads : (move : Move) (t : State) (k : ℕ) (flag : Truth) (Rest : State → Type 0) → Moves IfThere move t → LeadsOn move k flag Rest → Rest t
step_leads (Goes s) t k flag Rest is rest = subst Rest is rest
step_leads (Ends f) t k flag Rest is rest = absurd is
step_leads Missing t k flag Rest is rest = absurd rest

rest_of : (job : Job) (s t : State) (k : ℕ) (flag : Truth) → Moves IfThere (step job s) t → Runs job k s flag → (rest : ℕ) × Runs job rest t flag
rest_of job s t zero flag is run = absurd run
rest_of job s t (suc k) flag is run = (k, step_leads (step job s) t k flag (λ next. Runs job k next flag) is run)

one_step : (way : Way) (job : Job) (s t : State) → Moves way (step job s) t → Leads way job 1 s t
one_step There job s t is = λ k flag run.
    let more : Runs job (suc k) s flag = subst (λ (move : Move). LeadsOn move k flag (λ next. Runs job k next flag)) (sym is) run in
    subst (λ (x : ℕ). Runs job x s flag) (let e : suc k ≡ 1 + k = omega arith in e) more
one_step IfThere job s t is = λ k flag run. rest_of job s t k flag is run

-- a step is that of the instruction at the place
at_place : (job : Job) (s : State) (at : ℕ) (i : Instr) → s.at ≡ at → slice_get job.code at ≡ Some i → step job s ≡ act job s (Some i)
at_place job s at i place is = ap (act job s) (ap (slice_get job.code) place ∙ is)

step_to : (way : Way) (job : Job) (s t : State) (at : ℕ) (i : Instr) → s.at ≡ at → slice_get job.code at ≡ Some i → Moves way (act job s (Some i)) t → Leads way job 1 s t
step_to way job s t at i place is does = one_step way job s t (subst (λ (move : Move). Moves way move t) (sym (at_place job s at i place is)) does)

-- the state behind an instruction that sets a register
abbrev put : State → Truth → ℕ → Held → State
put s flag r h = record { at = s.at + 1; flag = flag; registers = slice_set s.registers r (Some h) }

set_run : (way : Way) (job : Job) (os : List Owner) (s : State) (at r : ℕ) (o : Owner) (flag telling : Truth) (i : Instr) → s.at ≡ at → slice_get job.code at ≡ Some i →
    AreTrue job.tree os s.registers → IsOwned os r o → Moves way (act job s (Some i)) (put s flag r (held job.tree o)) → (telling ≡ true → flag ≡ is_some_value (held job.tree o).values) →
    Loaded way job os s (at + 1) 1 r (held job.tree o) telling
set_run way job os s at r o flag telling i place is are own does tell = record {
  reached = record {
    steps = 1;
    few = omega arith;
    after = put s flag r (held job.tree o);
    leads = step_to way job s (put s flag r (held job.tree o)) at i place is does;
    place = ap (λ x. x + 1) place;
    are = true_set job.tree os s.registers r o are own;
    kept = λ q h set. set_kept job.tree os s.registers r o are own q h set;
  };
  set = set_there job.tree os s.registers r o (held job.tree o) are own;
  flag = tell;
}

abbrev flagged : State → Truth → State
flagged s flag = record { at = s.at + 1; flag = flag; registers = s.registers }

tell_run : (way : Way) (job : Job) (os : List Owner) (s : State) (at : ℕ) (truth : Truth) (i : Instr) → s.at ≡ at → slice_get job.code at ≡ Some i → AreTrue job.tree os s.registers →
    Moves way (act job s (Some i)) (flagged s truth) → Decided way job os s (at + 1) 1 truth
tell_run way job os s at truth i place is are does = record {
  reached = record {
    steps = 1;
    few = omega arith;
    after = flagged s truth;
    leads = step_to way job s (flagged s truth) at i place is does;
    place = ap (λ x. x + 1) place;
    are = are;
    kept = λ q h set. set;
  };
  flag = refl;
}

-- what instructions do where their registers are set
read_does : (job : Job) (os : List Owner) (s : State) (r field : ℕ) (layers : Layers) → AreTrue job.tree os s.registers → IsOwned os r (OfTerm (terms.Field field layers)) →
    act job s (Some (instr.Read r field layers)) ≡ Goes (put s (is_some_value (values_of job.tree field layers)) r (held job.tree (OfTerm (terms.Field field layers))))
unfolding act
read_does job os s r field layers are own = ap (fills s r) (kept_true job.tree os s.registers r (OfTerm (terms.Field field layers)) are own)

slice_does : (job : Job) (s : State) (r q : ℕ) (ranges : List RangePart) (h : Held) → IsSet s q h →
    act job s (Some (instr.Slice r q ranges)) ≡ only_if (can_slice h) (fills s r (plain (filter_map (λ value. sliced value ranges) h.values)))
unfolding act
slice_does job s r q ranges h set = rw set refl

mask_does : (job : Job) (s : State) (r q mask : ℕ) (h : Held) → IsSet s q h →
    act job s (Some (instr.Mask r q mask)) ≡ only_if (can_mask h) (sets s r (plain (filter_map (λ value. masked mask value) h.values)))
unfolding act
mask_does job s r q mask h set = rw set refl

call_does : (job : Job) (s : State) (r q : ℕ) (function : Function) (h : Held) → IsSet s q h →
    act job s (Some (instr.Call r function q)) ≡ only_if (can_call function h) (sets s r (plain (values_called function h.values)))
unfolding act
call_does job s r q function h set = rw set refl

compute_does : (job : Job) (s : State) (r p q : ℕ) (a : Arithmetic) (g h : Held) → IsSet s p g → IsSet s q h →
    act job s (Some (instr.Compute r a p q)) ≡ only_if (can_compute g) (only_if (can_compute h) (sets s r (plain (values_calculated a g.values h.values))))
unfolding act
compute_does job s r p q a g h left right = rw (left, right) refl

choose_does : (job : Job) (s : State) (r p q : ℕ) (e : Extreme) (g h : Held) → IsSet s p g → IsSet s q h →
    act job s (Some (instr.Choose r e p q)) ≡ only_if (can_compute g) (only_if (can_compute h) (sets s r (plain (option_to_list (extreme_of e (g.values ++ h.values))))))
unfolding act
choose_does job s r p q e g h left right = rw (left, right) refl

test_does : (job : Job) (s : State) (p q : ℕ) (choice : Choice) (relation : Relation) (g h : Held) → IsSet s p g → IsSet s q h →
    act job s (Some (instr.Test choice relation p q)) ≡ only_if (can_compare relation g h) (Goes (flagged s (compares relation choice g.values h.values h.prefix)))
unfolding act
test_does job s p q choice relation g h left right = rw (left, right) refl

in_does : (job : Job) (s : State) (r : ℕ) (choice : Choice) (ms : List Member) (h : Held) → IsSet s r h →
    act job s (Some (instr.In choice r ms)) ≡ only_if (can_be_among ms h) (Goes (flagged s (passes choice (λ v. is_among ms v) h.values)))
unfolding act
in_does job s r choice ms h set = rw set refl

match_does : (job : Job) (s : State) (r n : ℕ) (choice : Choice) (pattern : List ℕ) (h : Held) → IsSet s r h → slice_get job.patterns n ≡ Some pattern →
    act job s (Some (instr.Match choice r n)) ≡ only_if (can_search h) (Goes (flagged s (passes choice (λ v. is_matched pattern v) h.values)))
unfolding act
match_does job s r n choice pattern h set there = rw (set, there) refl

nonzero_does : (job : Job) (s : State) (r : ℕ) (h : Held) → IsSet s r h → act job s (Some (instr.NonZero r)) ≡ only_if (can_mask h) (Goes (flagged s (list_any is_nonzero h.values)))
unfolding act
nonzero_does job s r h set = rw set refl

differ_does : (job : Job) (s : State) (r : ℕ) (truth : Truth) → IsSet s r (truth_held truth) → act job s (Some (instr.Differ r)) ≡ Goes (flagged s (differs truth s.flag))
unfolding act
differ_does job s r truth set = rw set refl

const_does : (job : Job) (s : State) (r : ℕ) (c : Constant) → act job s (Some (instr.Const r c)) ≡ sets s r (held job.tree (OfTerm (terms.Constant c)))
unfolding act
const_does job s r c = refl

count_does : (job : Job) (s : State) (r field : ℕ) (layers : Layers) → act job s (Some (instr.Count r field layers)) ≡ sets s r (plain (Uint (length (values_of job.tree field layers)) ∷ []))
unfolding act
count_does job s r field layers = refl

save_does : (job : Job) (s : State) (r : ℕ) → act job s (Some (instr.Save r)) ≡ sets s r (truth_held s.flag)
unfolding act
save_does job s r = refl

not_does : (job : Job) (s : State) → act job s (Some instr.Not) ≡ Goes (flagged s (not s.flag))
unfolding act
not_does job s = refl

jump_false_does : (job : Job) (s : State) (n : ℕ) → act job s (Some (instr.JumpFalse n)) ≡ jumps s (not s.flag) n
unfolding act
jump_false_does job s n = refl

jump_true_does : (job : Job) (s : State) (n : ℕ) → act job s (Some (instr.JumpTrue n)) ≡ jumps s s.flag n
unfolding act
jump_true_does job s n = refl

return_does : (job : Job) (s : State) → act job s (Some instr.Return) ≡ Ends s.flag
unfolding act
return_does job s = refl

-- one register made of another
makes_run : (way : Way) (job : Job) (os : List Owner) (s : State) (at r q : ℕ) (code inner : List Instr) (o : Owner) (h : Held) (i : Instr) (flag : State → Truth) (telling inside : Truth) →
    Loaded way job os s (at + length inner) (length inner) q h inside → Holds job at code → IsOwned os r o → code ≡ inner ++ i ∷ [] →
    ((t : State) → IsSet t q h → Moves way (act job t (Some i)) (put t (flag t) r (held job.tree o))) → ((t : State) → telling ≡ true → flag t ≡ is_some_value (held job.tree o).values) →
    Loaded way job os s (at + length code) (length code) r (held job.tree o) telling
makes_run way job os s at r q code inner o h i flag telling inside first holds own is does tell =
    let t = first.reached.after in
    let there = holds_back job at inner (i ∷ []) (subst (Holds job at) is holds) in
    let size = ap length is ∙ length-append inner (i ∷ []) in
    loaded_as way job os s (at + length inner + 1) (at + length code) (length inner + 1) (length code) r (held job.tree o) telling (omega (arith, size)) (sym size)
    (loaded_then way job os s (at + length inner) (at + length inner + 1) (length inner) 1 r (held job.tree o) telling first.reached
    (set_run way job os t (at + length inner) r o (flag t) telling i first.reached.place there.0 first.reached.are own (does t first.set) (tell t)))

-- one register made of two
joins_run : (way : Way) (job : Job) (os : List Owner) (s : State) (at r p q : ℕ) (code a b : List Instr) (o : Owner) (g h : Held) (i : Instr) (inside other : Truth) →
    s.at ≡ at → AreTrue job.tree os s.registers →
    (Holds job at a → Loaded way job os s (at + length a) (length a) p g inside) →
    ((t : State) → Holds job (at + length a) b → t.at ≡ at + length a → AreTrue job.tree os t.registers → Loaded way job os t (at + length a + length b) (length b) q h other) →
    Holds job at code → IsOwned os r o → code ≡ a ++ (b ++ i ∷ []) →
    ((t : State) → IsSet t p g → IsSet t q h → Moves way (act job t (Some i)) (put t t.flag r (held job.tree o))) →
    Loaded way job os s (at + length code) (length code) r (held job.tree o) false
joins_run way job os s at r p q code a b o g h i inside other place are left right holds own is does =
    let whole = subst (Holds job at) is holds in
    let rest = holds_back job at a (b ++ i ∷ []) whole in
    let first = left (holds_front job at a (b ++ i ∷ []) whole) in
    let t = first.reached.after in
    let second = right t (holds_front job (at + length a) b (i ∷ []) rest) first.reached.place first.reached.are in
    let u = second.reached.after in
    let there = holds_back job (at + length a) b (i ∷ []) rest in
    let size = ap length is ∙ length-append a (b ++ i ∷ []) ∙ ap (λ x. length a + x) (length-append b (i ∷ [])) in
    loaded_as way job os s (at + length a + length b + 1) (at + length code) (length a + (length b + 1)) (length code) r (held job.tree o) false (omega (arith, size)) (sym size)
    (loaded_then way job os s (at + length a) (at + length a + length b + 1) (length a) (length b + 1) r (held job.tree o) false first.reached
    (loaded_then way job os t (at + length a + length b) (at + length a + length b + 1) (length b) 1 r (held job.tree o) false second.reached
    (set_run way job os u (at + length a + length b) r o u.flag false i second.reached.place there.0 second.reached.are own
    (does u (second.reached.kept p g first.set) second.set) (λ e. absurd (false_true e)))))

-- one instruction alone
alone_run : (way : Way) (job : Job) (os : List Owner) (s : State) (at r : ℕ) (code : List Instr) (o : Owner) (i : Instr) (flag telling : Truth) → s.at ≡ at → AreTrue job.tree os s.registers → Holds job at code →
    IsOwned os r o → code ≡ i ∷ [] → act job s (Some i) ≡ Goes (put s flag r (held job.tree o)) → (telling ≡ true → flag ≡ is_some_value (held job.tree o).values) →
    Loaded way job os s (at + length code) (length code) r (held job.tree o) telling
alone_run way job os s at r code o i flag telling place are holds own is does tell =
    let size = ap length is in
    loaded_as way job os s (at + 1) (at + length code) 1 (length code) r (held job.tree o) telling (omega (arith, size)) (sym size)
    (set_run way job os s at r o flag telling i place (subst (Holds job at) is holds).0 are own (moves way _ _ does) tell)

single : (tree : TreeShown) (e : Extreme) (term : Term) → is_several term ≡ false → loaded tree e term ≡ has tree term
single tree e term is = rw is refl

-- the register of a term's code holds this
abbrev Loads' : Way → Job → List Owner → State → ℕ → List Instr → ℕ → Held → Truth → Type 0
Loads' way job os s at code r h telling = Loaded way job os s (at + length code) (length code) r h telling

-- how the code of a term inside is run
abbrev Inner : Way → Job → List Owner → State → ℕ → Extreme → Term → Type 0
Inner way job os s at e term = (q : ℕ) (inner : List Instr) → Loads os e term q inner → Holds job at inner → Loads' way job os s at inner q (loaded job.tree e term) (tells term)

-- a register made of a term that stands alone
over_run : (way : Way) (job : Job) (os : List Owner) (s : State) (at r : ℕ) (code : List Instr) (e : Extreme) (term : Term) (o : Owner) (next : ℕ → Instr) (flag : State → Truth) (telling : Truth) →
    Inner way job os s at e term → is_several term ≡ false → Holds job at code → Makes os o r (Loads os e term) next code →
    ((t : State) (q : ℕ) → IsSet t q (has job.tree term) → Moves way (act job t (Some (next q))) (put t (flag t) r (held job.tree o))) → ((t : State) → telling ≡ true → flag t ≡ is_some_value (held job.tree o).values) →
    Loads' way job os s at code r (held job.tree o) telling
over_run way job os s at r code e term o next flag telling run alone holds m does tell =
    let q = m.1.0 in
    let inner = m.1.1 in
    let front = holds_front job at inner (next q ∷ []) (subst (Holds job at) m.1.3 holds) in
    makes_run way job os s at r q code inner o (has job.tree term) (next q) flag telling (tells term)
    (subst (λ (h : Held). Loads' way job os s at inner q h (tells term)) (single job.tree e term alone) (run q inner m.1.2 front))
    holds m.0 m.1.3 (λ t set. does t q set) tell

several_is : (e : Extreme) (term : Term) (b : Truth) → is_several term ≡ b → owner_for e term ≡ cond b (OfExtreme e term) (OfTerm term)
several_is e term b is = rw is refl

extreme_same : (tree : TreeShown) (e : Extreme) (term : Term) → option_to_list (extreme_of e (values_of_term term tree ++ values_of_term term tree)) ≡ option_to_list (extreme_of e (values_of_term term tree))
extreme_same tree e term = ap option_to_list (extreme_twice e (values_of_term term tree))

-- `min` and `max`
extreme_run : (way : Way) (job : Job) (os : List Owner) (s : State) (at r : ℕ) (code : List Instr) (e : Extreme) (o : Owner) (term : Term) (several : Truth) → is_several term ≡ several →
    held job.tree o ≡ held job.tree (OfExtreme e term) → Inner way job os s at e term → Taken way (can_compute (loaded job.tree e term)) → Holds job at code →
    Chooses several (Loads os e term r code) (Makes os o r (Loads os e term) (λ q. instr.Choose r e q q) code) → Loads' way job os s at code r (held job.tree o) false
extreme_run way job os s at r code e o term true is same run can holds c =
    let l = run r code c holds in
    record {
      reached = l.reached;
      set = l.set ∙ ap (λ x. Some (Some x)) (ap (held job.tree) (several_is e term true is) ∙ sym same);
      flag = λ x. absurd (false_true x);
    }
extreme_run way job os s at r code e o term false is same run can holds m =
    over_run way job os s at r code e term o (λ q. instr.Choose r e q q) (λ t. t.flag) false run is holds m
    (λ t q set. let may = subst (λ (x : Held). Taken way (can_compute x)) (single job.tree e term is) can in
    let can = can_compute (has job.tree term) in
    moves_both way can can _ _
    (choose_does job t r q q e (has job.tree term) (has job.tree term) set set ∙ ap (λ x. only_if can (only_if can (sets t r x))) (ap plain (extreme_same job.tree e term) ∙ sym same)) may may)
    (λ t x. absurd (false_true x))

-- `count`
counts : (way : Way) (job : Job) (s : State) (at r : ℕ) (code : List Instr) (os : List Owner) (o : Owner) (term : Term) (field : Truth) → is_field term ≡ field → field ≡ true →
    held job.tree o ≡ plain (Uint (length (values_of_term term job.tree)) ∷ []) → s.at ≡ at → AreTrue job.tree os s.registers → Holds job at code →
    Chooses field (CountsField os o term r code) (Makes os o r (Loads os Least term) (λ q. instr.Call r Count q) code) → Loads' way job os s at code r (held job.tree o) false
counts way job s at r code os o term true is so same place are holds c =
    alone_run way job os s at r code o (instr.Count r c.0 c.1) s.flag false place are holds c.3 c.4
    (count_does job s r c.0 c.1 ∙ ap (sets s r) (ap (λ x. plain (Uint (length (values_of_term x job.tree)) ∷ [])) (sym c.2) ∙ sym same)) (λ x. absurd (false_true x))
counts way job s at r code os o term false is so same place are holds c = absurd (false_true so)

call_run : (way : Way) (job : Job) (os : List Owner) (s : State) (at r : ℕ) (code : List Instr) (function : Function) (p : Box (Unit {0})) (term : Term) → s.at ≡ at → AreTrue job.tree os s.registers → Holds job at code →
    ((e : Extreme) → MayTerm way job.tree e term → Inner way job os s at e term) → MayCall way job.tree function term (λ e. MayTerm way job.tree e term) →
    LoadsCall os function (OfTerm (terms.Called' function p term)) term (λ e. Loads os e term) r code → Loads' way job os s at code r (has job.tree (terms.Called' function p term)) false
call_run way job os s at r code Count p term place are holds run may l = counts way job s at r code os (OfTerm (terms.Called' Count p term)) term (is_field term) refl may refl place are holds l
call_run way job os s at r code Min p term place are holds run may l = extreme_run way job os s at r code Least (OfTerm (terms.Called' Min p term)) term (is_several term) refl refl (run Least may.0) may.1 holds l
call_run way job os s at r code Max p term place are holds run may l = extreme_run way job os s at r code Greatest (OfTerm (terms.Called' Max p term)) term (is_several term) refl refl (run Greatest may.0) may.1 holds l
call_run way job os s at r code Len p term place are holds run may l =
    over_run way job os s at r code Least term (OfTerm (terms.Called' Len p term)) (λ q. instr.Call r Len q) (λ t. t.flag) false (run Least may.0) may.1 holds l
    (λ t q set. moves_if way (can_call Len (has job.tree term)) _ _ (call_does job t r q Len (has job.tree term) set) may.2) (λ t x. absurd (false_true x))
call_run way job os s at r code Upper p term place are holds run may l =
    over_run way job os s at r code Least term (OfTerm (terms.Called' Upper p term)) (λ q. instr.Call r Upper q) (λ t. t.flag) false (run Least may.0) may.1 holds l
    (λ t q set. moves_if way (can_call Upper (has job.tree term)) _ _ (call_does job t r q Upper (has job.tree term) set) may.2) (λ t x. absurd (false_true x))
call_run way job os s at r code Lower p term place are holds run may l =
    over_run way job os s at r code Least term (OfTerm (terms.Called' Lower p term)) (λ q. instr.Call r Lower q) (λ t. t.flag) false (run Least may.0) may.1 holds l
    (λ t q set. moves_if way (can_call Lower (has job.tree term)) _ _ (call_does job t r q Lower (has job.tree term) set) may.2) (λ t x. absurd (false_true x))

-- what a chain of arguments holds, with one more
front_is : (tree : TreeShown) (e : Extreme) (left right : Term) (several : Truth) → is_several left ≡ several →
    option_to_list (extreme_of e ((held tree (cond several (OfExtreme e left) (OfTerm left))).values ++ values_of_term right tree)) ≡ option_to_list (extreme_of e (values_of_term left tree ++ values_of_term right tree))
front_is tree e left right true is = ap option_to_list (extreme_front e (values_of_term left tree) (values_of_term right tree))
front_is tree e left right false is = refl

pub loads_run : (way : Way) (job : Job) (os : List Owner) (e : Extreme) (term : Term) (s : State) (at r : ℕ) (code : List Instr) → s.at ≡ at → AreTrue job.tree os s.registers → MayTerm way job.tree e term →
    Loads os e term r code → Holds job at code → Loads' way job os s at code r (loaded job.tree e term) (tells term)
loads_run way job os e (terms.Constant c) s at r code place are may l holds =
    alone_run way job os s at r code (OfTerm (terms.Constant c)) (instr.Const r c) s.flag false place are holds l.0 l.1 (const_does job s r c) (λ x. absurd (false_true x))
loads_run way job os e (terms.Field field layers) s at r code place are may l holds =
    alone_run way job os s at r code (OfTerm (terms.Field field layers)) (instr.Read r field layers) (is_some_value (values_of job.tree field layers)) true place are holds l.0 l.1
    (read_does job os s r field layers are l.0) (λ x. refl)
loads_run way job os e (terms.Slice' p term ranges) s at r code place are may l holds =
    over_run way job os s at r code e term (OfTerm (terms.Slice' p term ranges)) (λ q. instr.Slice r q ranges.items) (λ t. is_some_value (values_of_term (terms.Slice' p term ranges) job.tree)) true
    (λ q inner x h. loads_run way job os e term s at q inner place are may.0 x h) may.1 holds l
    (λ t q set. moves_if way (can_slice (has job.tree term)) _ _ (slice_does job t r q ranges.items (has job.tree term) set) may.2) (λ t x. refl)
loads_run way job os e (terms.Mask' p term mask) s at r code place are may l holds =
    over_run way job os s at r code e term (OfTerm (terms.Mask' p term mask)) (λ q. instr.Mask r q mask) (λ t. t.flag) false
    (λ q inner x h. loads_run way job os e term s at q inner place are may.0 x h) may.1 holds l
    (λ t q set. moves_if way (can_mask (has job.tree term)) _ _ (mask_does job t r q mask (has job.tree term) set) may.2) (λ t x. absurd (false_true x))
loads_run way job os e (terms.Called' function p term) s at r code place are may l holds =
    call_run way job os s at r code function p term place are holds (λ f allowed q inner x h. loads_run way job os f term s at q inner place are allowed x h) may l
loads_run way job os e (terms.Computed' a p left q right) s at r code place are may l holds =
    joins_run way job os s at r l.1.0 l.1.1 code l.1.2 l.1.3 (OfTerm (terms.Computed' a p left q right)) (has job.tree left) (has job.tree right) (instr.Compute r a l.1.0 l.1.1) (tells left) (tells right) place are
    (λ h. subst (λ (x : Held). Loads' way job os s at l.1.2 l.1.0 x (tells left)) (single job.tree e left may.2) (loads_run way job os e left s at l.1.0 l.1.2 place are may.0 l.1.4 h))
    (λ t h there good. subst (λ (x : Held). Loads' way job os t (at + length l.1.2) l.1.3 l.1.1 x (tells right)) (single job.tree e right may.3) (loads_run way job os e right t (at + length l.1.2) l.1.1 l.1.3 there good may.1 l.1.5 h))
    holds l.0 l.1.6 (λ t g h. moves_both way (can_compute (has job.tree left)) (can_compute (has job.tree right)) _ _ (compute_does job t r l.1.0 l.1.1 a (has job.tree left) (has job.tree right) g h) may.4 may.5)
loads_run way job os e (terms.Arguments' p left q right) s at r code place are may l holds =
    joins_run way job os s at r l.1.0 l.1.1 code l.1.2 l.1.3 (OfExtreme e (terms.Arguments' p left q right)) (loaded job.tree e left) (has job.tree right) (instr.Choose r e l.1.0 l.1.1) (tells left) (tells right) place are
    (λ h. loads_run way job os e left s at l.1.0 l.1.2 place are may.0 l.1.4 h)
    (λ t h there good. subst (λ (x : Held). Loads' way job os t (at + length l.1.2) l.1.3 l.1.1 x (tells right)) (single job.tree e right may.2) (loads_run way job os e right t (at + length l.1.2) l.1.1 l.1.3 there good may.1 l.1.5 h))
    holds l.0 l.1.6 (λ t g h. let can = can_compute (loaded job.tree e left) in
    let second = can_compute (has job.tree right) in
    moves_both way can second _ _ (choose_does job t r l.1.0 l.1.1 e (loaded job.tree e left) (has job.tree right) g h
    ∙ ap (λ x. only_if can (only_if second (sets t r (plain x)))) (front_is job.tree e left right (is_several left) refl)) may.3 may.4)

-- a jump over code that isn't needed
over_jump : (way : Way) (job : Job) (os : List Owner) (s : State) (at n : ℕ) (i : Instr) (truth : Truth) → s.at ≡ at → slice_get job.code at ≡ Some i → AreTrue job.tree os s.registers →
    act job s (Some i) ≡ jumps s true n → s.flag ≡ truth → Decided way job os s (at + 1 + n) (1 + n) truth
over_jump way job os s at n i truth place is are does flag = record {
  reached = record {
    steps = 1;
    few = omega arith;
    after = record { at = s.at + 1 + n; flag = s.flag; registers = s.registers };
    leads = step_to way job s (record { at = s.at + 1 + n; flag = s.flag; registers = s.registers }) at i place is (moves way _ _ does);
    place = ap (λ x. x + 1 + n) place;
    are = are;
    kept = λ q h set. set;
  };
  flag = flag;
}

-- no jump, and then the code behind it
no_jump : (way : Way) (job : Job) (os : List Owner) (s : State) (at n : ℕ) (i : Instr) (truth : Truth) → s.at ≡ at → slice_get job.code at ≡ Some i → AreTrue job.tree os s.registers →
    act job s (Some i) ≡ jumps s false n → ((t : State) → t.at ≡ at + 1 → AreTrue job.tree os t.registers → Decided way job os t (at + 1 + n) n truth) → Decided way job os s (at + 1 + n) (1 + n) truth
no_jump way job os s at n i truth place is are does second =
    let first = tell_run way job os s at s.flag i place is are (moves way _ _ does) in
    decided_then way job os s (at + 1) (at + 1 + n) 1 n truth first.reached (second first.reached.after first.reached.place first.reached.are)

-- what a jump's step is where the flag is known
jump_is : (s : State) (taken b : Truth) (n : ℕ) → taken ≡ b → jumps s taken n ≡ jumps s b n
jump_is s taken b n is = rw is refl

or_run : (way : Way) (job : Job) (os : List Owner) (s : State) (at n : ℕ) (left right : Truth) → s.flag ≡ left → s.at ≡ at → slice_get job.code at ≡ Some (instr.JumpTrue n) → AreTrue job.tree os s.registers →
    ((t : State) → t.at ≡ at + 1 → AreTrue job.tree os t.registers → Decided way job os t (at + 1 + n) n right) → Decided way job os s (at + 1 + n) (1 + n) (left || right)
or_run way job os s at n true right flag place is are second =
    over_jump way job os s at n (instr.JumpTrue n) true place is are (jump_true_does job s n ∙ jump_is s s.flag true n flag) flag
or_run way job os s at n false right flag place is are second =
    no_jump way job os s at n (instr.JumpTrue n) right place is are (jump_true_does job s n ∙ jump_is s s.flag false n flag) second

and_run : (way : Way) (job : Job) (os : List Owner) (s : State) (at n : ℕ) (left right : Truth) → s.flag ≡ left → s.at ≡ at → slice_get job.code at ≡ Some (instr.JumpFalse n) → AreTrue job.tree os s.registers →
    ((t : State) → t.at ≡ at + 1 → AreTrue job.tree os t.registers → Decided way job os t (at + 1 + n) n right) → Decided way job os s (at + 1 + n) (1 + n) (left && right)
and_run way job os s at n false right flag place is are second =
    over_jump way job os s at n (instr.JumpFalse n) false place is are (jump_false_does job s n ∙ jump_is s (not s.flag) true n (ap not flag)) flag
and_run way job os s at n true right flag place is are second =
    no_jump way job os s at n (instr.JumpFalse n) right place is are (jump_false_does job s n ∙ jump_is s (not s.flag) false n (ap not flag)) second

-- the code of a filter is run
abbrev Decides' : Way → Job → List Owner → State → ℕ → List Instr → Truth → Type 0
Decides' way job os s at code truth = Decided way job os s (at + length code) (length code) truth

-- two parts, and an instruction between them
both_parts : (way : Way) (job : Job) (os : List Owner) (s : State) (at : ℕ) (code a b : List Instr) (i : Instr) (left truth : Truth) → code ≡ a ++ i ∷ b → Decides' way job os s at a left → Holds job at code →
    ((t : State) → t.flag ≡ left → t.at ≡ at + length a → slice_get job.code (at + length a) ≡ Some i → Holds job (at + length a + 1) b → AreTrue job.tree os t.registers →
    Decided way job os t (at + length a + 1 + length b) (1 + length b) truth) → Decides' way job os s at code truth
both_parts way job os s at code a b i left truth is first holds rest =
    let there = holds_back job at a (i ∷ b) (subst (Holds job at) is holds) in
    let size = ap length is ∙ length-append a (i ∷ b) in
    decided_as way job os s (at + length a + 1 + length b) (at + length code) (length a + (1 + length b)) (length code) truth (omega (arith, size)) (omega (arith, size))
    (decided_then way job os s (at + length a) (at + length a + 1 + length b) (length a) (1 + length b) truth first.reached
    (rest first.reached.after first.flag first.reached.place there.0 there.1 first.reached.are))

-- a test of one register
one_test : (way : Way) (job : Job) (os : List Owner) (s : State) (at r : ℕ) (code inner : List Instr) (i : Instr) (h : Held) (telling truth : Truth) → code ≡ inner ++ i ∷ [] → Loads' way job os s at inner r h telling → Holds job at code →
    ((t : State) → IsSet t r h → Moves way (act job t (Some i)) (flagged t truth)) → Decides' way job os s at code truth
one_test way job os s at r code inner i h telling truth is first holds does =
    let t = first.reached.after in
    let there = holds_back job at inner (i ∷ []) (subst (Holds job at) is holds) in
    let size = ap length is ∙ length-append inner (i ∷ []) in
    decided_as way job os s (at + length inner + 1) (at + length code) (length inner + 1) (length code) truth (omega (arith, size)) (sym size)
    (decided_then way job os s (at + length inner) (at + length inner + 1) (length inner) 1 truth first.reached
    (tell_run way job os t (at + length inner) truth i first.reached.place there.0 first.reached.are (does t first.set)))

-- one more instruction, which turns the flag or not
turn_run : (way : Way) (job : Job) (os : List Owner) (s : State) (at : ℕ) (truth negated : Truth) → s.at ≡ at → AreTrue job.tree os s.registers → Holds job at (turned negated) → s.flag ≡ truth →
    Decides' way job os s at (turned negated) (opposite negated truth)
turn_run way job os s at truth true place are holds flag =
    tell_run way job os s at (not truth) instr.Not place holds.0 are (moves way _ _ (not_does job s ∙ ap (λ x. Goes (flagged s (not x))) flag))
turn_run way job os s at truth false place are holds flag =
    record {
      reached = record {
        steps = 0;
        few = omega arith;
        after = s;
        leads = leads_none way job s;
        place = place ∙ (let e : at ≡ at + 0 = omega arith in e);
        are = are;
        kept = λ q h set. set;
      };
      flag = flag;
    }

differs_is : (left right : Truth) → differs left right ≡ exactly_one left right
differs_is true true = refl
differs_is true false = refl
differs_is false true = refl
differs_is false false = refl

xor_told : (way : Way) (job : Job) (s : State) (r : ℕ) (left right : Truth) → IsSet s r (truth_held left) → s.flag ≡ right → Moves way (act job s (Some (instr.Differ r))) (flagged s (exactly_one left right))
xor_told way job s r left right set flag =
    moves way (act job s (Some (instr.Differ r))) (flagged s (exactly_one left right))
    (differ_does job s r left set ∙ ap (λ x. Goes (flagged s x)) (ap (differs left) flag ∙ differs_is left right))

-- the truth that is kept, the second part, and whether the two differ
xor_run : (way : Way) (job : Job) (os : List Owner) (s : State) (at r : ℕ) (b : List Instr) (part : Typed) (right : Truth) → s.flag ≡ meaning part job.tree → s.at ≡ at →
    slice_get job.code at ≡ Some (instr.Save r) → Holds job (at + 1) (b ++ instr.Differ r ∷ []) → AreTrue job.tree os s.registers → IsOwned os r (OfPart part) →
    ((t : State) → t.at ≡ at + 1 → AreTrue job.tree os t.registers → Holds job (at + 1) b → Decides' way job os t (at + 1) b right) →
    Decided way job os s (at + 1 + length (b ++ instr.Differ r ∷ [])) (1 + length (b ++ instr.Differ r ∷ [])) (exactly_one (meaning part job.tree) right)
xor_run way job os s at r b part right flag place is holds are own second =
    let first = set_run way job os s at r (OfPart part) s.flag false (instr.Save r) place is are own (moves way _ _ (save_does job s r ∙ ap (λ x. sets s r (truth_held x)) flag)) (λ x. absurd (false_true x)) in
    let t = first.reached.after in
    let next = second t first.reached.place first.reached.are (holds_front job (at + 1) b (instr.Differ r ∷ []) holds) in
    let u = next.reached.after in
    let there = holds_back job (at + 1) b (instr.Differ r ∷ []) holds in
    let size = length-append b (instr.Differ r ∷ []) in
    decided_as way job os s (at + 1 + length b + 1) (at + 1 + length (b ++ instr.Differ r ∷ [])) (1 + (length b + 1)) (1 + length (b ++ instr.Differ r ∷ [])) (exactly_one (meaning part job.tree) right)
    (omega (arith, size)) (omega (arith, size))
    (decided_then way job os s (at + 1) (at + 1 + length b + 1) 1 (length b + 1) (exactly_one (meaning part job.tree) right) first.reached
    (decided_then way job os t (at + 1 + length b) (at + 1 + length b + 1) (length b) 1 (exactly_one (meaning part job.tree) right) next.reached
    (tell_run way job os u (at + 1 + length b) (exactly_one (meaning part job.tree) right) (instr.Differ r) next.reached.place there.0 next.reached.are
    (xor_told way job u r (meaning part job.tree) right (next.reached.kept r (truth_held (meaning part job.tree)) first.set) next.flag))))

-- a register is set, an instruction takes it, and others stand behind
set_parts : (way : Way) (job : Job) (os : List Owner) (s : State) (at r : ℕ) (code a b : List Instr) (i : Instr) (h : Held) (telling truth : Truth) → code ≡ a ++ i ∷ b → Loads' way job os s at a r h telling → Holds job at code →
    ((t : State) → IsSet t r h → t.at ≡ at + length a → slice_get job.code (at + length a) ≡ Some i → Holds job (at + length a + 1) b → AreTrue job.tree os t.registers →
    Decided way job os t (at + length a + 1 + length b) (1 + length b) truth) → Decides' way job os s at code truth
set_parts way job os s at r code a b i h telling truth is first holds rest =
    let there = holds_back job at a (i ∷ b) (subst (Holds job at) is holds) in
    let size = ap length is ∙ length-append a (i ∷ b) in
    decided_as way job os s (at + length a + 1 + length b) (at + length code) (length a + (1 + length b)) (length code) truth (omega (arith, size)) (omega (arith, size))
    (decided_then way job os s (at + length a) (at + length a + 1 + length b) (length a) (1 + length b) truth first.reached
    (rest first.reached.after first.set first.reached.place there.0 there.1 first.reached.are))

-- a test of two registers
two_test : (way : Way) (job : Job) (os : List Owner) (s : State) (at p q : ℕ) (code a b : List Instr) (i : Instr) (g h : Held) (inside other truth : Truth) → code ≡ a ++ (b ++ i ∷ []) →
    (Holds job at a → Loads' way job os s at a p g inside) →
    ((t : State) → Holds job (at + length a) b → t.at ≡ at + length a → AreTrue job.tree os t.registers → Loads' way job os t (at + length a) b q h other) → Holds job at code →
    ((t : State) → IsSet t p g → IsSet t q h → Moves way (act job t (Some i)) (flagged t truth)) → Decides' way job os s at code truth
two_test way job os s at p q code a b i g h inside other truth is left right holds does =
    let whole = subst (Holds job at) is holds in
    let rest = holds_back job at a (b ++ i ∷ []) whole in
    let first = left (holds_front job at a (b ++ i ∷ []) whole) in
    let t = first.reached.after in
    let second = right t (holds_front job (at + length a) b (i ∷ []) rest) first.reached.place first.reached.are in
    let u = second.reached.after in
    let there = holds_back job (at + length a) b (i ∷ []) rest in
    let size = ap length is ∙ length-append a (b ++ i ∷ []) ∙ ap (λ x. length a + x) (length-append b (i ∷ [])) in
    decided_as way job os s (at + length a + length b + 1) (at + length code) (length a + (length b + 1)) (length code) truth (omega (arith, size)) (sym size)
    (decided_then way job os s (at + length a) (at + length a + length b + 1) (length a) (length b + 1) truth first.reached
    (decided_then way job os t (at + length a + length b) (at + length a + length b + 1) (length b) 1 truth second.reached
    (tell_run way job os u (at + length a + length b) truth i second.reached.place there.0 second.reached.are (does u (second.reached.kept p g first.set) second.set))))

-- a term that stands alone
alone : (way : Way) (job : Job) (os : List Owner) (term : Term) (s : State) (at r : ℕ) (code : List Instr) → s.at ≡ at → AreTrue job.tree os s.registers → MayTerm way job.tree Least term → is_several term ≡ false →
    Loads os Least term r code → Holds job at code → Loads' way job os s at code r (has job.tree term) (tells term)
alone way job os term s at r code place are may is l holds =
    subst (λ (x : Held). Loads' way job os s at code r x (tells term)) (single job.tree Least term is) (loads_run way job os Least term s at r code place are may l holds)

pub code_runs : (way : Way) (job : Job) (os : List Owner) (filter : Typed) (s : State) (at : ℕ) (code : List Instr) → s.at ≡ at → AreTrue job.tree os s.registers → May way job.tree filter →
    IsCode os job.patterns filter code → Holds job at code → Decides' way job os s at code (meaning filter job.tree)
code_runs way job os (Either' p left q right) s at code place are may c holds =
    let front = holds_front job at c.0 (instr.JumpTrue (length c.1) ∷ c.1) (subst (Holds job at) c.4 holds) in
    both_parts way job os s at code c.0 c.1 (instr.JumpTrue (length c.1)) (meaning left job.tree) (meaning left job.tree || meaning right job.tree) c.4
    (code_runs way job os left s at c.0 place are may.0 c.2 front) holds
    (λ t flag there is rest good. or_run way job os t (at + length c.0) (length c.1) (meaning left job.tree) (meaning right job.tree) flag there is good
    (λ u here fine. code_runs way job os right u (at + length c.0 + 1) c.1 here fine may.1 c.3 rest))
code_runs way job os (Both' p left q right) s at code place are may c holds =
    let front = holds_front job at c.0 (instr.JumpFalse (length c.1) ∷ c.1) (subst (Holds job at) c.4 holds) in
    both_parts way job os s at code c.0 c.1 (instr.JumpFalse (length c.1)) (meaning left job.tree) (meaning left job.tree && meaning right job.tree) c.4
    (code_runs way job os left s at c.0 place are may.0 c.2 front) holds
    (λ t flag there is rest good. and_run way job os t (at + length c.0) (length c.1) (meaning left job.tree) (meaning right job.tree) flag there is good
    (λ u here fine. code_runs way job os right u (at + length c.0 + 1) c.1 here fine may.1 c.3 rest))
code_runs way job os (Differ' p left q right) s at code place are may c holds =
    let front = holds_front job at c.1 (instr.Save c.0 ∷ (c.2 ++ instr.Differ c.0 ∷ [])) (subst (Holds job at) c.6 holds) in
    both_parts way job os s at code c.1 (c.2 ++ instr.Differ c.0 ∷ []) (instr.Save c.0) (meaning left job.tree) (exactly_one (meaning left job.tree) (meaning right job.tree)) c.6
    (code_runs way job os left s at c.1 place are may.0 c.4 front) holds
    (λ t flag there is rest good. xor_run way job os t (at + length c.1) c.0 c.2 left (meaning right job.tree) flag there is rest good c.3
    (λ u here fine held. code_runs way job os right u (at + length c.1 + 1) c.2 here fine may.1 c.5 held))
code_runs way job os (Not' p filter) s at code place are may c holds =
    let whole = subst (Holds job at) c.2 holds in
    both_parts way job os s at code c.0 [] instr.Not (meaning filter job.tree) (not (meaning filter job.tree)) c.2
    (code_runs way job os filter s at c.0 place are may c.1 (holds_front job at c.0 (instr.Not ∷ []) whole)) holds
    (λ t flag there is rest good. decided_as way job os t (at + length c.0 + 1) (at + length c.0 + 1 + 0) 1 (1 + 0) (not (meaning filter job.tree)) (omega arith) (omega arith)
    (tell_run way job os t (at + length c.0) (not (meaning filter job.tree)) instr.Not there is good (moves way _ _ (not_does job t ∙ ap (λ x. Goes (flagged t (not x))) flag))))
code_runs way job os (Exists term) s at code place are may c holds =
    let l = alone way job os term s at c.0 code place are may.0 may.1 c.1 holds in
    record { reached = l.reached; flag = l.flag may.2 }
code_runs way job os (AnyBit term) s at code place are may c holds =
    one_test way job os s at c.0 code c.1 (instr.NonZero c.0) (has job.tree term) (tells term) (list_any is_nonzero (values_of_term term job.tree)) c.3
    (alone way job os term s at c.0 c.1 place are may.0 may.1 c.2 (holds_front job at c.1 (instr.NonZero c.0 ∷ []) (subst (Holds job at) c.3 holds))) holds
    (λ t set. moves_if way (can_mask (has job.tree term)) _ _ (nonzero_does job t c.0 (has job.tree term) set) may.2)
code_runs way job os (Compare relation choice left right) s at code place are may c holds =
    two_test way job os s at c.0 c.1 code c.2 c.3 (instr.Test choice relation c.0 c.1) (has job.tree left) (has job.tree right) (tells left) (tells right) (meaning (Compare relation choice left right) job.tree) c.6
    (λ h. alone way job os left s at c.0 c.2 place are may.0 may.2 c.4 h)
    (λ t h there good. alone way job os right t (at + length c.2) c.1 c.3 there good may.1 may.3 c.5 h) holds
    (λ t g h. moves_if way (can_compare relation (has job.tree left) (has job.tree right)) _ _ (test_does job t c.0 c.1 choice relation (has job.tree left) (has job.tree right) g h) may.4)
code_runs way job os (Among negated choice term ms) s at code place are may c holds =
    let whole = subst (Holds job at) c.3 holds in
    let found = passes choice (λ v. is_among ms.items v) (values_of_term term job.tree) in
    set_parts way job os s at c.0 code c.1 (turned negated) (instr.In choice c.0 ms.items) (has job.tree term) (tells term) (opposite negated found) c.3
    (alone way job os term s at c.0 c.1 place are may.0 may.1 c.2 (holds_front job at c.1 (instr.In choice c.0 ms.items ∷ turned negated) whole)) holds
    (λ t set there is rest good.
    let does = moves_if way (can_be_among ms.items (has job.tree term)) _ _ (in_does job t c.0 choice ms.items (has job.tree term) set) may.2 in
    let first = tell_run way job os t (at + length c.1) found (instr.In choice c.0 ms.items) there is good does in
    decided_then way job os t (at + length c.1 + 1) (at + length c.1 + 1 + length (turned negated)) 1 (length (turned negated)) (opposite negated found) first.reached
    (turn_run way job os first.reached.after (at + length c.1 + 1) found negated first.reached.place first.reached.are rest first.flag))
code_runs way job os (Matches choice term pattern) s at code place are may c holds =
    let r = c.2.0 in
    let inner = c.2.1 in
    one_test way job os s at r code inner (instr.Match choice r c.0) (has job.tree term) (tells term) (meaning (Matches choice term pattern) job.tree) c.2.3
    (alone way job os term s at r inner place are may.0 may.1 c.2.2 (holds_front job at inner (instr.Match choice r c.0 ∷ []) (subst (Holds job at) c.2.3 holds))) holds
    (λ t set. moves_if way (can_search (has job.tree term)) _ _ (match_does job t r c.0 choice pattern (has job.tree term) set c.1) may.2)

-- the code of the whole stands at its place
get_behind : (front : List Instr) (i : Instr) (rest : List Instr) → slice_get (front ++ i ∷ rest) (length front) ≡ Some i
get_behind [] i rest = refl
get_behind (x ∷ front) i rest = get_behind front i rest

holds_whole : (job : Job) (front code : List Instr) → job.code ≡ front ++ code → Holds job (length front) code
holds_whole job front [] is = tt
holds_whole job front (i ∷ code) is = (
  ap (λ x. slice_get x (length front)) is ∙ get_behind front i code,
  subst (λ (x : ℕ). Holds job x code) (length-append front (i ∷ [])) (holds_whole job (front ++ i ∷ []) code (is ∙ sym (append_assoc front (i ∷ []) code))),
)

-- what is run of a program for a filter's code
abbrev whole_job : List (List ℕ) → List Instr → TreeShown → Job
whole_job patterns code tree = record { code = code ++ instr.Return ∷ []; patterns = patterns; tree = tree }

whole_decided : (way : Way) (os : List Owner) (patterns : List (List ℕ)) (filter : Typed) (code : List Instr) (tree : TreeShown) → IsCode os patterns filter code → May way tree filter →
    Decided way (whole_job patterns code tree) os (start (length os)) (0 + length code) (length code) (meaning filter tree)
whole_decided way os patterns filter code tree is may =
    let job = whole_job patterns code tree in
    code_runs way job os filter (start (length os)) 0 code refl (unset_true tree os) may is (holds_front job 0 code (instr.Return ∷ []) (holds_whole job [] (code ++ instr.Return ∷ []) refl))

-- behind a filter's code stands RETURN
whole_ends : (patterns : List (List ℕ)) (code : List Instr) (tree : TreeShown) (t : State) → t.at ≡ 0 + length code → step (whole_job patterns code tree) t ≡ Ends t.flag
whole_ends patterns code tree t place =
    let job = whole_job patterns code tree in
    let there = holds_back job 0 code (instr.Return ∷ []) (holds_whole job [] (code ++ instr.Return ∷ []) refl) in
    at_place job t (0 + length code) instr.Return place there.0 ∙ return_does job t

-- the program's run
pub whole_runs : (os : List Owner) (patterns : List (List ℕ)) (filter : Typed) (code : List Instr) (tree : TreeShown) → IsCode os patterns filter code → May There tree filter →
    (steps : ℕ) × (steps ≤ length (code ++ instr.Return ∷ [])) × Runs (whole_job patterns code tree) steps (start (length os)) (meaning filter tree)
whole_runs os patterns filter code tree is may =
    let d = whole_decided There os patterns filter code tree is may in
    let t = d.reached.after in
    let last = whole_ends patterns code tree t d.reached.place in
    let end : Runs (whole_job patterns code tree) 1 t (meaning filter tree) =
    subst (λ (move : Move). LeadsOn move 0 (meaning filter tree) (λ next. Runs (whole_job patterns code tree) 0 next (meaning filter tree))) (sym last) (refl, d.flag) in
    (d.reached.steps + 1, omega (arith, d.reached.few, length-append code (instr.Return ∷ [])), d.reached.leads 1 (meaning filter tree) end)

last_told : (job : Job) (t : State) (told flag : Truth) (k : ℕ) → step job t ≡ Ends told → Runs job k t flag → told ≡ flag
last_told job t told flag zero is run = absurd run
last_told job t told flag (suc k) is run = (subst (λ (move : Move). LeadsOn move k flag (λ next. Runs job k next flag)) is run).1

-- what each run of the program that there is ends with
pub whole_agrees : (os : List Owner) (patterns : List (List ℕ)) (filter : Typed) (code : List Instr) (tree : TreeShown) → IsCode os patterns filter code → May IfThere tree filter →
    (steps : ℕ) (flag : Truth) → Runs (whole_job patterns code tree) steps (start (length os)) flag → flag ≡ meaning filter tree
whole_agrees os patterns filter code tree is may steps flag run =
    let d = whole_decided IfThere os patterns filter code tree is may in
    let t = d.reached.after in
    let rest = d.reached.leads steps flag run in
    sym (last_told (whole_job patterns code tree) t t.flag flag rest.0 (whole_ends patterns code tree t d.reached.place) rest.1) ∙ d.flag
