-- The machine: a place, a flag and registers; one step by the instruction at the place; and a run, the steps up to
-- RETURN and with it.
use Rattle.std.specs.Prelude.{◌≡◌, ℕ, zero, suc, ◌+◌, Bool as Truth, true, false, not, List, [], ◌∷◌, ◌++◌, length, replicate, Option, Some, None}
use Rattle.std.specs.List.{filter_map, list_any, slice_get, slice_set}
use Rattle.std.specs.Option.{option_to_list}
use Rattle.flt_lists.specs.Called.{values_called}
use Rattle.flt_lists.specs.Pairs.{values_calculated}
use Rattle.flt_lists.specs.Passes.{compares, is_some_value, passes}
use Rattle.flt_lists.specs.Questions.{is_among, is_matched}
use Rattle.flt_typed.specs.Arithmetic.{extreme_of}
use Rattle.flt_typed.specs.Calls.{is_nonzero, masked}
use Rattle.flt_typed.specs.Slices.{sliced}
use Rattle.flt_vm.specs.Held.{Held, can_be_among, can_call, can_compare, can_compute, can_mask, can_search, can_slice, constant_held, kept_truth, plain, truth_held}
use Rattle.flt_program.specs.declared.instr.Instr.{Instr}
use Rattle.flt_program.specs.declared.instr.Instr.TheVariants as instr
use Rattle.pk_tree.specs.FieldValues.{values_of}
use Rattle.pk_tree.specs.Trees.{TreeShown}
use Rattle.pk_base.specs.declared.value.Value.{Value}
use Rattle.pk_base.specs.declared.value.Value.TheVariants as values

pub record State : Type 0 where
  pub at : ℕ
  pub flag : Truth
  pub registers : List (Option Held)

-- what is run: a program's instructions, the patterns of its filter, and a tree
pub record Job : Type 0 where
  pub code : List Instr
  pub patterns : List (List ℕ)
  pub tree : TreeShown

-- a step leads to a state, or ends the run with the flag; where there is no step, it is missing
pub data Move : Type 0 where
  Goes : (s : State) → Move
  Ends : (flag : Truth) → Move
  Missing : Move

-- the flag is told
abbrev pub tells : State → Truth → Move
tells s flag = Goes (record { at = s.at + 1; flag = flag; registers = s.registers })

-- a register is set
abbrev pub sets : State → ℕ → Held → Move
sets s r held = Goes
    (record { at = s.at + 1; flag = s.flag; registers = slice_set s.registers r (Some held) })

-- a register is set, and the flag tells whether it has a value
abbrev pub fills : State → ℕ → Held → Move
fills s r held = Goes
    (record {
      at = s.at + 1;
      flag = is_some_value held.values;
      registers = slice_set s.registers r (Some held);
    })

-- so many instructions are passed over, or none
abbrev pub jumps : State → Truth → ℕ → Move
jumps s true n =
    Goes (record { at = s.at + 1 + n; flag = s.flag; registers = s.registers })
jumps s false n = Goes (record { at = s.at + 1; flag = s.flag; registers = s.registers })

-- what is there is taken
abbrev pub given : {A : Type 0} → Option A → (A → Move) → Move
given (Some x) go = go x
given None go = Missing

-- a register that is there and set is taken
abbrev pub with_held : Option (Option Held) → (Held → Move) → Move
with_held (Some (Some held)) go = go held
with_held register go = Missing

abbrev pub only_if : Truth → Move → Move
only_if true move = move
only_if false move = Missing

-- what a register holds already, else something new
abbrev pub kept : Option (Option Held) → Held → Held
kept (Some (Some held)) new = held
kept register new = new

-- a register is set to values where it is unset, and the flag tells whether it has one
abbrev pub reads : State → ℕ → List Value → Move
reads s r vs = fills s r (kept (slice_get s.registers r) (plain vs))

-- whether two truths differ
abbrev pub differs : Truth → Truth → Truth
differs true flag = not flag
differs false flag = flag

-- what an instruction does
unfoldable pub act : Job → State → Option Instr → Move
act job s None = Missing
act job s (Some (instr.Read r field layers)) =
    reads s r (values_of job.tree field layers)
act job s (Some (instr.Const r c)) = sets s r (constant_held c)
act job s (Some (instr.Slice r q ranges)) = with_held (slice_get s.registers q) (λ held.
    only_if (can_slice held)
    (fills s r (plain (filter_map (λ value. sliced value ranges) held.values))))
act job s (Some (instr.Mask r q mask)) = with_held (slice_get s.registers q) (λ held.
    only_if (can_mask held)
    (sets s r (plain (filter_map (λ value. masked mask value) held.values))))
act job s (Some (instr.Call r function q)) = with_held (slice_get s.registers q) (λ held.
    only_if (can_call function held) (sets s r (plain (values_called function held.values))))
act job s (Some (instr.Count r field layers)) =
    sets s r (plain (values.Uint (length (values_of job.tree field layers)) ∷ []))
act job s (Some (instr.Compute r operation p q)) = with_held (slice_get s.registers p) (λ left.
    with_held (slice_get s.registers q) (λ right.
    only_if (can_compute left) (only_if (can_compute right)
    (sets s r (plain (values_calculated operation left.values right.values))))))
act job s (Some (instr.Choose r extreme p q)) = with_held (slice_get s.registers p) (λ left.
    with_held (slice_get s.registers q) (λ right.
    only_if (can_compute left) (only_if (can_compute right)
    (sets s r (plain (option_to_list (extreme_of extreme (left.values ++ right.values))))))))
act job s (Some (instr.Save r)) = sets s r (truth_held s.flag)
act job s (Some (instr.Test choice relation p q)) = with_held (slice_get s.registers p) (λ left.
    with_held (slice_get s.registers q) (λ right.
    only_if (can_compare relation left right)
    (tells s (compares relation choice left.values right.values right.prefix))))
act job s (Some (instr.In choice r ms)) = with_held (slice_get s.registers r) (λ held.
    only_if (can_be_among ms held) (tells s (passes choice (λ v. is_among ms v) held.values)))
act job s (Some (instr.Match choice r n)) = with_held (slice_get s.registers r) (λ held.
    given (slice_get job.patterns n) (λ pattern.
    only_if (can_search held)
    (tells s (passes choice (λ v. is_matched pattern v) held.values))))
act job s (Some (instr.NonZero r)) = with_held (slice_get s.registers r) (λ held.
    only_if (can_mask held) (tells s (list_any is_nonzero held.values)))
act job s (Some instr.Not) = tells s (not s.flag)
act job s (Some (instr.Differ r)) = with_held (slice_get s.registers r) (λ held.
    given (kept_truth held) (λ truth. tells s (differs truth s.flag)))
act job s (Some (instr.JumpFalse n)) = jumps s (not s.flag) n
act job s (Some (instr.JumpTrue n)) = jumps s s.flag n
act job s (Some instr.Return) = Ends s.flag

-- one step
abbrev pub step : Job → State → Move
step job s = act job s (slice_get job.code s.at)

-- the first of a run's steps leads to the rest of so many more; RETURN is the last
abbrev pub LeadsOn : Move → ℕ → Truth → (State → Type 0) → Type 0
LeadsOn (Goes s) n flag Rest = Rest s
LeadsOn (Ends verdict) n flag Rest = (n ≡ 0) × (verdict ≡ flag)
LeadsOn Missing n flag Rest = ⊥

-- the run from a state has so many steps, and ends with the flag
abbrev pub Runs : Job → ℕ → State → Truth → Type 0
Runs job zero s flag = ⊥
Runs job (suc n) s flag = LeadsOn (step job s) n flag (λ next. Runs job n next flag)

-- where a run begins: so many registers, none of them set
abbrev pub start : ℕ → State
start count = record { at = 0; flag = false; registers = replicate count None }
