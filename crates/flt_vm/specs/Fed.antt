-- Programs whose instructions find what they take: those are the ones that have a run.
use Rattle.std.specs.Prelude.{◌≡◌, ◌<◌, ◌≤◌, ◌⊎◌, ℕ, zero, suc, Bool as Truth, true, List, length, Option, Some, slice_get}
use Rattle.std.specs.Option.{is_some}
use Rattle.flt_program.specs.Programs.{Code, IsProgram}
use Rattle.flt_program.specs.declared.instr.Instr.{Instr}
use Rattle.flt_program.specs.declared.instr.Instr.TheVariants as instr
use Rattle.flt_typed.specs.declared.typed.Typed.{Typed}
use Rattle.flt_vm.specs.Held.{Held, can_be_among, can_call, can_compare, can_compute, can_mask, can_search, can_slice, kept_truth}
use Rattle.flt_vm.specs.Machine.{Job, Move, Goes, Runs, State, start, step}
use Rattle.flt_vm.specs.Possible.{HasRun}
use Rattle.flt_vm.specs.Programs.{FitsFilter, RunsOn}
use Rattle.flt_vm.specs.Verdicts.{verdict_of}
use Rattle.flt_vm.specs.declared.run.Verdict.{Verdict}
use Rattle.pk_tree.specs.Trees.{IsTree, TreeShown}

-- a register is set, to what passes a test
abbrev pub HoldsSuch : List (Option Held) → ℕ → (Held → Truth) → Type 0
HoldsSuch registers r test =
    (held : Held) × (slice_get registers r ≡ Some (Some held)) × (test held ≡ true)

-- two are, to what can be compared
abbrev pub HoldComparable : List (Option Held) → ℕ → ℕ → (Held → Held → Truth) → Type 0
HoldComparable registers p q test = (left right : Held)
    × (slice_get registers p ≡ Some (Some left)) × (slice_get registers q ≡ Some (Some right))
    × (test left right ≡ true)

-- an instruction finds what it takes: registers that are set, to values of the kinds that it is for or to one truth, and
-- a pattern of its number
abbrev pub IsFed : Job → List (Option Held) → Instr → Type 0
IsFed job registers (instr.Slice r q ranges) = HoldsSuch registers q can_slice
IsFed job registers (instr.Mask r q mask) = HoldsSuch registers q can_mask
IsFed job registers (instr.Call r function q) = HoldsSuch registers q (can_call function)
IsFed job registers (instr.Compute r operation p q) =
    HoldsSuch registers p can_compute × HoldsSuch registers q can_compute
IsFed job registers (instr.Choose r extreme p q) =
    HoldsSuch registers p can_compute × HoldsSuch registers q can_compute
IsFed job registers (instr.Test choice relation p q) =
    HoldComparable registers p q (can_compare relation)
IsFed job registers (instr.In choice r ms) = HoldsSuch registers r (can_be_among ms)
IsFed job registers (instr.Match choice r n) =
    HoldsSuch registers r can_search × (n < length job.patterns)
IsFed job registers (instr.NonZero r) = HoldsSuch registers r can_mask
IsFed job registers (instr.Differ r) =
    HoldsSuch registers r (λ held. is_some (kept_truth held))
IsFed job registers i = Unit {0}

-- a step leads on to such a state
abbrev pub LeadsInto : Move → (State → Type 0) → Type 0
LeadsInto (Goes s) Such = Such s
LeadsInto move Such = ⊥

-- so many steps lead from one state to another
abbrev pub Comes : Job → ℕ → State → State → Type 0
Comes job zero s t = s ≡ t
Comes job (suc n) s t = LeadsInto (step job s) (λ next. Comes job n next t)

-- wherever the steps from a state come to, the instruction there finds what it takes
abbrev pub IsFedFrom : Job → State → Type 0
IsFedFrom job s = (n : ℕ) (t : State) (i : Instr) → Comes job n s t
    → slice_get job.code t.at ≡ Some i → IsFed job t.registers i

-- they come to one that doesn't
abbrev pub LacksFrom : Job → State → Type 0
LacksFrom job s = (n : ℕ) × (t : State) × (i : Instr) × Comes job n s t
    × (slice_get job.code t.at ≡ Some i) × (IsFed job t.registers i → ⊥)

-- what a program's instructions do on a tree, with patterns
abbrev pub job_with : Code → List (List ℕ) → TreeShown → Job
job_with code patterns tree =
    record { code = code.items; patterns = patterns; tree = tree }

-- a program has a run on a tree, of at most as many steps as it has instructions
abbrev pub HasShortRun : Code → List (List ℕ) → TreeShown → Type 0
HasShortRun code patterns tree = (steps : ℕ) × (flag : Truth)
    × (steps ≤ length code.items)
    × Runs (job_with code patterns tree) steps (start code.registers) flag

-- on every tree a program has a run, or comes to an instruction that doesn't find what it takes
abbrev pub ProgramsRunOrLack : Type 0
ProgramsRunOrLack = (code : Code) (patterns : List (List ℕ)) (tree : TreeShown) → IsProgram code
    → HasShortRun code patterns tree
    ⊎ LacksFrom (job_with code patterns tree) (start code.registers)

-- so it has one where each finds what it takes
abbrev pub FedProgramsRun : Type 0
FedProgramsRun = (code : Code) (patterns : List (List ℕ)) (tree : TreeShown) → IsProgram code
    → IsFedFrom (job_with code patterns tree) (start code.registers)
    → HasShortRun code patterns tree

-- and nowhere else
abbrev pub RunsAreFed : Type 0
RunsAreFed = (job : Job) (s : State) → HasRun job s → IsFedFrom job s

-- a program that fits its filter answers something of every tree, which is what its run ends with
abbrev pub FittingProgramsAnswer : Type 0
FittingProgramsAnswer = (code : Code) (filter : Typed) (tree : TreeShown) → IsProgram code
    → FitsFilter code filter → IsTree tree → (verdict : Verdict)
    × (verdict_of code filter tree ≡ Some verdict)
    × RunsOn code filter tree verdict.steps verdict.holds
    × (verdict.steps ≤ length code.items)
