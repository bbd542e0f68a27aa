-- What a program answers of a tree, as a function.
use Rattle.std.specs.Prelude.{◌≡◌, ℕ, zero, suc, ◌+◌, ◌≤◌, Bool as Truth, true, List, length, Option, Some, None, option_map}
use Rattle.flt_typed.specs.declared.typed.Typed.{Typed}
use Rattle.flt_vm.specs.Machine.{Job, Move, Goes, Ends, Missing, Runs, State, start, step}
use Rattle.flt_program.specs.Asked.{HasCode}
use Rattle.flt_program.specs.Programs.{Code}
use Rattle.flt_vm.specs.Programs.{job_of}
use Rattle.flt_vm.specs.declared.run.Verdict.{Verdict}
use Rattle.pk_fields.specs.FieldSets.{is_in}
use Rattle.pk_tree.specs.FieldValues.{values_of}
use Rattle.pk_tree.specs.Trees.{TreeShown}
use Rattle.pk_base.specs.declared.chosen.Layers.{Layers}

-- with one step more
abbrev pub a_step_more : Verdict → Verdict
a_step_more v = record { holds = v.holds; steps = v.steps + 1 }

-- what a run answers that begins with this step, by what it answers from the next state
abbrev pub ended : Move → (State → Option Verdict) → Option Verdict
ended (Goes s) rest = option_map a_step_more (rest s)
ended (Ends flag) rest = Some (record { holds = flag; steps = 1 })
ended Missing rest = None

-- what a run of at most so many steps answers
abbrev pub run_of : Job → ℕ → State → Option Verdict
run_of job zero s = None
run_of job (suc most) s = ended (step job s) (λ next. run_of job most next)

-- what a program answers of a tree: a run that has more steps than the program has instructions has none
unfoldable pub verdict_of : Code → Typed → TreeShown → Option Verdict
verdict_of code filter tree =
    run_of (job_of code filter tree) (length code.items) (start code.registers)

-- two trees have the same values of the fields of a set
abbrev pub HaveSame : List ℕ → TreeShown → TreeShown → Type 0
HaveSame set t u = (field : ℕ) (layers : Layers) → is_in set field ≡ true
    → values_of u field layers ≡ values_of t field layers

-- what a run ends with is computed
abbrev pub RunsAreComputed : Type 0
RunsAreComputed = (job : Job) (s : State) (steps most : ℕ) (flag : Truth) → Runs job steps s flag
    → steps ≤ most → run_of job most s ≡ Some (record { holds = flag; steps = steps })

-- and what is computed is what a run ends with
abbrev pub ComputedIsRun : Type 0
ComputedIsRun = (job : Job) (s : State) (most : ℕ) (verdict : Verdict)
    → run_of job most s ≡ Some verdict → Runs job verdict.steps s verdict.holds

-- a program answers the same of trees that have the same values of the fields that it asks for
abbrev pub VerdictsAlike : Type 0
VerdictsAlike = (set : List ℕ) (code : Code) (filter : Typed) (t u : TreeShown)
    → HaveSame set t u → HasCode set code → verdict_of code filter u ≡ verdict_of code filter t
