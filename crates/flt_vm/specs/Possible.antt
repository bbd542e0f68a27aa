-- That a run exists, and what it answers.
use Rattle.std.specs.Prelude.{◌≡◌, ℕ, Bool as Truth}
use Rattle.flt_vm.specs.Machine.{Job, Runs, State, start}
use Rattle.flt_vm.specs.Programs.{Ready}
use Rattle.flt_vm.specs.declared.run.Verdict.{Verdict}
use Rattle.pk_tree.specs.Trees.{TreeShown}

-- there is a run from a state
abbrev pub HasRun : Job → State → Type 0
HasRun job s = (steps : ℕ) × (flag : Truth) × Runs job steps s flag

-- a verdict is that of each run from a state
abbrev pub IsVerdict : Job → State → Verdict → Type 0
IsVerdict job s v = (steps : ℕ) (flag : Truth) → Runs job steps s flag
    → (v.steps ≡ steps) × (v.holds ≡ flag)

-- what a machine runs on a tree
abbrev pub job_on : Ready → TreeShown → Job
job_on machine tree =
    record { code = machine.code.items; patterns = machine.patterns; tree = tree }

-- a machine's program has a run on a tree
abbrev pub CanRun : Ready → TreeShown → Type 0
CanRun machine tree = HasRun (job_on machine tree) (start machine.code.registers)

-- a verdict is what it answers of a tree, if it has one
abbrev pub IsAnswer : Ready → TreeShown → Verdict → Type 0
IsAnswer machine tree v = IsVerdict (job_on machine tree) (start machine.code.registers) v
