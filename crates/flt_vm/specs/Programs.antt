-- What programs are for.
use Rattle.std.specs.Prelude.{ℕ, Bool as Truth, List}
use Rattle.flt_typed.specs.declared.typed.Typed.{Typed}
use Rattle.flt_program.specs.Programs.{Code, patterns_of}
use Rattle.flt_vm.specs.Machine.{Job, Runs, start}
use Rattle.pk_tree.specs.Trees.{IsTree, TreeShown}

-- a program's run for a filter over a tree
abbrev pub job_of : Code → Typed → TreeShown → Job
job_of code filter tree =
    record { code = code.items; patterns = patterns_of filter; tree = tree }

abbrev pub RunsOn : Code → Typed → TreeShown → ℕ → Truth → Type 0
RunsOn code filter tree steps flag =
    Runs (job_of code filter tree) steps (start code.registers) flag

-- the program fits the filter: its run exists in every tree, so each pattern that it meets is one of the filter's
unfoldable pub FitsFilter : Code → Typed → Type 0
FitsFilter code filter =
    (tree : TreeShown) → IsTree tree → (steps : ℕ) × (flag : Truth)
    × RunsOn code filter tree steps flag

-- a machine: a program, and the patterns that it searches for
pub record Ready : Type 0 where
  pub code : Code
  pub patterns : List (List ℕ)
