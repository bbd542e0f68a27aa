-- What a filter is compiled to.
use Rattle.std.specs.Prelude.{◌≡◌, ℕ, ◌≤◌, Bool as Truth, length}
use Rattle.flt_mean.specs.Meaning.{meaning}
use Rattle.flt_typed.specs.declared.typed.Typed.{Typed}
use Rattle.flt_program.specs.Programs.{Code}
use Rattle.flt_vm.specs.Programs.{RunsOn}
use Rattle.pk_tree.specs.Trees.{IsTree, TreeShown}

-- in every tree the program's run exists, has no more steps than the program has instructions, and ends with the truth of
-- the filter
unfoldable pub Decides : Code → Typed → Type 0
Decides code filter = (tree : TreeShown) → IsTree tree → (steps : ℕ)
    × (steps ≤ length code.items) × RunsOn code filter tree steps (meaning filter tree)

-- in every tree, of whatever shape, a run of the program that there is ends with the truth of the filter
unfoldable pub Agrees : Code → Typed → Type 0
Agrees code filter = (tree : TreeShown) (steps : ℕ) (flag : Truth)
    → RunsOn code filter tree steps flag → flag ≡ meaning filter tree
