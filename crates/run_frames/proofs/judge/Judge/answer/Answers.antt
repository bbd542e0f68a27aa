use Rattle.std.proofs.Common.{subst, sym}
use Rattle.flt_vm.specs.Machine.{Runs, start}
use Rattle.flt_vm.specs.Possible.{CanRun}
use Rattle.flt_program.specs.Programs.{Code, patterns_of}
use Rattle.flt_vm.specs.Programs.{FitsFilter, Ready}
use Rattle.pk_tree.specs.Trees.{IsTree, TreeShown}
use Rattle.run_frames.specs.Compiled.{CompiledShown, IsReadyFor}
use Rattle.run_frames.proofs.judge.Judge.answer.Goals as goal

-- a machine that is ready for a program that fits its filter has a run on each tree
ready_runs : (compiled : CompiledShown) (machine : Ready) (tree : TreeShown) → IsReadyFor compiled machine → IsTree tree → CanRun machine tree
unfolding FitsFilter
ready_runs compiled machine tree ready is =
    let run = ready.fits tree is in
    let by_code = subst (λ (code : Code). Runs (record { code = code.items; patterns = patterns_of compiled.filter; tree = tree }) run.0 (start code.registers) run.1) (sym ready.code) run.2 in
    (run.0, run.1, subst (λ ps. Runs (record { code = machine.code.items; patterns = ps; tree = tree }) run.0 (start machine.code.registers) run.1) (sym ready.patterns) by_code)

pub run_source-requires : goal.run_source-requires
run_source-requires c = ready_runs _ _ c.args.source.now c.self.invariant c.lender-lender.ensures.fits
