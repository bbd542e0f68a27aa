use Rattle.std.proofs.Common.{arith, length}
use Rattle.flt_vm.proofs.RunLemmas.{all_unset}
use Rattle.flt_vm.proofs.slots.unset.Goals as goal

pub returns-clause-unset : goal.returns-clause-unset
returns-clause-unset c = λ tree.
    all_unset tree c.loop-register.slots (length c.args.slots.now) c.loop-register.invariant.count (λ k less. c.loop-register.invariant.unset k (omega arith))
