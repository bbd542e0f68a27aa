use Rattle.std.proofs.Common.{◌≤◌, ◌-◌, vec_len}
use Rattle.flt_vm.proofs.machine.all_unset.Given as goal

abbrev pub invariant-slots : goal.invariant-slots
invariant-slots l = vec_len l.slots ≤ l.count

abbrev pub decreases-slots : goal.decreases-slots
decreases-slots l = l.count - vec_len l.slots
