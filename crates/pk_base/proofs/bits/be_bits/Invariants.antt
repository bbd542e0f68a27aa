use Rattle.std.proofs.Common.{◌≡◌, ◌<◌, ◌≤◌, ◌-◌, ◌^◌}
use Rattle.pk_base.specs.Bits.{number_of_bits}
use Rattle.pk_base.proofs.bits.be_bits.Given as goal

abbrev pub invariant-loop-done : goal.invariant-loop-done
invariant-loop-done l = (l.done ≤ l.width) × (l.number ≡ number_of_bits l.bytes l.first_bit l.done) × (l.number < 2 ^ l.done)

abbrev pub decreases-loop-done : goal.decreases-loop-done
decreases-loop-done l = l.width - l.done
