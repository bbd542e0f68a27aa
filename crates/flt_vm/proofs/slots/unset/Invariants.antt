use Rattle.std.proofs.Common.{◌≡◌, ◌<◌, ℕ, length, get_or}
use Rattle.flt_vm.specs.declared.slots.Slot.TheVariants as slots
use Rattle.flt_vm.proofs.slots.unset.Given as goal

abbrev pub invariant-loop-register : goal.invariant-loop-register
invariant-loop-register l = record {
  count : length l.slots ≡ length l.fn.slots;
  unset : (k : ℕ) → k < l.register → get_or l.slots k slots.Unset ≡ slots.Unset;
}
