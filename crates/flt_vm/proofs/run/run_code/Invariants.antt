use Rattle.std.proofs.Common.{◌≡◌, ◌≤◌, ◌<◌, ◌-◌, false, length}
use Rattle.flt_vm.specs.Slots.{LeadsTo, state_in}
use Rattle.flt_vm.specs.declared.slots.Flag.TheVariants.{Known}
use Rattle.flt_vm.proofs.run.run_code.Given as goal

abbrev pub invariant-steps : goal.invariant-steps
invariant-steps l = record {
  inside : l.at < length l.fn.code;
  few : l.steps ≤ l.at;
  count : length l.slots ≡ length l.fn.slots;
  searches : l.searches ≡ l.fn.searches;
  way : LeadsTo (record { code = l.fn.code; patterns = l.fn.searches; tree = l.fn.source }) (state_in l.fn.source 0 (Known false) l.fn.slots) (state_in l.fn.source l.at l.flag l.slots) l.steps;
}

abbrev pub decreases-steps : goal.decreases-steps
decreases-steps l = length l.fn.code - l.at
