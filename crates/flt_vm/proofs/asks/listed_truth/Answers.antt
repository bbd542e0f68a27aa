use Rattle.std.proofs.Common.{ap, sym, ◌∙◌}
use Rattle.flt_vm.proofs.StepLemmas.{held_set}
use Rattle.flt_vm.specs.Held.{one_truth}
use Rattle.flt_vm.specs.Slots.{truth_of}
use Rattle.flt_vm.proofs.asks.listed_truth.Goals as goal

pub returns-in-Ok : goal.returns-in-Ok
returns-in-Ok c =
    let held = held_set c.args.source.now c.args.slot.now c.requires in
    c.truth_of.ensures ∙ ap one_truth (c.slice.ensures ∙ c.in-Ok.ensures held.0 held.1) ∙ sym (ap truth_of held.1)
