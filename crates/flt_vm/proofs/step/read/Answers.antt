use Rattle.std.proofs.Common.{refl, sym, ◌∙◌}
use Rattle.flt_vm.specs.declared.slots.Slot.TheVariants as slots
use Rattle.pk_tree.specs.FieldValues.{values_of}
use Rattle.flt_vm.proofs.StepLemmas.{reads_unset, reads_set}
use Rattle.flt_vm.proofs.step.read.Goals.{then-is_unset, else-is_unset}
use Rattle.flt_vm.proofs.step.read.Goals as goal

pub returns-clause-read : goal.returns-clause-read
returns-clause-read c =
    let tree = c.args.source.now in
    let all = c.args.slots.now in
    let vs = values_of tree c.args.field c.args.layers.now in
    elim c.if-is_unset.branch [
      | then-is_unset w ↦ reads_unset tree c.args.flag.now c.flag_for.result all c.if-is_unset.slots c.args.register c.index-slots-register.result c.index-slots-register-2.result
          (slots.Field c.args.field c.args.layers) vs c.requires (sym c.is_unset.ensures ∙ w.if-is_unset.true) w.slots-is refl (c.flag_for.ensures tree)
      | else-is_unset w ↦ reads_set tree c.args.flag.now c.flag_for.result all c.if-is_unset.slots c.args.register c.index-slots-register.result c.index-slots-register-2.result
          vs c.requires (sym c.is_unset.ensures ∙ w.if-is_unset.false) w.slots-is (c.flag_for.ensures tree)
    ]
