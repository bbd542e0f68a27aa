use Rattle.std.proofs.Common.{ap, refl, sym, ◌∙◌}
use Rattle.flt_vm.specs.Slots.{flag_in}
use Rattle.flt_program.specs.declared.instr.Instr.TheVariants as instr
use Rattle.flt_vm.specs.declared.slots.Slot.TheVariants as slots
use Rattle.flt_vm.proofs.StepLemmas.{call_does, choose_does, compute_does, count_does, does_same, held_got, held_there, mask_does, set_ok, slice_does}
use Rattle.flt_vm.proofs.step.make_values.Goals as goal

pub returns-in-Slice : goal.returns-in-Slice
returns-in-Slice c = record {
  does = set_ok c.fill.result c.sliced-values.result _ _ _ c.fill.ensures.set c.sliced-values.ensures
      (λ vs are put job at tree patterns. does_same job _ _ _ _ (c.in-Slice.is ∙ ap (instr.Slice c.in-Slice.register c.in-Slice.from) (sym c.slice.ensures))
      (slice_does c.args.source.now c.args.flag.now c.fill.new.flag c.args.slots.now c.fill.new.slots c.in-Slice.register c.in-Slice.from c.slice.result.now vs.items (slots.Values vs) refl
      (λ h held. are h (held_got c.args.source.now c.args.slots.now c.in-Slice.from c.index-slots-from.result h held)) put.0 (ap (flag_in c.args.source.now) put.1) job at));
  count = c.fill.ensures.count;
  searches = refl;
}

pub returns-in-Mask : goal.returns-in-Mask
returns-in-Mask c = record {
  does = set_ok c.set.result c.masked-values.result _ _ _ c.set.ensures.set c.masked-values.ensures
      (λ vs are put job at tree patterns. does_same job _ _ _ _ c.in-Mask.is
      (mask_does c.args.source.now c.args.slots.now c.set.new.slots c.in-Mask.register c.in-Mask.from c.in-Mask.bits vs.items (slots.Values vs) refl
      (λ h held. are h (held_got c.args.source.now c.args.slots.now c.in-Mask.from c.index-slots-from-in-Mask.result h held)) put job at c.args.flag.now));
  count = c.set.ensures.count;
  searches = refl;
}

pub returns-in-Call : goal.returns-in-Call
returns-in-Call c = record {
  does = set_ok c.set-in-Call.result c.called-values.result _ _ _ c.set-in-Call.ensures.set c.called-values.ensures
      (λ vs are put job at tree patterns. does_same job _ _ _ _ c.in-Call.is
      (call_does c.args.source.now c.args.slots.now c.set-in-Call.new.slots c.in-Call.register c.in-Call.function c.in-Call.from vs.items (slots.Values vs) refl
      (λ h held. are h (held_got c.args.source.now c.args.slots.now c.in-Call.from c.index-slots-from-in-Call.result h held)) put job at c.args.flag.now));
  count = c.set-in-Call.ensures.count;
  searches = refl;
}

pub returns-in-Count : goal.returns-in-Count
returns-in-Count c = record {
  does = set_ok c.set-in-Count.result c.counted-values.result _ _ _ c.set-in-Count.ensures.set c.counted-values.ensures
      (λ vs are put job at tree patterns. does_same job _ _ _ _ c.in-Count.is
      (count_does c.args.source.now c.args.slots.now c.set-in-Count.new.slots c.in-Count.register c.in-Count.field c.in-Count.layers vs.items (slots.Values vs) refl
      are put job at c.args.flag.now tree));
  count = c.set-in-Count.ensures.count;
  searches = refl;
}

pub returns-in-Compute : goal.returns-in-Compute
returns-in-Compute c = record {
  does = set_ok c.set-in-Compute.result c.computed-values.result _ _ _ c.set-in-Compute.ensures.set c.computed-values.ensures
      (λ vs are put job at tree patterns. does_same job _ _ _ _ c.in-Compute.is
      (compute_does c.args.source.now c.args.slots.now c.set-in-Compute.new.slots c.in-Compute.register c.in-Compute.operation c.in-Compute.left c.in-Compute.right vs.items (slots.Values vs) refl
      (λ g h left right. are g h (held_there c.args.source.now c.args.slots.now c.in-Compute.left c.index-slots-left.result g c.index-slots-left.is left) (held_there c.args.source.now c.args.slots.now c.in-Compute.right c.index-slots-right.result h c.index-slots-right.is right)) put job at c.args.flag.now));
  count = c.set-in-Compute.ensures.count;
  searches = refl;
}

pub returns-in-Choose : goal.returns-in-Choose
returns-in-Choose c = record {
  does = set_ok c.set-in-Choose.result c.chosen-values.result _ _ _ c.set-in-Choose.ensures.set c.chosen-values.ensures
      (λ vs are put job at tree patterns. does_same job _ _ _ _ c.in-Choose.is
      (choose_does c.args.source.now c.args.slots.now c.set-in-Choose.new.slots c.in-Choose.register c.in-Choose.extreme c.in-Choose.left c.in-Choose.right vs.items (slots.Values vs) refl
      (λ g h left right. are g h (held_there c.args.source.now c.args.slots.now c.in-Choose.left c.index-slots-left-in-Choose.result g c.index-slots-left-in-Choose.is left) (held_there c.args.source.now c.args.slots.now c.in-Choose.right c.index-slots-right-in-Choose.result h c.index-slots-right-in-Choose.is right)) put job at c.args.flag.now));
  count = c.set-in-Choose.ensures.count;
  searches = refl;
}
