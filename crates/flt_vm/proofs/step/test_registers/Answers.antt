use Rattle.std.proofs.Common.{ap, refl, sym, ◌∙◌}
use Rattle.flt_lists.specs.Passes.{passes}
use Rattle.flt_lists.specs.Questions.{is_matched}
use Rattle.flt_vm.specs.Slots.{truth_of}
use Rattle.flt_program.specs.declared.instr.Instr.TheVariants as instr
use Rattle.flt_vm.proofs.StepLemmas.{by_flag, differ_does, does_same, got_there, held_got, held_there, in_does, match_does, nonzero_does, set_ok, test_does}
use Rattle.flt_vm.proofs.step.test_registers.Goals as goal

pub returns-in-Test : goal.returns-in-Test
returns-in-Test c = record {
  does = set_ok c.tell.result c.compare-truth.result _ _ _ c.tell.ensures c.compare-truth.ensures
      (λ truth is told job at tree patterns. does_same job _ _ _ _ c.in-Test.is (by_flag c.args.source.now _ _ c.tell.new.flag truth c.args.slots.now told
      (test_does c.args.source.now c.args.slots.now c.in-Test.choice c.in-Test.relation c.in-Test.left c.in-Test.right truth
      (λ g h left right. is g h (held_there c.args.source.now c.args.slots.now c.in-Test.left c.index-slots-left.result g c.index-slots-left.is left) (held_there c.args.source.now c.args.slots.now c.in-Test.right c.index-slots-right.result h c.index-slots-right.is right)) job at c.args.flag.now)));
  count = refl;
  searches = refl;
}

pub returns-in-In : goal.returns-in-In
returns-in-In c = record {
  does = set_ok c.tell-in-In.result c.asks.result _ _ _ c.tell-in-In.ensures c.asks.ensures
      (λ truth is told job at tree patterns. does_same job _ _ _ _ (c.in-In.is ∙ ap (instr.In c.in-In.choice c.in-In.register) (sym c.slice.ensures)) (by_flag c.args.source.now _ _ c.tell-in-In.new.flag truth c.args.slots.now told
      (in_does c.args.source.now c.args.slots.now c.in-In.choice c.in-In.register c.slice.result.now truth
      (λ h held. is h (held_got c.args.source.now c.args.slots.now c.in-In.register c.index-slots-register.result h held)) job at c.args.flag.now)));
  count = refl;
  searches = refl;
}

pub returns-in-Match-clause-does : goal.returns-in-Match-clause-does
returns-in-Match-clause-does c = set_ok c.tell-in-Match.result c.finds.result _ _ _ c.tell-in-Match.ensures c.finds.ensures.found
    (λ truth is told job at tree patterns. does_same job _ _ _ _ c.in-Match.is (by_flag c.args.source.now _ _ c.tell-in-Match.new.flag truth c.args.slots.now told
    (match_does c.args.source.now c.args.slots.now c.in-Match.choice c.in-Match.register c.in-Match.pattern c.args.searches.now truth
    (λ h bytes held found. is h (held_got c.args.source.now c.args.slots.now c.in-Match.register c.index-slots-register-in-Match.result h held) ∙ ap (λ bs. passes c.in-Match.choice (λ v. is_matched bs v) h.values) (got_there _ c.in-Match.pattern _ bytes found)) job patterns at c.args.flag.now)))

pub returns-in-NonZero : goal.returns-in-NonZero
returns-in-NonZero c = record {
  does = set_ok c.tell-in-NonZero.result c.asks-in-NonZero.result _ _ _ c.tell-in-NonZero.ensures c.asks-in-NonZero.ensures
      (λ truth is told job at tree patterns. does_same job _ _ _ _ c.in-NonZero.is (by_flag c.args.source.now _ _ c.tell-in-NonZero.new.flag truth c.args.slots.now told
      (nonzero_does c.args.source.now c.args.slots.now c.in-NonZero.register truth
      (λ h held. is h (held_got c.args.source.now c.args.slots.now c.in-NonZero.register c.index-slots-register-in-NonZero.result h held)) job at c.args.flag.now)));
  count = refl;
  searches = refl;
}

pub returns-in-Differ : goal.returns-in-Differ
returns-in-Differ c = record {
  does = set_ok c.tell-in-Differ.result c.differs_from-truth.result _ _ _ c.tell-in-Differ.ensures c.differs_from-truth.ensures
      (λ truth is told job at tree patterns. does_same job _ _ _ _ c.in-Differ.is (by_flag c.args.source.now _ _ c.tell-in-Differ.new.flag truth c.args.slots.now told
      (differ_does c.args.source.now c.args.slots.now c.in-Differ.register c.args.flag.now truth
      (λ h other held keeps. is other (ap truth_of (held_got c.args.source.now c.args.slots.now c.in-Differ.register c.index-slots-register-in-Differ.result h held) ∙ keeps)) job at)));
  count = refl;
  searches = refl;
}
