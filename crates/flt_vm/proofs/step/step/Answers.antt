use Rattle.std.proofs.Common.{ap, arith, not, ◌∙◌}
use Rattle.flt_vm.proofs.GivenLemmas.{has_next}
use Rattle.flt_vm.proofs.StepLemmas.{does_same, false_does, true_does}
use Rattle.flt_vm.specs.Slots.{place_behind}
use Rattle.flt_vm.specs.declared.slots.Flag.TheVariants.{Known}
use Rattle.flt_vm.proofs.step.step.Goals as goal

pub returns-in-JumpFalse-clause-moves : goal.returns-in-JumpFalse-clause-moves
returns-in-JumpFalse-clause-moves c = λ job tree patterns. does_same job _ _ _ _ c.in-JumpFalse.is
    (false_does c.args.source.now c.args.slots.now c.args.flag.now (Known c.known-truth.result) c.args.at c.place_behind.result c.in-JumpFalse.passed
    (c.place_behind.ensures ∙ ap (λ t. place_behind c.args.at (not t) c.in-JumpFalse.passed) c.known-truth.ensures) c.known-truth.ensures job)

pub returns-in-JumpTrue-clause-moves : goal.returns-in-JumpTrue-clause-moves
returns-in-JumpTrue-clause-moves c = λ job tree patterns. does_same job _ _ _ _ c.in-JumpTrue.is
    (true_does c.args.source.now c.args.slots.now c.args.flag.now (Known c.known-truth-in-JumpTrue.result) c.args.at c.place_behind-in-JumpTrue.result c.in-JumpTrue.passed
    (c.place_behind-in-JumpTrue.ensures ∙ ap (λ t. place_behind c.args.at t c.in-JumpTrue.passed) c.known-truth-in-JumpTrue.ensures) c.known-truth-in-JumpTrue.ensures job)

pub returns-in_ok-act-in_default : goal.returns-in_ok-act-in_default
returns-in_ok-act-in_default c = record {
  moves = λ job tree patterns. c.in_ok-act-in_default.ensures.does job c.args.at tree patterns;
  ahead = (omega arith, has_next _ _ c.args.at _ c.requires.fits c.in_ok-act-in_default.ensures.on);
  count = c.in_ok-act-in_default.ensures.count;
  searches = c.in_ok-act-in_default.ensures.searches;
}
