use Rattle.std.proofs.Common.{Some, ap, not, refl}
use Rattle.flt_vm.specs.Held.{truth_held}
use Rattle.flt_vm.specs.declared.slots.Slot.TheVariants as slots
use Rattle.flt_vm.proofs.StepLemmas.{const_does, does_same, read_does, save_does, turn_does}
use Rattle.flt_vm.proofs.step.act.Goals as goal

pub returns-in-Read : goal.returns-in-Read
returns-in-Read c = record {
  does = λ job at tree patterns. does_same job _ _ _ _ c.in-Read.is
      (read_does c.args.source.now c.args.flag.now c.read.new.flag c.args.slots.now c.read.new.slots c.in-Read.register c.in-Read.field c.in-Read.layers at (c.read.ensures.read at) job tree);
  on = c.requires.on;
  count = c.read.ensures.count;
  searches = refl;
}

pub returns-in-Const : goal.returns-in-Const
returns-in-Const c = record {
  does = λ job at tree patterns. does_same job _ _ _ _ c.in-Const.is
      (const_does c.args.source.now c.args.flag.now c.args.slots.now c.put.new.slots c.in-Const.register c.in-Const.constant _ c.put.ensures.set refl job at);
  on = c.requires.on;
  count = c.put.ensures.count;
  searches = refl;
}

pub returns-in-Save : goal.returns-in-Save
returns-in-Save c = record {
  does = λ job at tree patterns. does_same job _ _ _ _ c.in-Save.is
      (save_does c.args.source.now c.args.flag.now c.args.slots.now c.put-in-Save.new.slots c.in-Save.register (slots.Truth c.known.result) (ap (λ truth. Some (truth_held truth)) c.known.ensures) c.put-in-Save.ensures.set job at);
  on = c.requires.on;
  count = c.put-in-Save.ensures.count;
  searches = refl;
}

pub returns-in-Not : goal.returns-in-Not
returns-in-Not c = record {
  does = λ job at tree patterns. does_same job _ _ _ _ c.in-Not.is
      (turn_does c.args.source.now c.args.slots.now c.args.flag.now (not c.known-in-Not.result) (ap not c.known-in-Not.ensures) job at);
  on = c.requires.on;
  count = refl;
  searches = refl;
}
