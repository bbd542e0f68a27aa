use Rattle.std.proofs.Common.{Some, arith, ap, length, refl, subst, ◌<◌, ◌∙◌}
use Rattle.flt_vm.proofs.JoinLemmas.{joined, stays}
use Rattle.flt_vm.proofs.StepLemmas.{held_got}
use Rattle.flt_vm.specs.Slots.{HasRegisters}
use Rattle.flt_program.specs.declared.instr.Instr.TheVariants as instr
use Rattle.flt_vm.proofs.joined.test_among.Goals as goal

pub returns-clause-leads : goal.returns-clause-leads
returns-clause-leads c = λ job at first second third tree.
    let count = length c.args.slots.now in
    let one = c.read.new.slots in
    let two = c.put.new.slots in
    let other : c.in-Const.other < count = subst (HasRegisters count) c.in-Const.is c.requires.second in
    let inside : c.in-Const.other < length one = omega (arith, other, c.read.ensures.count) in
    joined job c.args.source.now at c.args.flag.now c.read.new.flag c.args.slots.now one two c.in-Read.register c.in-Read.field c.in-Read.layers c.in-Const.other c.in-Const.constant _
    c.in-Test.choice c.in-Test.relation c.in-Test.left c.in_ok-truth.truth
    (first ∙ ap Some c.in-Read.is) (second ∙ ap Some c.in-Const.is)
    (third ∙ ap Some c.in-Test.is ∙ ap (λ n. Some (instr.Test c.in-Test.choice c.in-Test.relation c.in-Test.left n)) c.if-right-other.true) tree
    (c.read.ensures.read at) c.put.ensures.set refl inside
    (λ h left. c.in_ok-truth.ensures h (held_got c.args.source.now two c.in-Test.left c.index-slots-left.result h left))

pub returns-2-clause-leads : goal.returns-2-clause-leads
returns-2-clause-leads c = λ job at first second third tree. stays job c.args.source.now at c.args.flag.now c.args.slots.now
