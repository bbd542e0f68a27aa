use Rattle.std.proofs.Common.{arith, sym, ◌∙◌}
use Rattle.flt_lists.proofs.NeedleLemmas.{found_begins, none_begins}
use Rattle.flt_lists.proofs.needles.begins_with_any.Goals as goal

pub returns-then-begins_by : goal.returns-then-begins_by
returns-then-begins_by c = λ texts needles all.
    found_begins c.args.text.now texts c.args.needles.now c.args.lengths.now needles all c.loop-len.len-index _ c.loop-len-test.true (sym c.begins_by.ensures ∙ c.if-begins_by.true)

pub returns : goal.returns
returns c = λ texts needles all.
    none_begins c.args.text.now texts c.args.needles.now c.args.lengths.now needles all c.loop-len.len-index (omega (arith, c.loop-len-test.false)) c.loop-len.invariant
