use Rattle.std.proofs.Common.{Bor, Some, ap, arith, subst}
use Rattle.std.proofs.lemmas.Result.{err_from_is_err_and}
use Rattle.flt_syntax.specs.Written.{WrittenOperand, operand_of}
use Rattle.flt_syntax.specs.declared.ast.Operand.{Operand}
use Rattle.flt_typing.specs.Standing.{argument}
use Rattle.flt_typing.specs.Terms.{IsTerm, kind_of}
use Rattle.flt_typing.specs.declared.standing.Standing.TheVariants.{Free}
use Rattle.flt_types.specs.Faults.{IsAnswer, number_faults, operand_faults}
use Rattle.flt_types.specs.Blame.{taken, taken_by}
use Rattle.flt_types.proofs.PartLemmas.{fault_of_whole, left_number, own_left, right_number, right_part}
use Rattle.flt_chains.specs.Parts.{left_of_operand, operands_in}
use Rattle.flt_chains.proofs.ChainLemmas.{reaches_up, stands_pop}
use Rattle.flt_chains.proofs.SizeLemmas.{operand_within}
use Rattle.flt_types.proofs.operand.+terms.Goals as goal

pub second_number-returns-in_err-require_number-clause-err : goal.second_number-returns-in_err-require_number-clause-err
second_number-returns-in_err-require_number-clause-err t c =
    let p = err_from_is_err_and c.from_residual.result c.from_residual.ensures.1 in
    λ a o is. rw (p.1, p.2)
    (left_number c.args.position.side c.args.position.standing a c.args.at o (operand_of c.args.operand.now) c.args.left.now c.in_err-require_number.field-0.0 is
    (subst (λ sign. IsAnswer (number_faults sign (kind_of c.args.left.now)) c.in_err-require_number.field-0.0) c.sign_for.ensures c.in_err-require_number.ensures.err))

pub second_number-returns-in_err-right-clause-err : goal.second_number-returns-in_err-right-clause-err
second_number-returns-in_err-right-clause-err t c =
    let p = err_from_is_err_and c.from_residual-in_err-right.result c.from_residual-in_err-right.ensures.1 in
    λ a o is. rw (p.1, p.2)
    (right_part c.args.position.side c.args.position.standing a c.args.at o (operand_of c.args.operand.now) c.args.left.now c.in_err-right.field-0.0 is
    c.in_ok-require_number.ensures.ok
    (subst (λ side. IsAnswer (operand_faults side (Free (Some c.args.at)) (operand_of c.args.operand.now)) c.in_err-right.field-0.0) c.behind.ensures.side
    (subst (λ st. IsAnswer (operand_faults c.behind.result.side st (operand_of c.args.operand.now)) c.in_err-right.field-0.0) c.behind.ensures.standing
    c.in_err-right.ensures.err)))

pub second_number-returns-in-Err-clause-err : goal.second_number-returns-in-Err-clause-err
second_number-returns-in-Err-clause-err t c =
    λ a o is. rw c.refused.ensures
    (right_number c.args.position.side c.args.position.standing a c.args.at o (operand_of c.args.operand.now) c.args.left.now c.in_ok-right.right c.in-Err.error is
    c.in_ok-require_number.ensures.ok
    (subst (λ st. IsTerm st (operand_of c.args.operand.now) c.in_ok-right.right) c.behind.ensures.standing c.in_ok-right.ensures.ok) c.in-Err.ensures.err)

pub part-returns-in-OnLayer-clause-ok : goal.part-returns-in-OnLayer-clause-ok
part-returns-in-OnLayer-clause-ok t c = rw c.in-OnLayer.is (c.on_layer.ensures.ok c.args.position.standing)

pub part-returns-in-OnLayers-clause-ok : goal.part-returns-in-OnLayers-clause-ok
part-returns-in-OnLayers-clause-ok t c = rw (c.in-OnLayers.is, ← c.deref.ensures.value) (c.on_layers.ensures.ok c.args.position.standing)

pub term-part-requires : goal.term-part-requires
term-part-requires t c =
    let chain = c.in_ok-first in
    let within = operand_within c.args.operand.now chain.field-0.above.items chain.field-0.first.now chain.ensures.stands in
    let same = ap (λ (x : Bor Operand). operands_in x.now) chain.first-is in
    (omega (arith, within, same), chain.ensures.first)

pub term-with-requires : goal.term-with-requires
term-with-requires t c =
    let at = c.above.invariant in
    let up = stands_pop left_of_operand c.args.operand.now c.pop.new.self.items c.above.above.items c.in-Some.next at.0 at.1 c.in-Some.ensures.items in
    let within = operand_within c.args.operand.now c.pop.new.self.items c.in-Some.next.now up.stands in
    omega (arith, within)

pub term-returns-in-Err-with-clause-err : goal.term-returns-in-Err-with-clause-err
term-returns-in-Err-with-clause-err t c =
    let at = c.above.invariant in
    let next = c.in-Some.next.now in
    let side = c.args.position.side in
    let st = c.args.position.standing in
    let e = c.in-Err-with.error in
    let up = stands_pop left_of_operand c.args.operand.now c.pop.new.self.items c.above.above.items c.in-Some.next at.0 at.1 c.in-Some.ensures.items in
    rw c.refused-in-Err-with.ensures
    (fault_of_whole side st e c.pop.new.self.items c.args.operand.now next up.stands
    (subst (λ o. IsAnswer (operand_faults side st o) e) (own_left next at.0 up.left_is) (c.in-Err-with.ensures.err (operand_of at.0) at.2)))

pub term-above-preserved : goal.term-above-preserved
term-above-preserved t c =
    let next = c.in-Some.next.now in
    let st = c.args.position.standing in
    reaches_up left_of_operand (λ part. IsTerm st (operand_of part) c.above.term) (λ part. IsTerm st (operand_of part) c.in-Ok-with.term) c.args.operand.now c.pop.new.self.items c.above.above.items
    c.in-Some.next c.above.invariant c.in-Some.ensures.items
    (λ part is left. subst (λ o. IsTerm st o c.in-Ok-with.term) (own_left next part is) (c.in-Ok-with.ensures.ok (operand_of part) left))

pub compute-returns-in-Err-clause-err : goal.compute-returns-in-Err-clause-err
compute-returns-in-Err-clause-err t c = λ o is. rw c.refused.ensures (c.in-Err.ensures.err c.args.operation o is)

pub around-returns-in-Ok-clause-err : goal.around-returns-in-Ok-clause-err
around-returns-in-Ok-clause-err t c =
    let inner = operand_of c.deref.result.now in
    rw (c.in-Sliced.is, ← c.deref.ensures, ← c.deref-in-Ok.ensures.value)
    (c.slice.ensures.err c.args.position.side c.args.position.standing inner
    (subst (λ st. IsTerm st inner c.in-Ok.inner) c.in_slice.ensures.standing c.in-Ok.ensures.ok))

pub around-returns-in-Ok-term-clause-err : goal.around-returns-in-Ok-term-clause-err
around-returns-in-Ok-term-clause-err t c =
    let inner = operand_of c.deref-in-Masked.result.now in
    rw (c.in-Masked.is, ← c.deref-in-Masked.ensures)
    (c.mask.ensures.err (taken c.in-Masked.at c.args.position.side) c.args.position.standing inner
    (subst (λ st. IsTerm st inner c.in-Ok-term.inner) c.within.ensures.standing c.in-Ok-term.ensures.ok))

pub around-returns-in-Ok-term-2-clause-err : goal.around-returns-in-Ok-term-2-clause-err
around-returns-in-Ok-term-2-clause-err t c =
    let f = c.in-Called.function in
    let at = c.in-Called.at in
    let st = c.args.position.standing in
    let inner = operand_of c.in-Called.inner.value in
    rw c.in-Called.is
    (c.call.ensures.err (taken_by f at inner c.args.position.side) st inner
    (subst (λ (o : WrittenOperand). IsTerm (argument f at o st) inner c.in-Ok-term-2.inner) (ap operand_of c.deref-in-Called.ensures)
    (subst (λ x. IsTerm x inner c.in-Ok-term-2.inner) c.argument.ensures.standing
    (subst (λ (o : WrittenOperand). IsTerm c.argument.result.standing o c.in-Ok-term-2.inner) (ap operand_of c.deref-in-Called-2.ensures) c.in-Ok-term-2.ensures.ok))))
