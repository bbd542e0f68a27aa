use Rattle.std.proofs.Common.{Bor, ap, arith, subst}
use Rattle.flt_chains.specs.Parts.{left_of_tree, trees_in}
use Rattle.flt_syntax.specs.Written.{written}
use Rattle.flt_syntax.specs.declared.ast.Ast.{Ast}
use Rattle.flt_typing.specs.Typing.{HasType}
use Rattle.flt_types.specs.Faults.{IsAnswer, faults}
use Rattle.flt_chains.proofs.ChainLemmas.{reaches_up, stands_pop}
use Rattle.flt_chains.proofs.SizeLemmas.{tree_within}
use Rattle.flt_types.proofs.PartLemmas.{own_left_tree, tree_fault_of_whole}
use Rattle.flt_types.proofs.typing.+filters.Goals as goal

pub typed-single-requires : goal.typed-single-requires
typed-single-requires t c =
    let chain = c.in_ok-first in
    let within = tree_within c.args.ast.now chain.field-0.above.items chain.field-0.first.now chain.ensures.stands in
    let same = ap (λ (x : Bor Ast). trees_in x.now) chain.first-is in
    (omega (arith, within, same), chain.ensures.first)

pub typed-with-requires : goal.typed-with-requires
typed-with-requires t c =
    let at = c.above.invariant in
    let up = stands_pop left_of_tree c.args.ast.now c.pop.new.self.items c.above.above.items c.in-Some.next at.0 at.1 c.in-Some.ensures.items in
    let within = tree_within c.args.ast.now c.pop.new.self.items c.in-Some.next.now up.stands in
    omega (arith, within)

pub typed-returns-in-Err-with-clause-err : goal.typed-returns-in-Err-with-clause-err
typed-returns-in-Err-with-clause-err t c =
    let at = c.above.invariant in
    let next = c.in-Some.next.now in
    let e = c.in-Err-with.error in
    let up = stands_pop left_of_tree c.args.ast.now c.pop.new.self.items c.above.above.items c.in-Some.next at.0 at.1 c.in-Some.ensures.items in
    rw c.refused-in-Err-with.ensures
    (tree_fault_of_whole e c.pop.new.self.items c.args.ast.now next up.stands
    (subst (λ x. IsAnswer (faults x) e) (own_left_tree next at.0 up.left_is) (c.in-Err-with.ensures.err (written at.0) at.2)))

pub typed-above-preserved : goal.typed-above-preserved
typed-above-preserved t c =
    let next = c.in-Some.next.now in
    reaches_up left_of_tree (λ part. HasType (written part) c.above.filter) (λ part. HasType (written part) c.in-Ok-with.filter) c.args.ast.now c.pop.new.self.items c.above.above.items
    c.in-Some.next c.above.invariant c.in-Some.ensures.items
    (λ part is left. subst (λ x. HasType x c.in-Ok-with.filter) (own_left_tree next part is) (c.in-Ok-with.ensures.ok (written part) left))
