use Rattle.std.proofs.Common.{◌≡◌, Bor, ap, arith}
use Rattle.flt_chains.specs.Parts.{left_of_term, terms_in}
use Rattle.flt_typed.specs.declared.typed.Term.{Term}
use Rattle.flt_mean.specs.Values.{values_of_term}
use Rattle.flt_chains.proofs.ChainLemmas.{reaches_up, stands_pop}
use Rattle.flt_chains.proofs.SizeLemmas.{term_within}
use Rattle.flt_mean.proofs.JoinedLemmas.{values_up}
use Rattle.flt_mean.proofs.values.+values.Goals as goal

pub values_of_term-values_of_part-requires : goal.values_of_term-values_of_part-requires
values_of_term-values_of_part-requires t c =
    let chain = c.in_ok-first in
    let within = term_within c.args.term.now chain.field-0.above.items chain.field-0.first.now chain.ensures.stands in
    let same = ap (λ (x : Bor Term). terms_in x.now) chain.first-is in
    (omega (arith, within, same), chain.ensures.first)

pub values_of_term-values_joined-requires : goal.values_of_term-values_joined-requires
values_of_term-values_joined-requires t c =
    let at = c.above.invariant in
    let up = stands_pop left_of_term c.args.term.now c.pop.new.self.items c.above.above.items c.in-Some.next at.0 at.1 c.in-Some.ensures.items in
    let within = term_within c.args.term.now c.pop.new.self.items c.in-Some.next.now up.stands in
    omega (arith, within)

pub values_of_term-above-preserved : goal.values_of_term-above-preserved
values_of_term-above-preserved t c =
    let tree = c.args.tree.now in
    let left = c.above.values.items in
    let new = c.in_ok-values-2.values.items in
    reaches_up left_of_term (λ part. left ≡ values_of_term part tree) (λ part. new ≡ values_of_term part tree) c.args.term.now c.pop.new.self.items c.above.above.items c.in-Some.next
    c.above.invariant c.in-Some.ensures.items (values_up tree c.in-Some.next.now left new c.in_ok-values-2.ensures)
