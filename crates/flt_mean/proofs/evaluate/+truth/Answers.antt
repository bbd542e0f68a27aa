use Rattle.std.proofs.Common.{◌≡◌, Bor, ap, arith}
use Rattle.flt_chains.specs.Parts.{filters_in, left_of_filter}
use Rattle.flt_typed.specs.declared.typed.Typed.{Typed}
use Rattle.flt_mean.specs.Meaning.{meaning}
use Rattle.flt_chains.proofs.ChainLemmas.{reaches_up, stands_pop}
use Rattle.flt_chains.proofs.SizeLemmas.{filter_within}
use Rattle.flt_mean.proofs.JoinedLemmas.{truth_up}
use Rattle.flt_mean.proofs.evaluate.+truth.Goals as goal

pub is_true-is_single_true-requires : goal.is_true-is_single_true-requires
is_true-is_single_true-requires t c =
    let chain = c.in_ok-first in
    let within = filter_within c.args.filter.now chain.field-0.above.items chain.field-0.first.now chain.ensures.stands in
    let same = ap (λ (x : Bor Typed). filters_in x.now) chain.first-is in
    (omega (arith, within, same), chain.ensures.first)

pub is_true-is_joined_true-requires : goal.is_true-is_joined_true-requires
is_true-is_joined_true-requires t c =
    let at = c.above.invariant in
    let up = stands_pop left_of_filter c.args.filter.now c.pop.new.self.items c.above.above.items c.in-Some.next at.0 at.1 c.in-Some.ensures.items in
    let within = filter_within c.args.filter.now c.pop.new.self.items c.in-Some.next.now up.stands in
    omega (arith, within)

pub is_true-above-preserved : goal.is_true-above-preserved
is_true-above-preserved t c =
    let tree = c.args.tree.now in
    reaches_up left_of_filter (λ part. c.above.truth ≡ meaning part tree) (λ part. c.in_ok-truth-2.truth ≡ meaning part tree) c.args.filter.now c.pop.new.self.items c.above.above.items
    c.in-Some.next c.above.invariant c.in-Some.ensures.items (truth_up tree c.in-Some.next.now c.above.truth c.in_ok-truth-2.truth c.in_ok-truth-2.ensures)
