use Rattle.std.proofs.Common.{◌≡◌, ◌++◌, Bor, ap, arith}
use Rattle.flt_chains.specs.Parts.{filters_in, left_of_filter}
use Rattle.flt_typed.specs.declared.typed.Typed.{Typed}
use Rattle.flt_program.specs.Programs.{patterns_of}
use Rattle.flt_program.specs.Sources.{sources_of}
use Rattle.flt_chains.proofs.ChainLemmas.{reaches_up, stands_pop}
use Rattle.flt_chains.proofs.SizeLemmas.{filter_within}
use Rattle.flt_program.proofs.PatternLemmas.{patterns_next}
use Rattle.flt_program.proofs.patterns.+patterns.Goals as goal

pub add_patterns-add_single-requires : goal.add_patterns-add_single-requires
add_patterns-add_single-requires t c =
    let chain = c.in_ok-first in
    let within = filter_within c.args.filter.now chain.field-0.above.items chain.field-0.first.now chain.ensures.stands in
    let same = ap (λ (x : Bor Typed). filters_in x.now) chain.first-is in
    (omega (arith, within, same), chain.ensures.first)

pub add_patterns-add_right-requires : goal.add_patterns-add_right-requires
add_patterns-add_right-requires t c =
    let at = c.above.invariant in
    let up = stands_pop left_of_filter c.args.filter.now c.pop.new.self.items c.above.above.items c.in-Some.next at.0 at.1 c.in-Some.ensures.items in
    let within = filter_within c.args.filter.now c.pop.new.self.items c.in-Some.next.now up.stands in
    omega (arith, within)

pub add_patterns-above-preserved : goal.add_patterns-above-preserved
add_patterns-above-preserved t c =
    let old = sources_of c.args.patterns.now.items in
    let left = sources_of c.above.patterns.items in
    let new = sources_of c.add_right.new.patterns.items in
    reaches_up left_of_filter (λ part. left ≡ old ++ patterns_of part) (λ part. new ≡ old ++ patterns_of part) c.args.filter.now c.pop.new.self.items c.above.above.items c.in-Some.next
    c.above.invariant c.in-Some.ensures.items (λ part is first. patterns_next old left new c.in-Some.next.now part is first c.in_ok-add_right.ensures)
