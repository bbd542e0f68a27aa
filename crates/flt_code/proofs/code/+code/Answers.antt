use Rattle.std.proofs.Common.{Bor, ap, arith}
use Rattle.flt_code.specs.Owners.{owners_of}
use Rattle.flt_code.proofs.CodeLemmas.{bits_put, both_put, code_put, code_right, differ_put, either_put, exists_code, not_put}
use Rattle.flt_code.proofs.OwnerLemmas.{grows_on}
use Rattle.flt_chains.proofs.ChainLemmas.{stands_pop}
use Rattle.flt_program.specs.Sources.{sources_of}
use Rattle.flt_program.proofs.PatternLemmas.{patterns_next}
use Rattle.flt_chains.specs.Parts.{filters_in, left_of_filter}
use Rattle.flt_chains.proofs.SizeLemmas.{filter_within}
use Rattle.flt_code.proofs.code.+code.Goals as goal
use Rattle.flt_typed.specs.declared.typed.Typed.{Typed}
use Rattle.flt_typed.specs.declared.typed.Typed.TheVariants.{Compare, Matches}

pub code_for-code_alone-requires : goal.code_for-code_alone-requires
code_for-code_alone-requires t c =
    let chain = c.in_ok-first in
    let within = filter_within c.args.filter.now chain.field-0.above.items chain.field-0.first.now chain.ensures.stands in
    let same = ap (λ (x : Bor Typed). filters_in x.now) chain.first-is in
    (omega (arith, within, same), chain.ensures.first)

pub code_for-code_joined-requires : goal.code_for-code_joined-requires
code_for-code_joined-requires t c =
    let chain = c.above.invariant.chain in
    let popped = stands_pop left_of_filter c.args.filter.now c.pop.new.self.items c.above.above.items c.in-Some.next chain.0 chain.1 c.in-Some.ensures.items in
    let within = filter_within c.args.filter.now c.pop.new.self.items c.in-Some.next.now popped.stands in
    (omega (arith, within), (chain.0, popped.left_is))

pub code_for-above-preserved : goal.code_for-above-preserved
code_for-above-preserved t c =
    let chain = c.above.invariant.chain in
    let popped = stands_pop left_of_filter c.args.filter.now c.pop.new.self.items c.above.above.items c.in-Some.next chain.0 chain.1 c.in-Some.ensures.items in
    let joined = c.in_ok-code_joined.ensures in
    record {
      chain = (
        c.in-Some.next.now,
        popped.stands,
        (
          code_right (owners_of c.above.owners.items) (owners_of c.code_joined.new.owners.items) (sources_of c.above.patterns.items) (sources_of c.code_joined.new.patterns.items) c.in-Some.next.now chain.0
              c.args.code.now.items c.above.code.items c.code_joined.new.code.items popped.left_is joined.owners joined.patterns chain.2.0 joined.code,
          patterns_next (sources_of c.args.patterns.now.items) (sources_of c.above.patterns.items) (sources_of c.code_joined.new.patterns.items) c.in-Some.next.now chain.0 popped.left_is chain.2.1 joined.patterns,
        ),
      );
      grows = grows_on (owners_of c.args.owners.now.items) (owners_of c.above.owners.items) (owners_of c.code_joined.new.owners.items) c.above.invariant.grows joined.owners;
    }

pub code_joined-returns-in-Ok-clause-code : goal.code_joined-returns-in-Ok-clause-code
code_joined-returns-in-Ok-clause-code t c =
    either_put c.emit_at.result (owners_of c.code_for.new.owners.items) (sources_of c.code_for.new.patterns.items) c.args.filter.now c.deref.result.now _ _ c.in-Either.field-0.value c.in-Either.right.value
    c.args.code.now.items c.code_for.new.code.items c.emit_at.new.code.items c.len-start.result c.len.result c.in-Either.is c.deref.ensures (omega (arith, c.len-start.ensures, c.args.code.now.ok.0))
    (omega (arith, c.len.ensures, c.code_for.new.code.ok.0)) c.in-Ok.ensures.code c.emit_at.ensures

pub code_joined-returns-in-Ok-code_for-clause-code : goal.code_joined-returns-in-Ok-code_for-clause-code
code_joined-returns-in-Ok-code_for-clause-code t c =
    both_put c.emit_at-in-Ok-code_for.result (owners_of c.code_for-in-Both.new.owners.items) (sources_of c.code_for-in-Both.new.patterns.items) c.args.filter.now c.deref-in-Both.result.now _ _ c.in-Both.field-0.value
    c.in-Both.right.value c.args.code.now.items c.code_for-in-Both.new.code.items c.emit_at-in-Ok-code_for.new.code.items c.len-start-in-Both.result c.len-in-Ok-code_for.result c.in-Both.is c.deref-in-Both.ensures
    (omega (arith, c.len-start-in-Both.ensures, c.args.code.now.ok.0)) (omega (arith, c.len-in-Ok-code_for.ensures, c.code_for-in-Both.new.code.ok.0)) c.in-Ok-code_for.ensures.code c.emit_at-in-Ok-code_for.ensures

pub code_joined-returns-in_ok-code_for-in-Differ-clause-code : goal.code_joined-returns-in_ok-code_for-in-Differ-clause-code
code_joined-returns-in_ok-code_for-in-Differ-clause-code t c =
    let own = c.in_ok-register-in-Differ in
    let right = c.in_ok-code_for-in-Differ in
    differ_put c.emit-in-Differ.result (owners_of c.own.new.owners.items) (owners_of c.code_for-in-Differ.new.owners.items) (sources_of c.code_for-in-Differ.new.patterns.items) c.args.filter.now
    c.deref-in-Differ.result.now c.deref-in-Differ-2.result.now _ _ c.in-Differ.part.value c.in-Differ.right.value own.register c.args.code.now.items c.emit.new.code.items c.code_for-in-Differ.new.code.items
    c.emit-in-Differ.new.code.items c.in-Differ.is c.deref-in-Differ.ensures own.ensures.owned right.ensures.owners c.deref-in-Differ-2.ensures c.in_ok-emit-in-Differ.ensures right.ensures.code c.emit-in-Differ.ensures

pub code_alone-returns-in-Ok-clause-code : goal.code_alone-returns-in-Ok-clause-code
code_alone-returns-in-Ok-clause-code t c =
    not_put c.emit.result (owners_of c.code_for.new.owners.items) (sources_of c.code_for.new.patterns.items) c.args.filter.now c.in-Not.inner.value c.deref.result.now _ c.args.code.now.items c.code_for.new.code.items
    c.emit.new.code.items c.in-Not.is c.deref.ensures c.in-Ok.ensures.code c.emit.ensures

pub code_alone-returns-in-Ok-load-clause-code : goal.code_alone-returns-in-Ok-load-clause-code
code_alone-returns-in-Ok-load-clause-code t c =
    exists_code (owners_of c.load.new.owners.items) (sources_of c.args.patterns.now.items) c.args.filter.now c.in-Exists.term c.in-Ok-load.field-0 c.args.code.now.items c.load.new.code.items c.in-Exists.is
    c.in-Ok-load.ensures.code

pub code_alone-returns-in-Ok-load-2-clause-code : goal.code_alone-returns-in-Ok-load-2-clause-code
code_alone-returns-in-Ok-load-2-clause-code t c =
    bits_put c.emit-in-Ok-load-2.result (owners_of c.load-in-AnyBit.new.owners.items) (sources_of c.args.patterns.now.items) c.args.filter.now c.in-AnyBit.term c.in-Ok-load-2.register c.args.code.now.items
    c.load-in-AnyBit.new.code.items c.emit-in-Ok-load-2.new.code.items c.in-AnyBit.is c.in-Ok-load-2.ensures.code c.emit-in-Ok-load-2.ensures

pub code_alone-returns-in-Compare-clause-code : goal.code_alone-returns-in-Compare-clause-code
code_alone-returns-in-Compare-clause-code t c =
    code_put c.comparison.result (owners_of c.comparison.new.owners.items) (sources_of c.args.patterns.now.items) c.args.filter.now
    (Compare c.in-Compare.relation c.in-Compare.choice c.in-Compare.left c.in-Compare.right) c.args.code.now.items c.comparison.new.code.items c.in-Compare.is c.comparison.ensures.code

pub code_alone-returns-in-Matches-clause-code : goal.code_alone-returns-in-Matches-clause-code
code_alone-returns-in-Matches-clause-code t c =
    code_put c.search.result (owners_of c.search.new.owners.items) (sources_of c.search.new.patterns.items) c.args.filter.now (Matches c.in-Matches.choice c.in-Matches.term c.in-Matches.pattern) c.args.code.now.items
    c.search.new.code.items c.in-Matches.is c.search.ensures.code
