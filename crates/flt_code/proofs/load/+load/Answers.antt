use Rattle.std.proofs.Common.{Bor, ap, arith, refl, sym, ◌∙◌}
use Rattle.flt_code.specs.Code.{Adds, Loads, LoadsCall, LoadsExtreme, LoadsRight, Makes, Sets}
use Rattle.flt_code.specs.Owners.{OfTerm, owners_of}
use Rattle.flt_code.proofs.LoadLemmas.{adds_grown, adds_right, arguments_right, called_part, computed_right, constant_part, emitted, extreme_made, extreme_several, if_ok, makes_on, slice_part}
use Rattle.flt_code.proofs.OwnerLemmas.{grows_on}
use Rattle.flt_chains.proofs.ChainLemmas.{stands_pop}
use Rattle.flt_chains.specs.Parts.{left_of_term, terms_in}
use Rattle.flt_chains.proofs.SizeLemmas.{term_within}
use Rattle.flt_code.proofs.load.+load.Goals as goal
use Rattle.flt_typed.specs.declared.typed.Term.{Term}
use Rattle.flt_typed.specs.declared.arithmetic.Extreme.TheVariants.{Least}
use Rattle.flt_program.specs.declared.instr.Instr.TheVariants as instr

pub load-load_part-requires : goal.load-load_part-requires
load-load_part-requires t c =
    let chain = c.in_ok-first in
    let within = term_within c.args.term.now chain.field-0.above.items chain.field-0.first.now chain.ensures.stands in
    let same = ap (λ (x : Bor Term). terms_in x.now) chain.first-is in
    (omega (arith, within, same), chain.ensures.first)

pub load-load_joined-requires : goal.load-load_joined-requires
load-load_joined-requires t c =
    let chain = c.above.invariant.chain in
    let popped = stands_pop left_of_term c.args.term.now c.pop.new.self.items c.above.above.items c.in-Some.next chain.0 chain.1 c.in-Some.ensures.items in
    let within = term_within c.args.term.now c.pop.new.self.items c.in-Some.next.now popped.stands in
    (omega (arith, within), (chain.0, popped.left_is))

pub load-above-preserved : goal.load-above-preserved
load-above-preserved t c =
    let chain = c.above.invariant.chain in
    let popped = stands_pop left_of_term c.args.term.now c.pop.new.self.items c.above.above.items c.in-Some.next chain.0 chain.1 c.in-Some.ensures.items in
    record {
      chain = (
        c.in-Some.next.now,
        popped.stands,
        adds_right (owners_of c.above.owners.items) (owners_of c.load_joined.new.owners.items) c.args.extreme c.in-Some.next.now chain.0 c.above.register c.in_ok-register-2.register c.args.code.now.items
            c.above.code.items c.load_joined.new.code.items popped.left_is c.in_ok-register-2.ensures.grows chain.2 c.in_ok-register-2.ensures.code,
      );
      grows = grows_on (owners_of c.args.owners.now.items) (owners_of c.above.owners.items) (owners_of c.load_joined.new.owners.items) c.above.invariant.grows c.in_ok-register-2.ensures.grows;
    }

pub load_inner-returns-clause-code : goal.load_inner-returns-clause-code
load_inner-returns-clause-code t c =
    adds_grown (owners_of c.load.new.owners.items) (owners_of c.own.new.owners.items) c.args.extreme c.args.inner.now c.in_ok-inner.inner c.args.code.now.items c.load.new.code.items c.in_ok-register.ensures.grows
    c.in_ok-inner.ensures.code

pub load_joined-returns-in_ok-register-in-Arguments-clause-code : goal.load_joined-returns-in_ok-register-in-Arguments-clause-code
load_joined-returns-in_ok-register-in-Arguments-clause-code t c =
    let right = c.in_ok-right-in-Arguments in
    let own = c.in_ok-register-in-Arguments in
    let grown = adds_grown (owners_of c.load.new.owners.items) (owners_of c.own.new.owners.items) c.args.extreme c.deref-in-Arguments.result.now right.right c.args.code.now.items c.load.new.code.items own.ensures.grows
    right.ensures.code in
    emitted (λ r. Adds (LoadsRight (owners_of c.own.new.owners.items) c.args.extreme c.args.term.now c.args.left r) c.args.code.now.items c.emit_to-in-Arguments.new.code.items) own.register _ c.emit_to-in-Arguments.result
    (λ stands. arguments_right (owners_of c.own.new.owners.items) c.args.extreme c.args.term.now c.deref-in-Arguments.result.now _ _ c.in-Arguments.field-0.value c.in-Arguments.right.value c.args.left own.register right.right
    c.args.code.now.items c.load.new.code.items c.emit_to-in-Arguments.new.code.items c.in-Arguments.is c.deref-in-Arguments.ensures grown own.ensures.owned stands) c.emit_to-in-Arguments.ensures

pub load_each-returns-clause-code : goal.load_each-returns-clause-code
load_each-returns-clause-code t c =
    let made = c.in_ok-inner in
    emitted
    (λ r. Adds (Makes (owners_of c.load_inner.new.owners.items) (OfTerm c.args.term.now) r (Loads (owners_of c.load_inner.new.owners.items) Least c.args.inner.now) (λ q. instr.Call r c.args.function q)) c.args.code.now.items c.emit_to.new.code.items)
    made.register _ c.emit_to.result
    (λ stands. makes_on (owners_of c.load_inner.new.owners.items) Least (OfTerm c.args.term.now) c.args.inner.now c.args.inner.now (λ q. instr.Call made.register c.args.function q) made.register made.inner c.args.code.now.items
    c.load_inner.new.code.items c.emit_to.new.code.items refl made.ensures.code made.ensures.owned stands) c.emit_to.ensures

pub load_mask-returns-clause-code : goal.load_mask-returns-clause-code
load_mask-returns-clause-code t c =
    let made = c.in_ok-inner in
    emitted
    (λ r. Adds (Makes (owners_of c.load_inner.new.owners.items) (OfTerm c.args.term.now) r (Loads (owners_of c.load_inner.new.owners.items) c.args.extreme c.args.inner.now) (λ q. instr.Mask r q c.args.mask)) c.args.code.now.items c.emit_to.new.code.items)
    made.register _ c.emit_to.result
    (λ stands. makes_on (owners_of c.load_inner.new.owners.items) c.args.extreme (OfTerm c.args.term.now) c.args.inner.now c.args.inner.now (λ q. instr.Mask made.register q c.args.mask) made.register made.inner
    c.args.code.now.items c.load_inner.new.code.items c.emit_to.new.code.items refl made.ensures.code made.ensures.owned stands) c.emit_to.ensures

pub load_extreme-returns-clause-code : goal.load_extreme-returns-clause-code
load_extreme-returns-clause-code t c =
    let made = c.in_ok-arguments in
    let e = c.args.extreme in
    let os = owners_of c.load_inner.new.owners.items in
    let inner = c.args.inner.now in
    emitted (λ r. Adds (LoadsExtreme os e (OfTerm c.args.term.now) inner (Loads os e inner) r) c.args.code.now.items c.emit_to.new.code.items) made.register _ c.emit_to.result
    (λ stands. extreme_made os e (OfTerm c.args.term.now) inner (Loads os e inner) made.register c.args.code.now.items c.emit_to.new.code.items (sym c.is_several.ensures ∙ c.if-is_several.false)
    (makes_on os e (OfTerm c.args.term.now) inner inner (λ q. instr.Choose made.register e q q) made.register made.arguments c.args.code.now.items c.load_inner.new.code.items c.emit_to.new.code.items refl
    made.ensures.code made.ensures.owned stands)) c.emit_to.ensures

pub load_extreme-returns-then-is_several-clause-code : goal.load_extreme-returns-then-is_several-clause-code
load_extreme-returns-then-is_several-clause-code t c =
    let e = c.args.extreme in
    let os = owners_of c.load.new.owners.items in
    let inner = c.args.inner.now in
    if_ok (λ r. Adds (Loads os e inner r) c.args.code.now.items c.load.new.code.items)
    (λ r. Adds (LoadsExtreme os e (OfTerm c.args.term.now) inner (Loads os e inner) r) c.args.code.now.items c.load.new.code.items) c.load.result
    (λ r added. extreme_several os e (OfTerm c.args.term.now) inner (Loads os e inner) r c.args.code.now.items c.load.new.code.items (sym c.is_several.ensures ∙ c.if-is_several.true) added) c.load.ensures.code

pub load_joined-returns-in_ok-right-in-Computed-clause-code : goal.load_joined-returns-in_ok-right-in-Computed-clause-code
load_joined-returns-in_ok-right-in-Computed-clause-code t c =
    let right = c.in_ok-right-in-Computed in
    emitted (λ r. Adds (LoadsRight (owners_of c.load_inner.new.owners.items) c.args.extreme c.args.term.now c.args.left r) c.args.code.now.items c.emit_to.new.code.items) right.register _ c.emit_to.result
    (λ stands. computed_right (owners_of c.load_inner.new.owners.items) c.args.extreme c.args.term.now c.deref.result.now c.in-Computed.operation _ _ _ c.in-Computed.right.value c.args.left right.register
    right.right c.args.code.now.items c.load_inner.new.code.items c.emit_to.new.code.items c.in-Computed.is c.deref.ensures right.ensures.code right.ensures.owned stands) c.emit_to.ensures

pub load_part-returns-in-Constant-clause-code : goal.load_part-returns-in-Constant-clause-code
load_part-returns-in-Constant-clause-code t c =
    let os = owners_of c.load_constant.new.owners.items in
    if_ok (λ r. Sets os (OfTerm c.args.term.now) r (instr.Const r c.in-Constant.constant) c.args.code.now.items c.load_constant.new.code.items)
    (λ r. Adds (Loads os c.args.extreme c.args.term.now r) c.args.code.now.items c.load_constant.new.code.items) c.load_constant.result
    (λ r set. constant_part os c.args.extreme c.args.term.now c.in-Constant.constant r c.args.code.now.items c.load_constant.new.code.items c.in-Constant.is set) c.load_constant.ensures.code

pub load_part-returns-in-Slice-clause-code : goal.load_part-returns-in-Slice-clause-code
load_part-returns-in-Slice-clause-code t c =
    let os = owners_of c.load_slice.new.owners.items in
    if_ok (λ r. Adds (Makes os (OfTerm c.args.term.now) r (Loads os c.args.extreme c.deref.result.now) (λ q. instr.Slice r q c.deref-in-Slice.result.now)) c.args.code.now.items c.load_slice.new.code.items)
    (λ r. Adds (Loads os c.args.extreme c.args.term.now r) c.args.code.now.items c.load_slice.new.code.items) c.load_slice.result
    (λ r added. slice_part os c.args.extreme c.args.term.now c.in-Slice.inner.value c.deref.result.now _ c.in-Slice.ranges c.deref-in-Slice.result.now r c.args.code.now.items c.load_slice.new.code.items c.in-Slice.is
    c.deref.ensures c.deref-in-Slice.ensures.value added) c.load_slice.ensures.code

pub load_part-returns-in-Called-clause-code : goal.load_part-returns-in-Called-clause-code
load_part-returns-in-Called-clause-code t c =
    let os = owners_of c.load_call.new.owners.items in
    let inner = c.deref-in-Called.result.now in
    if_ok (λ r. Adds (LoadsCall os c.in-Called.function (OfTerm c.args.term.now) inner (λ x. Loads os x inner) r) c.args.code.now.items c.load_call.new.code.items)
    (λ r. Adds (Loads os c.args.extreme c.args.term.now r) c.args.code.now.items c.load_call.new.code.items) c.load_call.result
    (λ r added. called_part os c.args.extreme c.args.term.now c.in-Called.inner.value inner _ c.in-Called.function r c.args.code.now.items c.load_call.new.code.items c.in-Called.is c.deref-in-Called.ensures added)
    c.load_call.ensures.code
