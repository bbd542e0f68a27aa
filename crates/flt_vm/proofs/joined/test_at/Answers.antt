use Rattle.std.proofs.Common.{arith, ap, length, refl, slice_get, ◌+◌, ◌∙◌}
use Rattle.std.proofs.lemmas.Option.{slice_get_read}
use Rattle.std.proofs.lemmas.Result.{IfOk-weaker}
use Rattle.flt_vm.proofs.GivenLemmas.{has_registers}
use Rattle.flt_vm.proofs.JoinLemmas.{stays}
use Rattle.flt_vm.proofs.joined.test_at.Goals as goal

pub returns-then-code-at-le3-clause-leads : goal.returns-then-code-at-le3-clause-leads
returns-then-code-at-le3-clause-leads c = λ job code tree. stays job c.args.source.now c.args.at c.args.flag.now c.args.slots.now

pub test_among-requires-clause-first : goal.test_among-requires-clause-first
test_among-requires-clause-first c = has_registers (length c.args.slots.now) (length c.args.code.now) c.args.at c.index-code-at.result
    (c.requires.program.fits c.args.at c.index-code-at.result (slice_get_read c.args.code.now (length c.args.code.now) c.args.at c.index-code-at.result refl (omega arith) c.index-code-at.is))

pub test_among-requires-clause-second : goal.test_among-requires-clause-second
test_among-requires-clause-second c = has_registers (length c.args.slots.now) (length c.args.code.now) (c.args.at + 1) c.index-code-at-2.result
    (c.requires.program.fits (c.args.at + 1) c.index-code-at-2.result (slice_get_read c.args.code.now (length c.args.code.now) (c.args.at + 1) c.index-code-at-2.result refl (omega arith) c.index-code-at-2.is))

pub test_among-requires-clause-third : goal.test_among-requires-clause-third
test_among-requires-clause-third c = has_registers (length c.args.slots.now) (length c.args.code.now) (c.args.at + 2) c.index-code-at-3.result
    (c.requires.program.fits (c.args.at + 2) c.index-code-at-3.result (slice_get_read c.args.code.now (length c.args.code.now) (c.args.at + 2) c.index-code-at-3.result refl (omega arith) c.index-code-at-3.is))

pub returns-clause-leads : goal.returns-clause-leads
returns-clause-leads c = IfOk-weaker c.test_among.result _ _ (λ taken leads job code tree.
    let all = c.args.code.now in
    let first = slice_get_read all (length all) c.args.at c.index-code-at.result refl (omega arith) c.index-code-at.is in
    let second = slice_get_read all (length all) (c.args.at + 1) c.index-code-at-2.result refl (omega arith) c.index-code-at-2.is in
    let third = slice_get_read all (length all) (c.args.at + 2) c.index-code-at-3.result refl (omega arith) c.index-code-at-3.is in
    leads job c.args.at (ap (λ xs. slice_get xs c.args.at) code ∙ first) (ap (λ xs. slice_get xs (c.args.at + 1)) code ∙ second) (ap (λ xs. slice_get xs (c.args.at + 2)) code ∙ third) tree)
    c.test_among.ensures.leads

pub returns-clause-inside : goal.returns-clause-inside
returns-clause-inside c = IfOk-weaker c.test_among.result _ _ (λ taken few. omega arith) c.test_among.ensures.few
