use Rattle.std.proofs.Common.{◌≡◌, ap, arith, length, subst, sym}
use Rattle.flt_code.specs.Decides.{Agrees, Decides}
use Rattle.flt_code.specs.Owners.{owners_of}
use Rattle.flt_code.proofs.CodeLemmas.{code_as}
use Rattle.flt_code.proofs.CompileLemmas.{compiled, compiled_agrees, compiled_fits, decided_fits}
use Rattle.flt_code.proofs.compiler.compile.Goals as goal
use Rattle.flt_program.specs.Programs.{patterns_of}

pub new-requires : goal.new-requires
new-requires c =
    let size : c.len.result ≡ length c.whole_code.new.owners.items = omega (arith, c.len.ensures, c.whole_code.new.owners.ok.0) in
    let whole = c.in_ok-code.ensures.whole in
    compiled_fits c.whole_code.new.owners.items (patterns_of c.root.result.now) c.root.result.now whole.0 c.in_ok-code.code.items c.len.result whole.1 whole.2 size c.in_ok-code.ensures.few

pub returns-clause-decides : goal.returns-clause-decides
returns-clause-decides c =
    let filter = c.args.filter.now in
    let ps = patterns_of c.root.result.now in
    let size : c.len.result ≡ length c.whole_code.new.owners.items = omega (arith, c.len.ensures, c.whole_code.new.owners.ok.0) in
    let whole = c.in_ok-code.ensures.whole in
    let code = code_as (owners_of c.whole_code.new.owners.items) ps filter c.root.result.now whole.0 (sym c.root.ensures.value) whole.1 in
    subst (λ p. Decides p filter) (sym c.new.ensures)
    (compiled c.whole_code.new.owners.items ps filter whole.0 c.in_ok-code.code.items c.len.result c.root.ensures.filter code (ap patterns_of c.root.ensures.value) whole.2 size)

pub returns-clause-agrees : goal.returns-clause-agrees
returns-clause-agrees c =
    let filter = c.args.filter.now in
    let ps = patterns_of c.root.result.now in
    let size : c.len.result ≡ length c.whole_code.new.owners.items = omega (arith, c.len.ensures, c.whole_code.new.owners.ok.0) in
    let whole = c.in_ok-code.ensures.whole in
    let code = code_as (owners_of c.whole_code.new.owners.items) ps filter c.root.result.now whole.0 (sym c.root.ensures.value) whole.1 in
    subst (λ p. Agrees p filter) (sym c.new.ensures)
    (compiled_agrees c.whole_code.new.owners.items ps filter whole.0 c.in_ok-code.code.items c.len.result c.root.ensures.filter code (ap patterns_of c.root.ensures.value) whole.2 size)

pub returns-clause-fits : goal.returns-clause-fits
returns-clause-fits c = decided_fits c.new.result c.args.filter.now (returns-clause-decides c)
