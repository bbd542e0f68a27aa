use Rattle.std.proofs.lemmas.Result.{IfOk-weaker}
use Rattle.flt_vm.proofs.GivenLemmas.{given_taken, taken_given}
use Rattle.flt_vm.proofs.given.is_given.Goals as goal

pub returns-then-looks-clause-given : goal.returns-then-looks-clause-given
returns-then-looks-clause-given c =
    IfOk-weaker c.is_found.result _ _ (λ truth found is looks all size.
    taken_given c.args.source.now all c.args.slots.now c.args.instr.now c.taken_by.result c.taken_by.ensures (found is all size)) c.is_found.ensures.finds

pub returns-then-looks-clause-found : goal.returns-then-looks-clause-found
returns-then-looks-clause-found c = λ all size given.
    c.is_found.ensures.found all size (given_taken c.args.source.now all c.args.slots.now c.args.instr.now c.taken_by.result c.taken_by.ensures given)
