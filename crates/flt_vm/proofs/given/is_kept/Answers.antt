use Rattle.std.proofs.Common.{sym, ◌∙◌}
use Rattle.flt_vm.proofs.GivenLemmas.{kept_some}
use Rattle.flt_vm.proofs.given.is_kept.Goals as goal

pub returns-clause-kept : goal.returns-clause-kept
returns-clause-kept c = λ is. kept_some c.args.source.now c.args.slots.now c.args.register c.index-slots-register.result c.in_ok-kept.kept (c.is_set.ensures.inside c.if-not-is_set.false) c.index-slots-register.is c.in_ok-kept.ensures
    (sym c.is_some.ensures ∙ is)
