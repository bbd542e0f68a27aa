use Rattle.std.proofs.Common.{ap, option_to_list, ◌∙◌}
use Rattle.std.proofs.lemmas.Result.{IfOk-weaker}
use Rattle.flt_typed.specs.Arithmetic.{extreme_of}
use Rattle.flt_vm.proofs.ExtremeLists.{extreme_both}
use Rattle.flt_vm.proofs.step.chosen.Goals as goal

pub returns : goal.returns
returns c =
    let e = c.args.extreme in
    IfOk-weaker c.extreme_in.result _ _ (λ values is a b left right. is
    ∙ ap (λ xs. option_to_list (extreme_of e xs)) (c.deref.ensures.value ∙ c.in_ok-both.ensures a b left right)
    ∙ ap option_to_list (extreme_both e a.values b.values)) c.extreme_in.ensures
