use Rattle.std.proofs.Common.{◌∙◌}
use Rattle.flt_lists.proofs.InsideLemmas.{none_has, some_has}
use Rattle.flt_lists.proofs.inside.has_needle.Goals as goal

pub returns-in-Some : goal.returns-in-Some
returns-in-Some c = λ texts needles all. c.has_any.ensures texts needles all ∙ some_has c.args.value.now c.in-Some.text.now texts c.in-Some.ensures

pub returns-in-None : goal.returns-in-None
returns-in-None c = λ texts needles all. none_has c.args.value.now texts c.in-None.ensures
