use Rattle.std.proofs.Common.{◌≡◌, drop}
use Rattle.std.specs.List.{list_all}
use Rattle.flt_lists.specs.Questions.{is_so}
use Rattle.flt_lists.proofs.quantify.all_are_so.Given as goal

abbrev pub invariant-loop-value : goal.invariant-loop-value
invariant-loop-value l = list_all (λ v. is_so l.question v) (drop l.value-index l.values) ≡ list_all (λ v. is_so l.question v) l.values
