use Rattle.std.proofs.Common.{◌≡◌, drop}
use Rattle.std.specs.List.{list_any}
use Rattle.flt_lists.specs.Questions.{is_matched}
use Rattle.flt_lists.proofs.quantify.any_matched.Given as goal

abbrev pub invariant-loop-value : goal.invariant-loop-value
invariant-loop-value l = record {
  same : l.search ≡ l.initial.search;
  rest : list_any (λ v. is_matched l.initial.search v) (drop l.value-index l.values) ≡ list_any (λ v. is_matched l.initial.search v) l.values;
}
