use Rattle.std.proofs.Common.{◌≡◌, drop}
use Rattle.std.specs.List.{list_all}
use Rattle.flt_typed.specs.Kinds.{kind_of_value, same_class}
use Rattle.flt_lists.proofs.compare.are_of_class.Given as goal

abbrev pub invariant-loop-value : goal.invariant-loop-value
invariant-loop-value l = list_all (λ v. same_class l.kind (kind_of_value v)) (drop l.value-index l.values) ≡ list_all (λ v. same_class l.kind (kind_of_value v)) l.values
