use Rattle.std.proofs.Common.{◌≡◌, drop}
use Rattle.std.specs.List.{list_all}
use Rattle.flt_typed.specs.Relations.{related}
use Rattle.flt_lists.proofs.compare.all_are_related.Given as goal

abbrev pub invariant-loop-value : goal.invariant-loop-value
invariant-loop-value l = list_all (λ w. related l.relation l.left w l.prefix) (drop l.value-index l.right) ≡ list_all (λ w. related l.relation l.left w l.prefix) l.right
