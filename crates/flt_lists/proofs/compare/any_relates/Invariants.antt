use Rattle.std.proofs.Common.{◌≡◌, drop}
use Rattle.std.specs.List.{list_any}
use Rattle.flt_typed.specs.Relations.{related}
use Rattle.flt_lists.proofs.compare.any_relates.Given as goal

abbrev pub invariant-loop-value : goal.invariant-loop-value
invariant-loop-value l = list_any (λ v. list_any (λ w. related l.relation v w l.prefix) l.right) (drop l.value-index l.left) ≡ list_any (λ v. list_any (λ w. related l.relation v w l.prefix) l.right) l.left
