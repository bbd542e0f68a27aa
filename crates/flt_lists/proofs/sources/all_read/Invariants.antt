use Rattle.std.proofs.Common.{◌≡◌, ◌-◌, drop, length}
use Rattle.std.specs.List.{list_all}
use Rattle.flt_lists.specs.Questions.{is_so}
use Rattle.pk_tree.specs.FieldValues.{values_of}
use Rattle.flt_lists.proofs.sources.all_read.Given as goal

abbrev pub invariant-values : goal.invariant-values
invariant-values l =
    list_all (λ v. is_so l.question v) (drop l.number (values_of l.outline l.field l.layers)) ≡ list_all (λ v. is_so l.question v) (values_of l.outline l.field l.layers)

abbrev pub decreases-values : goal.decreases-values
decreases-values l = length (values_of l.outline l.field l.layers) - l.number
