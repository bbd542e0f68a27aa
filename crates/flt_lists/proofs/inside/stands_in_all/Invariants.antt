use Rattle.std.proofs.Common.{◌≡◌, drop}
use Rattle.std.specs.List.{list_all}
use Rattle.flt_lists.specs.Needles.{has_text}
use Rattle.flt_lists.proofs.inside.stands_in_all.Given as goal

abbrev pub invariant-loop-value : goal.invariant-loop-value
invariant-loop-value l = list_all (λ v. has_text v l.text) (drop l.value-index l.values) ≡ list_all (λ v. has_text v l.text) l.values
