use Rattle.std.proofs.Common.{◌≡◌, take, true}
use Rattle.std.specs.List.{list_all}
use Rattle.flt_lists.specs.Keys.{key_shown}
use Rattle.flt_lists.specs.Needles.{has_text}
use Rattle.flt_lists.proofs.inside.all_stand.Given as goal

abbrev pub invariant-loop-at : goal.invariant-loop-at
invariant-loop-at l = list_all (λ k. list_all (λ v. has_text v (key_shown k).octets) l.values) (take l.at l.needles) ≡ true
