use Rattle.std.proofs.Common.{◌≡◌, drop}
use Rattle.std.specs.List.{list_any}
use Rattle.flt_lists.specs.Questions.{is_member}
use Rattle.flt_lists.proofs.question.is_among.Given as goal

abbrev pub invariant-loop-member : goal.invariant-loop-member
invariant-loop-member l = list_any (λ m. is_member l.value m) (drop l.member-index l.members) ≡ list_any (λ m. is_member l.value m) l.members
