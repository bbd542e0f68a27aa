use Rattle.std.proofs.Common.{◌≡◌, drop}
use Rattle.flt_lists.specs.Questions.{is_so}
use Rattle.flt_lists.specs.Walks.{any_item}
use Rattle.flt_lists.proofs.walks.any_item.Given as goal

abbrev pub invariant-loop-item : goal.invariant-loop-item
invariant-loop-item l = any_item (λ v. is_so l.question v) l.field (drop l.item-index l.items) ≡ any_item (λ v. is_so l.question v) l.field l.items
