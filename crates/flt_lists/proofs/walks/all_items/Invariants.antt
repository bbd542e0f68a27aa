use Rattle.std.proofs.Common.{◌≡◌, drop}
use Rattle.flt_lists.specs.Questions.{is_so}
use Rattle.flt_lists.specs.Walks.{all_items}
use Rattle.flt_lists.proofs.walks.all_items.Given as goal

abbrev pub invariant-loop-item : goal.invariant-loop-item
invariant-loop-item l = all_items (λ v. is_so l.question v) l.field (drop l.item-index l.items) ≡ all_items (λ v. is_so l.question v) l.field l.items
