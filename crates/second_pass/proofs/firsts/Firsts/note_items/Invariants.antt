use Rattle.std.proofs.Common.{◌≡◌, ◌&&◌, ℕ, cond, nat_lt, length, Some, None}
use Rattle.std.specs.Option.{option_or}
use Rattle.std.specs.List.{list_any}
use Rattle.second_pass.specs.Named.{has_number}
use Rattle.second_pass.specs.Stands.{first_in}
use Rattle.second_pass.proofs.firsts.Firsts.note_items.Given as goal

abbrev pub invariant-loop-left : goal.invariant-loop-left
invariant-loop-left l =
    (number : ℕ)
    → option_or (first_in l.self number) (cond (nat_lt number l.frame && list_any (has_number l.field number) l.left) (Some l.frame) None)
    ≡ option_or (first_in l.initial.self number) (cond (nat_lt number l.frame && list_any (has_number l.field number) l.initial.left) (Some l.frame) None)

abbrev pub decreases-loop-left : goal.decreases-loop-left
decreases-loop-left l = length l.left
