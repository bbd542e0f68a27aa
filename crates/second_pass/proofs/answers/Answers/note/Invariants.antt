use Rattle.std.proofs.Common.{◌≡◌, ◌&&◌, ℕ, cond, nat_lt, length, Some, None}
use Rattle.std.specs.List.{list_any}
use Rattle.std.specs.Option.{option_or}
use Rattle.second_pass.specs.Named.{answers}
use Rattle.second_pass.specs.Stands.{answer_in}
use Rattle.second_pass.proofs.answers.Answers.note.Given as goal

abbrev pub invariant-loop-left : goal.invariant-loop-left
invariant-loop-left l =
    (query : ℕ × ℕ)
    → option_or (answer_in l.self query) (cond (nat_lt query.0 l.frame && list_any (answers query) l.left) (Some l.frame) None)
    ≡ option_or (answer_in l.initial.self query) (cond (nat_lt query.0 l.frame && list_any (answers query) l.initial.left) (Some l.frame) None)

abbrev pub decreases-loop-left : goal.decreases-loop-left
decreases-loop-left l = length l.left
