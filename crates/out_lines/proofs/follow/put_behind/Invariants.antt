use Rattle.std.proofs.Common.{◌≡◌, ◌++◌, length}
use Rattle.out_lines.specs.Follow.{AreBehind, lines_behind}
use Rattle.out_lines.proofs.follow.put_behind.Given as goal

abbrev pub invariant-loop-left : goal.invariant-loop-left
invariant-loop-left l =
    AreBehind l.end l.left
    × (l.text.items ++ lines_behind l.side l.end l.left
    ≡ l.initial.text.items ++ lines_behind l.side l.initial.end l.initial.left)

abbrev pub decreases-loop-left : goal.decreases-loop-left
decreases-loop-left l = length l.left
