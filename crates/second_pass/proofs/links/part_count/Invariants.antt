use Rattle.std.proofs.Common.{◌≡◌, ◌+◌, ◌≤◌, drop, count_by}
use Rattle.second_pass.specs.Forward.{is_part}
use Rattle.second_pass.proofs.links.part_count.Given as goal

abbrev pub invariant-loop-at : goal.invariant-loop-at
invariant-loop-at l =
    (l.count + count_by is_part (drop l.at l.layers) ≡ count_by is_part l.layers)
    × (l.count ≤ l.at)
