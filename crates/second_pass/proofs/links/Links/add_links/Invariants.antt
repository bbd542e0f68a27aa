use Rattle.std.proofs.Common.{◌≡◌, List, length, drop, count_by}
use Rattle.second_pass.specs.Forward.{forwarded_to, is_part}
use Rattle.second_pass.specs.Named.{Noted}
use Rattle.second_pass.specs.Stands.{HasLinks}
use Rattle.second_pass.proofs.links.Links.add_links.Given as goal

abbrev pub invariant-loop-at : goal.invariant-loop-at
invariant-loop-at l =
    (length l.tree.layers ≡ l.count)
    × (l.parts ≡ count_by is_part (drop l.at l.tree.layers))
    × ((past : List Noted) → HasLinks past l.self → l.tree ≡ forwarded_to past l.frame l.at l.initial.tree)
