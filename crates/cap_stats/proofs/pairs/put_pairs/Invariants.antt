use Rattle.std.proofs.Common.{◌≡◌, ◌++◌, drop}
use Rattle.std.specs.List.{flat_map}
use Rattle.cap_stats.specs.Stands.{pair_talk}
use Rattle.cap_stats.specs.Tables.{pair_line}
use Rattle.cap_stats.proofs.pairs.put_pairs.Given as goal

abbrev pub invariant-loop-pair : goal.invariant-loop-pair
invariant-loop-pair l =
    l.text.items ++ flat_map (λ p. pair_line (pair_talk l.pairs p)) (drop l.pair-index l.order)
    ≡ l.initial.text.items ++ flat_map (λ p. pair_line (pair_talk l.pairs p)) l.order
