use Rattle.std.proofs.Common.{◌≡◌, drop}
use Rattle.std.specs.List.{find}
use Rattle.cap_stats.specs.Told.{has_addresses}
use Rattle.cap_stats.proofs.told.first_pair.Given as goal

abbrev pub invariant-loop-layer : goal.invariant-loop-layer
invariant-loop-layer l = find has_addresses l.layers ≡ find has_addresses (drop l.layer-index l.layers)
