use Rattle.std.proofs.Common.{◌≤◌}
use Rattle.std.specs.List.{position_or_len}
use Rattle.cap_stats.specs.Told.{has_addresses}
use Rattle.cap_stats.proofs.headers.first_pair.Given as goal

abbrev pub invariant-loop-place : goal.invariant-loop-place
invariant-loop-place l = l.place ≤ position_or_len has_addresses l.outline.layers
