use Rattle.std.proofs.Common.{◌≤◌}
use Rattle.std.specs.List.{position_or_len}
use Rattle.cap_stats.specs.Told.{has_stream}
use Rattle.cap_stats.proofs.headers.first_stream.Given as goal

abbrev pub invariant-loop-place : goal.invariant-loop-place
invariant-loop-place l = l.place ≤ position_or_len has_stream l.outline.layers
