use Rattle.std.proofs.Common.{◌≡◌, take, string_bytes}
use Rattle.cap_stats.specs.Told.{path_of, protocols_in}
use Rattle.cap_stats.proofs.paths.path_to.Given as goal

abbrev pub invariant-loop-place : goal.invariant-loop-place
invariant-loop-place l = string_bytes l.path ≡ path_of (take l.place (protocols_in l.source.layers))
