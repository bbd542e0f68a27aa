use Rattle.std.proofs.Common.{◌≡◌, ◌++◌, ℕ, List, take, string_bytes}
use Rattle.cap_stats.specs.Stands.{HasPaths, recent_of}
use Rattle.cap_stats.specs.Told.{path_of, paths_to, protocols_in}
use Rattle.cap_stats.proofs.paths.Paths.add_rest.Given as goal

abbrev pub invariant-loop-place : goal.invariant-loop-place
invariant-loop-place l =
    ((notes : List (List ℕ × ℕ)) → HasPaths (paths_to l.bytes (protocols_in l.source.layers) l.known ++ notes) l.initial.self
    → HasPaths (paths_to l.bytes (protocols_in l.source.layers) l.place ++ notes) l.self)
    × (string_bytes l.path ≡ path_of (take l.place (protocols_in l.source.layers)))
    × (recent_of l.self ≡ take l.place (protocols_in l.source.layers))
