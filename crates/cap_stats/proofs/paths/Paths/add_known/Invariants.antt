use Rattle.std.proofs.Common.{◌≡◌, ◌≤◌, ◌++◌, ℕ, List, length, take}
use Rattle.cap_stats.specs.Stands.{HasPaths, recent_of}
use Rattle.cap_stats.specs.Told.{paths_to, protocols_in}
use Rattle.cap_stats.proofs.paths.Paths.add_known.Given as goal

abbrev pub invariant-loop-place : goal.invariant-loop-place
invariant-loop-place l =
    ((notes : List (List ℕ × ℕ)) → HasPaths notes l.initial.self
    → HasPaths (paths_to l.bytes (protocols_in l.source.layers) l.place ++ notes) l.self)
    × (take l.place (recent_of l.self) ≡ take l.place (protocols_in l.source.layers))
    × (l.place ≤ length (recent_of l.self))
