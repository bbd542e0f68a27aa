use Rattle.std.proofs.Common.{◌≡◌, ◌++◌, string_bytes}
use Rattle.std.specs.BTreeMap.{keys}
use Rattle.std.specs.List.{flat_map}
use Rattle.cap_stats.specs.Stands.{tally_at}
use Rattle.cap_stats.specs.Tables.{path_line}
use Rattle.cap_stats.proofs.paths.put_paths.Given as goal

abbrev pub invariant-loop-path : goal.invariant-loop-path
invariant-loop-path l =
    l.text.items ++ flat_map (λ k. path_line (string_bytes k) (tally_at l.paths (string_bytes k))) l.path-iterator
    ≡ l.initial.text.items ++ flat_map (λ k. path_line (string_bytes k) (tally_at l.paths (string_bytes k))) (keys l.paths.all)
