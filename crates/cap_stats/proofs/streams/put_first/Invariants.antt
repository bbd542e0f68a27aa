use Rattle.std.proofs.Common.{◌≡◌, ◌++◌}
use Rattle.std.specs.List.{flat_map}
use Rattle.cap_stats.specs.Keys.{below}
use Rattle.cap_stats.specs.Stands.{talk_at}
use Rattle.cap_stats.specs.Tables.{stream_line}
use Rattle.cap_stats.proofs.streams.put_first.Given as goal

abbrev pub invariant-loop-number : goal.invariant-loop-number
invariant-loop-number l =
    l.text.items ≡ l.initial.text.items ++ flat_map (λ n. stream_line n (talk_at l.streams n)) (below l.number)
