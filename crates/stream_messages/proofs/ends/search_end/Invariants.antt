use Rattle.std.proofs.Common.{◌≡◌, ◌≤◌, drop}
use Rattle.stream_messages.specs.Ends.{behind_from, seek_after}
use Rattle.stream_messages.proofs.ends.search_end.Given as goal

abbrev pub invariant-loop-place : goal.invariant-loop-place
invariant-loop-place l =
    (l.from ≤ l.place) × (behind_from l.fn.seek (drop l.from l.bytes) ≡ behind_from l.seek (drop l.place l.bytes))
    × (seek_after l.fn.seek (drop l.from l.bytes) ≡ seek_after l.seek (drop l.place l.bytes))
