use Rattle.std.proofs.Common.{◌≡◌, ◌≤◌, take, slice_range}
use Rattle.stream_messages.specs.Fields.{last_element}
use Rattle.stream_messages.proofs.lengths.last_element.Given as goal

abbrev pub invariant-loop-place : goal.invariant-loop-place
invariant-loop-place l = (l.start ≤ l.place) × (slice_range l.value l.start l.place ≡ last_element (take l.place l.value))
