use Rattle.std.proofs.Common.{◌≡◌, take}
use Rattle.std.specs.Prelude.{map}
use Rattle.httparse.specs.Spans.{header_bytes}
use Rattle.stream_messages.specs.Fields.{lengths_of}
use Rattle.stream_messages.proofs.lengths.lengths_of.Given as goal

abbrev pub invariant-loop-header : goal.invariant-loop-header
invariant-loop-header l = l.lengths ≡ lengths_of (map (header_bytes l.bytes) (take l.header-index l.headers))
