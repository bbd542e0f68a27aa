use Rattle.std.proofs.Common.{◌≡◌, take}
use Rattle.std.specs.Prelude.{map, IfSome, length}
use Rattle.std.specs.Option.{option_map}
use Rattle.httparse.specs.Spans.{header_bytes, span_bytes, IsWithin}
use Rattle.stream_messages.specs.Fields.{last_of_name}
use Rattle.stream_messages.proofs.lengths.last_of_name.Given as goal

abbrev pub invariant-loop-header : goal.invariant-loop-header
invariant-loop-header l = IfSome l.found (IsWithin (length l.bytes)) × (option_map (span_bytes l.bytes) l.found ≡ last_of_name l.name (map (header_bytes l.bytes) (take l.header-index l.headers)))
