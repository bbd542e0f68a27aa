use Rattle.std.proofs.Common.{◌≡◌, ◌++◌, drop}
use Rattle.std.specs.List.{flat_map}
use Rattle.pk_text.specs.Escape.{escape_byte}
use Rattle.pk_text.proofs.escape.put_escaped.Given as goal

abbrev pub invariant-loop-byte : goal.invariant-loop-byte
invariant-loop-byte g l =
    g.S.TextSink.taken l.sink ++ flat_map escape_byte (drop l.byte-index l.bytes) ≡ g.S.TextSink.taken l.initial.sink ++ flat_map escape_byte l.bytes
