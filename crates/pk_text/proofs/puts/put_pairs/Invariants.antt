use Rattle.std.proofs.Common.{◌≡◌, ◌++◌, drop}
use Rattle.std.specs.List.{flat_map}
use Rattle.pk_text.specs.Digits.{hex_pair}
use Rattle.pk_text.proofs.puts.put_pairs.Given as goal

abbrev pub invariant-loop-byte : goal.invariant-loop-byte
invariant-loop-byte g l =
    g.S.TextSink.taken l.sink ++ flat_map hex_pair (drop l.byte-index l.bytes) ≡ g.S.TextSink.taken l.initial.sink ++ flat_map hex_pair l.bytes
