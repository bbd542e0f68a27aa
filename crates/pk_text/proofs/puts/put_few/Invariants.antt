use Rattle.std.proofs.Common.{◌≡◌, ◌++◌, length}
use Rattle.std.specs.List.{flat_map}
use Rattle.pk_text.specs.Digits.{hex_pair}
use Rattle.pk_text.proofs.puts.put_few.Given as goal

abbrev pub invariant-loop-left : goal.invariant-loop-left
invariant-loop-left g l =
    g.S.TextSink.taken l.sink ++ flat_map hex_pair l.left ≡ g.S.TextSink.taken l.initial.sink ++ flat_map hex_pair l.bytes

abbrev pub decreases-loop-left : goal.decreases-loop-left
decreases-loop-left g l = length l.left
