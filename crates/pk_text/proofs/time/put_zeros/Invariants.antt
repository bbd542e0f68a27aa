use Rattle.std.proofs.Common.{◌≡◌, ◌++◌, replicate}
use Rattle.pk_text.proofs.time.put_zeros.Given as goal

abbrev pub invariant-loop : goal.invariant-loop
invariant-loop g l = g.S.TextSink.taken l.sink ≡ g.S.TextSink.taken l.initial.sink ++ replicate l.counter 48
