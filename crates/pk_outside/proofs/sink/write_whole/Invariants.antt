use Rattle.std.proofs.Common.{◌≡◌, ℕ, List, [], ◌++◌, length}
use Rattle.std.specs.Io.KnownBytes.{Appends}
use Rattle.pk_outside.proofs.sink.write_whole.Given as goal

-- What was taken and the rest are the whole piece, and no write has failed.
abbrev pub invariant-loop-rest : goal.invariant-loop-rest
invariant-loop-rest g l = record {
  taken : (done : List ℕ) × (done ++ l.rest ≡ l.fn.from) × Appends (g.S.Sink.written l.initial.sink) (g.S.Sink.written l.sink) done;
  no_fault : g.S.Sink.faults l.sink ≡ g.S.Sink.faults l.initial.sink;
  not_starved : g.S.Sink.starved l.sink ≡ g.S.Sink.starved l.initial.sink;
  untouched : l.fn.from ≡ [] → l.sink ≡ l.initial.sink;
}

abbrev pub decreases-loop-rest : goal.decreases-loop-rest
decreases-loop-rest g l = length l.rest
