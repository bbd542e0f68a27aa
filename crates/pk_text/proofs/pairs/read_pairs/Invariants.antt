use Rattle.std.proofs.Common.{length, None}
use Rattle.pk_text.specs.Pairs.{pairs_exactly}
use Rattle.pk_text.proofs.PairsLemmas.{IsFront}
use Rattle.pk_text.proofs.pairs.read_pairs.Given as goal

abbrev pub invariant-loop-byte : goal.invariant-loop-byte
invariant-loop-byte l =
    IsFront (pairs_exactly (length l.initial.bytes) None l.separator l.text) l.bytes (length l.initial.bytes) l.byte-index l.before l.separator l.rest
