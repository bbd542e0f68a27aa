use Rattle.std.proofs.Common.{◌≡◌, drop}
use Rattle.shark_words.specs.Uses.{is_cluster}
use Rattle.shark_words.proofs.uses.is_cluster.Given as goal

abbrev pub invariant-loop-byte : goal.invariant-loop-byte
invariant-loop-byte l = is_cluster l.letters ≡ is_cluster (drop l.byte-index l.letters)
