use Rattle.dissect_rows.specs.Pairs.{HasTaken}
use Rattle.dissect_rows.proofs.both.take_all.Given as goal

-- both have taken all frames so far
abbrev pub invariant-loop-block : goal.invariant-loop-block
invariant-loop-block l = HasTaken l.number l.pair.plain × HasTaken l.number l.pair.trees
