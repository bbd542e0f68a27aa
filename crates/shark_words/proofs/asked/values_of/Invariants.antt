use Rattle.std.proofs.Common.{◌≡◌, ◌++◌, drop}
use Rattle.shark_words.specs.Asked.{values_of}
use Rattle.shark_words.proofs.asked.values_of.Given as goal

abbrev pub invariant-loop-used : goal.invariant-loop-used
invariant-loop-used l = l.values.items ++ values_of l.letter (drop l.used-index l.uses) ≡ values_of l.letter l.uses
