use Rattle.std.proofs.Common.{◌≡◌, ◌++◌, drop}
use Rattle.shark_words.specs.Words.{texts}
use Rattle.shark_words.specs.Uses.{uses_from, uses_of}
use Rattle.shark_words.proofs.uses.uses_of.Given as goal

abbrev pub invariant-loop-before : goal.invariant-loop-before
invariant-loop-before l = l.uses.items ++ uses_from l.before l.waiting (texts (drop l.before l.words)) ≡ uses_of (texts l.words)
