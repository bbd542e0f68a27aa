use Rattle.std.proofs.Common.{◌≡◌, drop}
use Rattle.shark_words.specs.Asked.{is_sought, word_of}
use Rattle.shark_words.proofs.asked.word_of.Given as goal

abbrev pub invariant-loop-used : goal.invariant-loop-used
invariant-loop-used l = word_of (is_sought l.sought) l.uses ≡ word_of (is_sought l.sought) (drop l.used-index l.uses)
