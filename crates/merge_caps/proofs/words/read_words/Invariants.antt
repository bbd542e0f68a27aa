use Rattle.std.proofs.Common.{◌≡◌, drop}
use Rattle.shark_words.specs.Words.{texts}
use Rattle.merge_caps.specs.Words.{heard, heard_from, nothing_heard}
use Rattle.merge_caps.proofs.words.read_words.Given as goal

abbrev pub invariant-loop-before : goal.invariant-loop-before
invariant-loop-before l = heard_from l.before (heard l.heard) (texts (drop l.before l.words)) ≡ heard_from 0 nothing_heard (texts l.words)
