use Rattle.std.proofs.Common.{◌≡◌, ◌++◌, drop}
use Rattle.shark_words.specs.declared.letter.Letter.TheVariants.{Decode}
use Rattle.shark_words.specs.Asked.{values_of}
use Rattle.shark_words.specs.Ports.{rules_in}
use Rattle.shark_words.proofs.asked.rules_of.Given as goal

abbrev pub invariant-loop-used : goal.invariant-loop-used
invariant-loop-used l = l.rules.items ++ rules_in (values_of Decode (drop l.used-index l.uses)) ≡ rules_in (values_of Decode l.uses)
