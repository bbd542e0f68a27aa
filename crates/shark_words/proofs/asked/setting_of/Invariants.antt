use Rattle.std.proofs.Common.{◌≡◌, drop}
use Rattle.shark_words.specs.declared.letter.Letter.TheVariants.{Style}
use Rattle.shark_words.specs.Asked.{keyed, values_of}
use Rattle.shark_words.proofs.asked.setting_of.Given as goal

abbrev pub invariant-loop-used : goal.invariant-loop-used
invariant-loop-used l = keyed l.key (values_of Style l.uses) ≡ keyed l.key (values_of Style (drop l.used-index l.uses))
