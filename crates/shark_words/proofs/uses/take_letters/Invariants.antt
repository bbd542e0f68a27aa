use Rattle.std.proofs.Common.{◌≡◌, ◌++◌, List, Option, drop}
use Rattle.shark_words.specs.declared.letter.Letter.{Letter}
use Rattle.shark_words.specs.declared.uses.Use.{Use}
use Rattle.shark_words.specs.Uses.{cluster_uses}
use Rattle.shark_words.proofs.uses.take_letters.Given as goal

abbrev pub invariant-loop-at : goal.invariant-loop-at
invariant-loop-at l =
    (behind : Option Letter → List Use) → l.fn.uses.items ++ cluster_uses l.number l.letters behind ≡ l.uses.items ++ cluster_uses l.number (drop l.at l.letters) behind
