use Rattle.std.proofs.Common.{◌≡◌, ◌++◌, drop, map}
use Rattle.run_texts.specs.FaultTexts.{cannot_open_text}
use Rattle.merge_caps.proofs.told.unopened_texts.Given as goal

abbrev pub invariant-loop-name : goal.invariant-loop-name
invariant-loop-name l =
    l.texts.items ++ map cannot_open_text (drop l.name-index l.names) ≡ map cannot_open_text l.names
