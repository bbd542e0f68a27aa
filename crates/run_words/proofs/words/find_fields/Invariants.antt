use Rattle.std.proofs.Common.{◌≡◌, drop}
use Rattle.run_words.specs.Columns.{fields_named}
use Rattle.run_words.proofs.WordLemmas.{with_front}
use Rattle.run_words.proofs.words.find_fields.Given as goal

abbrev pub invariant-loop-name : goal.invariant-loop-name
invariant-loop-name l = fields_named l.names ≡ with_front l.fields.items (fields_named (drop l.name-index l.names))
