use Rattle.std.proofs.Common.{subst, sym}
use Rattle.std.specs.Str.{IsUtf8}
use Rattle.std.proofs.lemmas.List.Elements.{All-get_or}
use Rattle.run_words.proofs.words.find_fields.Goals as goal

pub find_field-requires : goal.find_field-requires
find_field-requires c = subst IsUtf8 (sym c.name-item.is) (All-get_or IsUtf8 c.args.names.now c.loop-name.name-index _ c.loop-name-test.true c.requires)
