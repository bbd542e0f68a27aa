use Rattle.std.proofs.Common.{sym, ◌∙◌}
use Rattle.cap_stats.proofs.MapLemmas.{place_within}
use Rattle.cap_stats.proofs.pairs.Pairs.note.Goals as goal

pub raise-requires-clause-within : goal.raise-requires-clause-within
raise-requires-clause-within c =
    place_within c.args.self.now c.args.pair c.in-Some.place c.requires.known.1.places (sym c.place_of.ensures ∙ c.in-Some.is)

pub returns-in-Some : goal.returns-in-Some
returns-in-Some c = λ notes has. c.raise.ensures c.args.pair (sym c.place_of.ensures ∙ c.in-Some.is) notes has
