use Rattle.std.proofs.Common.{length, refl}
use Rattle.std.proofs.lemmas.Option.{slice_get_read}
use Rattle.std.specs.Vec.{with_item}
use Rattle.cap_stats.proofs.PathLemmas.{path_raised}
use Rattle.cap_stats.proofs.paths.Paths.raise.Goals as goal

pub returns-clause-raised : goal.returns-clause-raised
returns-clause-raised c = λ path some notes has.
    let old = c.args.self.now in
    path_raised old (record old { tallies = with_item old.tallies c.args.place c.tally_after.result }) path c.args.place c.args.bytes c.index-tally.result.now c.tally_after.result notes some
    (slice_get_read old.tallies.items (length old.tallies.items) c.args.place c.index-tally.result.now refl c.requires.within c.index-tally.ensures)
    c.tally_after.ensures refl refl refl has
