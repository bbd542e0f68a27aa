use Rattle.std.proofs.Common.{refl, ◌∙◌}
use Rattle.cap_stats.proofs.PathLemmas.{path_put}
use Rattle.cap_stats.proofs.paths.Paths.put.Goals as goal

pub returns-clause-noted : goal.returns-clause-noted
returns-clause-noted c = λ notes has.
    let old = c.args.self.now in
    path_put old (record old { all = c.insert.new.self; tallies = c.push.new.self }) c.in_ok-key.key c.args.path.now c.len-place.result c.args.bytes c.tally_after.result notes
    c.in_ok-key.ensures.ok c.requires.absent (c.len-place.ensures ∙ old.tallies.ok.0) c.tally_after.ensures c.in_ok-insert.ensures.entries c.in_ok-insert.ensures.updates c.in_ok-push.ensures.items refl has
