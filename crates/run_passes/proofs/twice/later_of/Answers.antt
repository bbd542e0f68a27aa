use Rattle.run_passes.proofs.TwiceLemmas.{serves_twice, twice_streams}
use Rattle.run_passes.proofs.twice.later_of.Goals as goal

pub returns-in-Ok : goal.returns-in-Ok
returns-in-Ok c = serves_twice c.args.plan.now c.args.wanted c.args.frames.now c.in-Ok.links c.requires.two c.in-Ok.ensures

pub links_of-requires-clause-streams : goal.links_of-requires-clause-streams
links_of-requires-clause-streams c = twice_streams c.args.wanted c.args.plan.now c.requires.two c.requires.enough
