use Rattle.std.proofs.Common.{sym}
use Rattle.cap_stats.proofs.paths.Paths.add_path.Goals as goal

pub returns-in-Some-clause-noted : goal.returns-in-Some-clause-noted
returns-in-Some-clause-noted c = λ notes has. c.raise.ensures.raised c.args.path.now (sym c.in-Some.ensures) notes has
