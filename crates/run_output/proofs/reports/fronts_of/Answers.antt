use Rattle.run_output.proofs.FollowLemmas.{are_followed}
use Rattle.run_output.proofs.reports.fronts_of.Goals as goal

pub returns-clause-followed : goal.returns-clause-followed
returns-clause-followed c =
    are_followed c.requires.stands.0 c.args.streams.now c.args.stream c.in_ok-zero.zero c.in_ok-one.one c.requires.stands.1 c.requires.few
    (c.in_ok-zero.ensures c.requires.stands.0 c.requires.stands.1) (c.in_ok-one.ensures c.requires.stands.0 c.requires.stands.1)
