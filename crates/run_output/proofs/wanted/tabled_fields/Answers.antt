use Rattle.run_output.proofs.EnoughLemmas.{grown_plan}
use Rattle.run_output.proofs.wanted.tabled_fields.Goals as goal

pub returns-clause-plan : goal.returns-clause-plan
returns-clause-plan c =
    grown_plan c.wanted_fields-wanted.result c.add_tables.new.wanted c.args.plan.now c.wanted_fields-wanted.ensures c.add_tables.ensures.kept
