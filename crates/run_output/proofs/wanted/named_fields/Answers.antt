use Rattle.run_output.proofs.EnoughLemmas.{grown_plan, grown_tables}
use Rattle.run_output.proofs.wanted.named_fields.Goals as goal

pub returns-clause-plan : goal.returns-clause-plan
returns-clause-plan c =
    grown_plan c.tabled_fields-wanted.result c.add_protocols.new.wanted c.args.plan.now c.tabled_fields-wanted.ensures.plan c.add_protocols.ensures.kept

pub returns-clause-tables : goal.returns-clause-tables
returns-clause-tables c =
    grown_tables c.tabled_fields-wanted.result c.add_protocols.new.wanted c.args.plan.now c.tabled_fields-wanted.ensures.tables c.add_protocols.ensures.kept
