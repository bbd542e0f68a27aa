use Rattle.second_pass.specs.Laws.{link_fields}
use Rattle.run_output.proofs.EnoughLemmas.{grown_columns, grown_plan, grown_tables, stream_asked, stream_grown}
use Rattle.run_output.proofs.wanted.followed_fields.Goals as goal

pub returns-clause-plan : goal.returns-clause-plan
returns-clause-plan c =
    grown_plan c.add_links.new.wanted c.add.new.self c.args.plan.now
    (grown_plan c.tabled_fields-wanted.result c.add_links.new.wanted c.args.plan.now c.tabled_fields-wanted.ensures.plan c.add_links.ensures.kept)
    (stream_grown c.add_links.new.wanted c.add.new.self c.add.ensures)

pub returns-clause-tables : goal.returns-clause-tables
returns-clause-tables c =
    grown_tables c.add_links.new.wanted c.add.new.self c.args.plan.now
    (grown_tables c.tabled_fields-wanted.result c.add_links.new.wanted c.args.plan.now c.tabled_fields-wanted.ensures.tables c.add_links.ensures.kept)
    (stream_grown c.add_links.new.wanted c.add.new.self c.add.ensures)

pub returns-clause-streams : goal.returns-clause-streams
returns-clause-streams c = stream_asked c.add_links.new.wanted c.add.new.self c.add.ensures

pub returns-clause-links : goal.returns-clause-links
returns-clause-links c = λ two.
    grown_columns c.add_links.new.wanted c.add.new.self link_fields (c.add_links.ensures.fields two) (stream_grown c.add_links.new.wanted c.add.new.self c.add.ensures)
