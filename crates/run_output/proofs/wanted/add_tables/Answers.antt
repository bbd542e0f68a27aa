use Rattle.run_output.proofs.EnoughLemmas.{each_table}
use Rattle.run_output.proofs.wanted.add_tables.Goals as goal

pub returns-clause-tables : goal.returns-clause-tables
returns-clause-tables c =
    each_table c.add_table.new.wanted c.add_table-2.new.wanted c.add_table-3.new.wanted c.args.plan.now
    c.add_table.ensures.fields c.add_table-2.ensures.kept c.add_table-2.ensures.fields c.add_table-3.ensures.kept c.add_table-3.ensures.fields
