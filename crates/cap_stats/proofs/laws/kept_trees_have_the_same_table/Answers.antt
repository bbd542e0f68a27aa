use Rattle.cap_stats.proofs.KeptTables.{table_same}
use Rattle.cap_stats.proofs.laws.kept_trees_have_the_same_table.Goals as goal

pub returns : goal.returns
returns c = table_same
