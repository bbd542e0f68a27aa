use Rattle.out_lines.proofs.KeptLines.{line_same}
use Rattle.out_lines.proofs.laws.kept_trees_have_the_same_line.Goals as goal

pub returns : goal.returns
returns c = line_same
