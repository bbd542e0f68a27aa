use Rattle.run_output.proofs.LineLemmas.{lines_but_numbers, lines_taken_out}
use Rattle.run_output.proofs.laws.others_lines_taken_out.Goals as goal

pub returns-clause-line : goal.returns-clause-line
returns-clause-line c = lines_but_numbers c.others_number_alone.ensures.taken_out

pub returns-clause-lines : goal.returns-clause-lines
returns-clause-lines c = lines_taken_out c.others_number_alone.ensures.taken_out
