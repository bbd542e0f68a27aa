use Rattle.pk_source.proofs.GrowthLaws.{header_adds, note_adds, values_stand}
use Rattle.pk_source.proofs.laws.outlines_are_trees.Goals as goal

pub returns-clause-stand : goal.returns-clause-stand
returns-clause-stand c = values_stand

pub returns-clause-header : goal.returns-clause-header
returns-clause-header c = header_adds

pub returns-clause-note : goal.returns-clause-note
returns-clause-note c = note_adds
