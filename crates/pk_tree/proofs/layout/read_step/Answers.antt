use Rattle.pk_tree.specs.Layouts.{step_items}
use Rattle.pk_tree.proofs.layout.read_step.Goals as goal

pub returns-in-Part-clause-tree : goal.returns-in-Part-clause-tree
unfolding step_items
returns-in-Part-clause-tree c = rw c.in-Part.is c.read_some.ensures.tree

pub returns-in-Whole-clause-tree : goal.returns-in-Whole-clause-tree
unfolding step_items
returns-in-Whole-clause-tree c = rw c.in-Whole.is c.read_part-in-Whole.ensures.tree

pub returns-in-Derived-clause-tree : goal.returns-in-Derived-clause-tree
unfolding step_items
returns-in-Derived-clause-tree c = rw c.in-Derived.is c.derive_part.ensures.tree

pub returns-in-Made-clause-tree : goal.returns-in-Made-clause-tree
unfolding step_items
returns-in-Made-clause-tree c = rw c.in-Made.is c.make.ensures.tree
