use Rattle.std.proofs.lemmas.Bool.{and_parts}
use Rattle.pk_fields.specs.Fields.{row_of}
use Rattle.pk_tree.specs.Layouts.{belongs, step_items}
use Rattle.pk_tree.specs.Trees.{last_proto}
use Rattle.pk_tree.specs.Values.{is_read}
use Rattle.pk_tree.proofs.TableLemmas.{read_field, read_part_field}
use Rattle.pk_tree.proofs.table.read_slot.Goals as goal

pub field_of-field-requires : goal.field_of-field-requires
field_of-field-requires c =
    read_field c.in-Row.field (and_parts (belongs (last_proto c.args.tree.now.layers) c.in-Row.field) (is_read (row_of c.in-Row.field)) (rw c.in-Row.is at c.requires.fits)).1

pub field_of-requires : goal.field_of-requires
field_of-requires c = read_part_field (last_proto c.args.tree.now.layers) c.in-Part.field (rw c.in-Part.is at c.requires.fits)

pub field_of-requires-in-PartAt : goal.field_of-requires-in-PartAt
field_of-requires-in-PartAt c = read_part_field (last_proto c.args.tree.now.layers) c.in-PartAt.field (rw c.in-PartAt.is at c.requires.fits)

pub field_of-requires-in-Whole : goal.field_of-requires-in-Whole
field_of-requires-in-Whole c = read_part_field (last_proto c.args.tree.now.layers) c.in-Whole.field (rw c.in-Whole.is at c.requires.fits)

pub returns-in-Part-clause-tree : goal.returns-in-Part-clause-tree
unfolding step_items
returns-in-Part-clause-tree c =
    rw c.in-Part.is (rw (c.size_at-len.ensures, c.from-in-Part.ensures, c.field_of.ensures) at c.read_some.ensures.tree)

pub returns-in-PartAt-clause-tree : goal.returns-in-PartAt-clause-tree
unfolding step_items
returns-in-PartAt-clause-tree c =
    rw c.in-PartAt.is (rw (c.size_at-len-in-PartAt.ensures, c.size_at.ensures, c.field_of-in-PartAt.ensures) at c.read_some-in-PartAt.ensures.tree)

pub returns-in-Whole-clause-tree : goal.returns-in-Whole-clause-tree
unfolding step_items
returns-in-Whole-clause-tree c =
    rw c.in-Whole.is (rw (c.size_at-len-in-Whole.ensures, c.from-in-Whole.ensures, c.field_of-in-Whole.ensures) at c.read_part-in-Whole.ensures.tree)
