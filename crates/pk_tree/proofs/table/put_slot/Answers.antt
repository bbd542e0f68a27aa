use Rattle.std.proofs.Common.{rules, ◌≡◌, false, sym, ap, ◌∙◌}
use Rattle.std.proofs.lemmas.Bool.{and_parts}
use Rattle.pk_fields.specs.Fields.{row_of}
use Rattle.pk_fields.specs.FieldSets.{is_in}
use Rattle.pk_tree.specs.declared.layout.Reach.{Reach}
use Rattle.pk_tree.specs.declared.layout.Reach.TheVariants.{All}
use Rattle.pk_tree.specs.declared.table.Slot.{Slot}
use Rattle.pk_tree.specs.Layouts.{belongs, items_after, step_items, step_reach, with_items}
use Rattle.pk_tree.specs.Tables.{step_of}
use Rattle.pk_tree.specs.Trees.{TreeShown, last_proto}
use Rattle.pk_tree.specs.Values.{is_read}
use Rattle.pk_tree.proofs.KnownLemmas.{row_unwanted}
use Rattle.pk_tree.proofs.TableLemmas.{read_field}
use Rattle.pk_tree.proofs.table.put_slot.Goals.{in-Row+else-not-wants, in_default}
use Rattle.pk_tree.proofs.table.put_slot.Goals as goal

pub field_of-requires : goal.field_of-requires
field_of-requires c =
    read_field c.in-Row.field (and_parts (belongs (last_proto c.args.tree.now.layers) c.in-Row.field) (is_read (row_of c.in-Row.field)) (rw c.in-Row.is at c.requires.fits)).1

pub returns-then-not-wants-clause-tree : goal.returns-then-not-wants-clause-tree
returns-then-not-wants-clause-tree c =
    let none : is_in c.args.tree.now.wanted c.in-Row.field ≡ false = search rules in
    rw c.in-Row.is (row_unwanted c.args.tree.now c.args.span c.in-Row.field c.in-Row.field-1 none)

pub returns-clause-tree : goal.returns-clause-tree
returns-clause-tree c =
    let slot_is : c.match-slot.slot ≡ c.args.slot = elim c.match-slot.branch [ in-Row+else-not-wants w ↦ w.slot-is ∙ sym w.in-Row.is | in_default w ↦ w.slot-is ] in
    let added : Reach → Slot → TreeShown = λ r slot. with_items c.args.tree.now (items_after r (step_items c.args.tree.now.buffers c.args.span (step_of c.args.holds.now c.args.sizes.now slot))) in
    let known : c.in_ok-read_slot.field-0 ≡ All = c.in_ok-read_slot.ensures.why ∙ ap (λ (slot : Slot). step_reach c.args.span.len (step_of c.args.holds.now c.args.sizes.now slot)) slot_is ∙ c.requires.known in
    c.in_ok-read_slot.ensures.tree ∙ ap (λ (r : Reach). added r c.match-slot.slot) known ∙ ap (added All) slot_is
