use Rattle.std.proofs.Common.{sym, ap, ◌∙◌}
use Rattle.pk_tree.specs.Layouts.{with_items}
use Rattle.pk_tree.specs.Tables.{steps_of}
use Rattle.pk_tree.proofs.TableLemmas.{front_only, front_reach, both_read, both_reach}
use Rattle.pk_tree.proofs.table.read_both.Goals as goal

pub returns-then-not-is_all-clause-tree : goal.returns-then-not-is_all-clause-tree
returns-then-not-is_all-clause-tree c =
    let off = sym c.is_all.ensures.value ∙ c.if-not-is_all.true in
    c.in_ok-front.ensures.tree ∙ ap (with_items c.args.tree.now) (sym (front_only c.args.tree.now.buffers c.args.span (steps_of c.args.holds.now c.args.sizes.now c.args.slots.now) c.args.more.now c.in_ok-front.front c.in_ok-front.ensures.why off))

pub returns-then-not-is_all-clause-why : goal.returns-then-not-is_all-clause-why
returns-then-not-is_all-clause-why c =
    let off = sym c.is_all.ensures.value ∙ c.if-not-is_all.true in
    front_reach c.args.span.len (steps_of c.args.holds.now c.args.sizes.now c.args.slots.now) c.args.more.now c.in_ok-front.front c.in_ok-front.ensures.why off

pub returns-clause-tree : goal.returns-clause-tree
returns-clause-tree c =
    let on = sym c.is_all.ensures.value ∙ c.if-not-is_all.false in
    both_read c.args.tree.now c.read_slots.new.tree c.read_steps.new.tree c.args.span (steps_of c.args.holds.now c.args.sizes.now c.args.slots.now) c.args.more.now c.in_ok-front.front c.in_ok-front.ensures.why on c.in_ok-front.ensures.tree c.in_ok-front.ensures.buffers c.in_ok-back.ensures.tree

pub returns-clause-why : goal.returns-clause-why
returns-clause-why c =
    let on = sym c.is_all.ensures.value ∙ c.if-not-is_all.false in
    both_reach c.args.span.len (steps_of c.args.holds.now c.args.sizes.now c.args.slots.now) c.args.more.now c.in_ok-front.front c.in_ok-back.back c.in_ok-front.ensures.why on c.in_ok-back.ensures.why
