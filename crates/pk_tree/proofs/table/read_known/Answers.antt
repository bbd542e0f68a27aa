use Rattle.std.proofs.lemmas.Result.{on_ok_weaker}
use Rattle.pk_tree.specs.Tables.{steps_of}
use Rattle.pk_tree.proofs.KnownLemmas.{layer_known}
use Rattle.pk_tree.proofs.table.read_known.Goals as goal

pub returns-clause-layer : goal.returns-clause-layer
returns-clause-layer c =
    on_ok_weaker c.put_slots.result
    (λ read mode cut. layer_known c.args.tree.now c.open_with_room.new.self c.put_slots.new.tree c.args.proto c.args.span (steps_of c.args.holds.now c.args.sizes.now c.args.slots.now) mode cut
    c.in_ok-open_with_room.ensures.ok c.in_ok-open_with_room.ensures.buffers read c.put_slots.ensures.buffers c.requires.known)
    c.put_slots.ensures.tree
