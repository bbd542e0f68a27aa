use Rattle.std.proofs.lemmas.Result.{on_ok_weaker}
use Rattle.pk_tree.specs.Buffers.{bytes_of}
use Rattle.pk_tree.specs.FieldValues.{layer_values}
use Rattle.out_lines.specs.Places.{name_values, own_values}
use Rattle.out_lines.proofs.PlaceLemmas.{added_more, layer_values-split}
use Rattle.out_lines.proofs.columns.add_layer.Goals as goal

pub returns-clause-added : goal.returns-clause-added
returns-clause-added c =
    let layer = c.args.layer.now in
    on_ok_weaker c.add_items.result (λ more buffers. added_more c.args.style.now c.args.places.now c.args.columns.now c.add_name.new.columns c.add_items.new.columns
    (name_values layer.proto (bytes_of buffers layer.span)) (λ f. own_values f layer.items) (λ f. layer_values buffers f layer)
    (c.in_ok-add_name.ensures.added (bytes_of buffers layer.span)) (rw c.slice.ensures at more) (λ f. layer_values-split buffers f layer)) c.add_items.ensures.added
