use Rattle.std.proofs.Common.{◌∙◌, ℕ, List, get_or, ap, sym}
use Rattle.std.proofs.lemmas.Result.{on_ok_weaker}
use Rattle.pk_tree.specs.declared.layer.Layer.{Layer}
use Rattle.pk_base.specs.declared.value.Value.TheVariants.{Uint}
use Rattle.pk_tree.specs.Trees.{made_of, with_item_at}
use Rattle.message_links.proofs.LinkedLemmas.{layer_none, layer_some, proto_read}
use Rattle.message_links.proofs.linking.link_layer.Goals as goal

pub add_made-requires-clause-belongs : goal.add_made-requires-clause-belongs
add_made-requires-clause-belongs c =
    let layer = c.index-layers-at.result in
    proto_read c.args.tree.now.layers c.args.at layer _ c.requires
    (c.index-layers-at.is ∙ ap (λ (layers : List Layer). get_or layers c.args.at layer) c.layers.ensures.layers) c.in-Some.ensures.belongs

pub returns-in-Some-clause-linked : goal.returns-in-Some-clause-linked
unfolding with_item_at
returns-in-Some-clause-linked c =
    let t = c.args.tree.now in
    let layer = c.index-layers-at.result in
    on_ok_weaker c.add_made.result
    (λ is. is
    ∙ ap (λ (frame : ℕ). with_item_at t c.args.at (made_of c.in-Some.link.field (Uint frame))) c.from.ensures
    ∙ ap (λ (layers : List Layer). record t { layers = layers })
    (layer_some c.args.wanted.now c.args.links.now c.args.at t.layers layer c.in-Some.link c.requires
    (c.index-layers-at.is ∙ ap (λ (layers : List Layer). get_or layers c.args.at layer) c.layers.ensures.layers)
    (sym c.layer_link.ensures.link ∙ c.in-Some.is)))
    c.add_made.ensures.ok

pub returns-in-None-clause-linked : goal.returns-in-None-clause-linked
returns-in-None-clause-linked c =
    let t = c.args.tree.now in
    let layer = c.index-layers-at.result in
    ap (λ (layers : List Layer). record t { layers = layers })
    (sym (layer_none c.args.wanted.now c.args.links.now c.args.at t.layers layer c.requires
    (c.index-layers-at.is ∙ ap (λ (layers : List Layer). get_or layers c.args.at layer) c.layers.ensures.layers)
    (sym c.layer_link.ensures.link ∙ c.in-None.is)))
