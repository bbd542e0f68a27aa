use Rattle.std.proofs.Common.{◌≡◌, Some, slice_get, ap, ◌∙◌, Option, ℕ}
use Rattle.std.proofs.lemmas.Result.{on_ok_weaker}
use Rattle.pk_tree.specs.declared.layer.Layer.{Layer}
use Rattle.second_pass.specs.Forward.{link_of, with_link_at}
use Rattle.second_pass.proofs.LinkLemmas.{layer_there, same_layer, proto_there, belongs_there}
use Rattle.second_pass.proofs.links.Links.add_link.Goals as goal

pub put_link-requires-clause-belongs : goal.put_link-requires-clause-belongs
put_link-requires-clause-belongs c =
    let layers = c.args.tree.now.layers in
    let there : slice_get layers c.args.at ≡ Some c.index-layers-at.result = layer_there layers c.args.at c.index-layers-at.result c.requires (rw c.layers.ensures.layers at c.index-layers-at.is) in
    belongs_there c.link_of-link.result c.index-layers-at.result.proto _ (proto_there layers c.args.at c.index-layers-at.result there) c.link_of-link.ensures.belongs

pub returns-clause-ok : goal.returns-clause-ok
returns-clause-ok c =
    let layers = c.args.tree.now.layers in
    let there : slice_get layers c.args.at ≡ Some c.index-layers-at.result = layer_there layers c.args.at c.index-layers-at.result c.requires (rw c.layers.ensures.layers at c.index-layers-at.is) in
    on_ok_weaker c.put_link.result (λ made past layer has get.
    made ∙ ap (λ (link : Option (ℕ × ℕ)). with_link_at c.args.tree.now c.args.at link)
    (c.link_of-link.ensures.link past has
    ∙ ap (λ (l : Layer). link_of past c.args.frame c.args.followed l) (same_layer layers c.args.at c.index-layers-at.result layer there get))) c.put_link.ensures.ok
