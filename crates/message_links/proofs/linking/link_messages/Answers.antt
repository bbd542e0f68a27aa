use Rattle.std.proofs.Common.{◌≡◌, ◌+◌, ℕ, suc, List, length, ap, ◌∙◌, sym, arith, Option}
use Rattle.pk_tree.specs.declared.layer.Layer.{Layer}
use Rattle.pk_tree.specs.Trees.{TreeShown}
use Rattle.message_links.specs.Linked.{layer_linked, linked, linked_at}
use Rattle.message_links.proofs.LinkedLemmas.{empty_is, no_links, upto, upto_all, upto_length, upto_next}
use Rattle.message_links.proofs.linking.link_messages.Goals as goal

pub returns-then-is_empty : goal.returns-then-is_empty
returns-then-is_empty c =
    sym (ap (λ (links : List (Option ℕ)). linked c.args.wanted.now links c.args.tree.now) (empty_is c.args.links.now (sym c.is_empty.ensures ∙ c.if-is_empty.true)) ∙ no_links c.args.wanted.now c.args.tree.now)

pub link_layer-requires : goal.link_layer-requires
link_layer-requires c =
    let layers = c.args.tree.now.layers in
    let n : length c.loop-at.tree.layers ≡ length layers = ap (λ (t : TreeShown). length t.layers) c.loop-at.invariant ∙ upto_length (layer_linked c.args.wanted.now c.args.links.now) c.loop-at.at layers in
    let m : length c.layers-at-end.result.now ≡ length layers = ap length c.layers-at-end.ensures.layers in
    omega (arith, n, m, c.loop-at-test.true)

pub loop-at-preserved : goal.loop-at-preserved
loop-at-preserved c =
    let t = c.args.tree.now in
    let f = layer_linked c.args.wanted.now c.args.links.now in
    let i = c.loop-at.at in
    let m : length c.layers-at-end.result.now ≡ length t.layers = ap length c.layers-at-end.ensures.layers in
    let one : suc i ≡ i + 1 = omega arith in
    c.in_ok-link_layer.ensures.linked
    ∙ ap (λ (u : TreeShown). record u { layers = linked_at f i u.layers }) c.loop-at.invariant
    ∙ ap (λ (layers : List Layer). record t { layers = layers }) (upto_next f i t.layers (omega (arith, m, c.loop-at-test.true)) ∙ ap (λ (n : ℕ). upto f n t.layers) one)

pub returns : goal.returns
unfolding linked
returns c =
    let t = c.args.tree.now in
    let m : length c.layers-at-end.result.now ≡ length t.layers = ap length c.layers-at-end.ensures.layers in
    c.loop-at.invariant
    ∙ ap (λ (layers : List Layer). record t { layers = layers }) (upto_all (layer_linked c.args.wanted.now c.args.links.now) c.loop-at.at t.layers (omega (arith, m, c.loop-at-test.false)))
