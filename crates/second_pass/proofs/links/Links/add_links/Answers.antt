use Rattle.std.proofs.Common.{◌≡◌, ◌+◌, ◌<◌, Some, List, length, drop, count_by, slice_get, refl, sym, ap, ◌∙◌, arith}
use Rattle.pk_tree.specs.declared.layer.Layer.{Layer}
use Rattle.second_pass.specs.Forward.{forwarded_to, is_part}
use Rattle.second_pass.proofs.LinkLemmas.{counted_on, layer_there, linked_on}
use Rattle.second_pass.proofs.links.Links.add_links.Goals as goal

pub loop-at-init : goal.loop-at-init
unfolding forwarded_to
loop-at-init c = (
  ap (λ (ls : List Layer). length ls) (sym c.layers-count.ensures.layers),
  c.part_count-parts.ensures ∙ ap (λ (ls : List Layer). count_by is_part ls) c.layers.ensures.layers,
  λ past has. refl,
)

pub loop-at-preserved : goal.loop-at-preserved
loop-at-preserved c =
    let layers = c.loop-at.tree.layers in
    let layer = c.index-layers-at.result in
    let place = c.loop-at.at in
    let within : place < length layers = omega (arith, c.loop-at-test.true, c.loop-at.invariant.0) in
    let there : slice_get layers place ≡ Some layer = layer_there layers place layer within (rw c.layers-in-loop-at.ensures.layers at c.index-layers-at.is) in
    let left : c.parts_behind-parts.result ≡ count_by is_part (drop (place + 1) layers) =
    omega (arith, c.parts_behind-parts.ensures, c.loop-at.invariant.1, counted_on is_part layers place layer there) in (
      c.add_link.ensures.count ∙ c.loop-at.invariant.0,
      left ∙ ap (λ (ls : List Layer). count_by is_part ls) (sym c.in_ok-add_link.ensures.behind),
      λ past has. linked_on past c.args.frame place c.args.tree.now c.loop-at.tree c.add_link.new.tree layer c.parts_behind-parts.result
          (c.loop-at.invariant.2 past has) there left (c.in_ok-add_link.ensures.ok past layer has there),
    )
