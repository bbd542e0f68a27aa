use Rattle.std.proofs.Common.{◌≡◌, ◌≤◌, Some, length, slice_get, arith}
use Rattle.second_pass.specs.Forward.{is_part}
use Rattle.second_pass.proofs.LinkLemmas.{counted_on, counted_out, layer_there}
use Rattle.second_pass.proofs.links.part_count.Goals as goal

pub loop-at-preserved : goal.loop-at-preserved
loop-at-preserved c =
    let layers = c.args.layers.now in
    let layer = c.index-layers-at.result in
    let place = c.loop-at.at in
    let there : slice_get layers place ≡ Some layer = layer_there layers place layer c.loop-at-test.true c.index-layers-at.is in (
      omega (arith, c.weight-count.ensures.value, c.loop-at.invariant.0, counted_on is_part layers place layer there),
      omega (arith, c.weight-count.ensures.most, c.loop-at.invariant.1),
    )

pub returns : goal.returns
returns c =
    let past : length c.args.layers.now ≤ c.loop-at.at = omega (arith, c.loop-at-test.false) in
    omega (arith, c.loop-at.invariant.0, counted_out is_part c.args.layers.now c.loop-at.at past)
