use Rattle.std.proofs.Common.{[], ◌∷◌, ◌++◌, ap, ◌∙◌}
use Rattle.flt_typing.specs.Layers.{layers_of}
use Rattle.flt_types.proofs.Lists.{more_mapped}
use Rattle.flt_types.proofs.layers.all_layers.Goals as goal

pub loop-range-preserved : goal.loop-range-preserved
loop-range-preserved c =
    more_mapped layers_of c.args.ranges.now c.loop-range.range-index _ c.loop-range.layers.items c.push.new.self.items _ c.loop-range-test.true
    (c.in_ok-push.ensures.items ∙ ap (λ x. c.loop-range.layers.items ++ x ∷ []) c.layers_of.ensures) c.loop-range.invariant
