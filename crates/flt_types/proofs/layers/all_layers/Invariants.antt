use Rattle.std.proofs.Common.{◌≡◌, ◌++◌, drop, map}
use Rattle.flt_typing.specs.Layers.{layers_of}
use Rattle.flt_types.proofs.layers.all_layers.Given as goal

abbrev pub invariant-loop-range : goal.invariant-loop-range
invariant-loop-range l = l.layers.items ++ map layers_of (drop l.range-index l.ranges) ≡ map layers_of l.ranges
