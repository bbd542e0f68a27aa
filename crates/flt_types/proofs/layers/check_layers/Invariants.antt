use Rattle.std.proofs.Common.{◌≡◌, drop}
use Rattle.std.specs.List.{list_all}
use Rattle.flt_typing.specs.Layers.{is_layers}
use Rattle.flt_types.specs.Faults.{layers_faults}
use Rattle.flt_types.proofs.layers.check_layers.Given as goal

abbrev pub invariant-loop-range : goal.invariant-loop-range
invariant-loop-range l = record {
  all : list_all is_layers l.ranges ≡ list_all is_layers (drop l.range-index l.ranges);
  faults : layers_faults l.ranges ≡ layers_faults (drop l.range-index l.ranges);
}
