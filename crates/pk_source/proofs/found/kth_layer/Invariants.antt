use Rattle.std.proofs.Common.{◌≡◌, drop}
use Rattle.std.specs.List.{flat_map}
use Rattle.pk_source.specs.Found.{kth, layer_told}
use Rattle.pk_source.proofs.found.kth_layer.Given as goal

abbrev pub invariant-loop-header : goal.invariant-loop-header
invariant-loop-header l =
    kth (flat_map (layer_told l.proto l.layers) (drop l.header-index l.headers)) l.left ≡ kth (flat_map (layer_told l.proto l.layers) l.headers) l.k
