use Rattle.std.proofs.Common.{◌≡◌, drop}
use Rattle.std.specs.List.{list_any}
use Rattle.flt_lists.specs.Walks.{is_asked}
use Rattle.flt_lists.proofs.walks.any_is_asked.Given as goal

abbrev pub invariant-loop-layer : goal.invariant-loop-layer
invariant-loop-layer l = list_any (λ layer. is_asked l.proto l.layers layer) (drop l.layer-index l.all) ≡ list_any (λ layer. is_asked l.proto l.layers layer) l.all
