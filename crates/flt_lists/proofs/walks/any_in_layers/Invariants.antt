use Rattle.std.proofs.Common.{◌≡◌, drop}
use Rattle.flt_lists.specs.Questions.{is_so}
use Rattle.flt_lists.specs.Walks.{any_in_layers}
use Rattle.flt_lists.proofs.walks.any_in_layers.Given as goal

abbrev pub invariant-loop-layer : goal.invariant-loop-layer
invariant-loop-layer l = any_in_layers (λ v. is_so l.question v) l.field l.proto l.layers (drop l.layer-index l.all) ≡ any_in_layers (λ v. is_so l.question v) l.field l.proto l.layers l.all
