use Rattle.std.proofs.Common.{◌≡◌, drop}
use Rattle.flt_lists.specs.Questions.{is_so}
use Rattle.flt_lists.specs.Walks.{all_in_layers}
use Rattle.flt_lists.proofs.walks.all_in_layers.Given as goal

abbrev pub invariant-loop-layer : goal.invariant-loop-layer
invariant-loop-layer l = all_in_layers (λ v. is_so l.question v) l.field l.proto l.layers (drop l.layer-index l.all) ≡ all_in_layers (λ v. is_so l.question v) l.field l.proto l.layers l.all
