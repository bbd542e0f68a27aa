use Rattle.std.proofs.Common.{◌≡◌, drop}
use Rattle.std.specs.List.{find}
use Rattle.out_lines.specs.Summary.{is_ip}
use Rattle.out_lines.proofs.summary.first_ip.Given as goal

abbrev pub invariant-loop-layer : goal.invariant-loop-layer
invariant-loop-layer l = find is_ip l.layers ≡ find is_ip (drop l.layer-index l.layers)
