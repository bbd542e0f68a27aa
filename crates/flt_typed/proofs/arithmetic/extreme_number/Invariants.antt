use Rattle.std.proofs.Common.{◌≡◌, drop}
use Rattle.flt_typed.specs.Arithmetic.{extreme_number, nearer_of}
use Rattle.flt_typed.proofs.arithmetic.extreme_number.Given as goal

abbrev pub invariant-loop-value : goal.invariant-loop-value
invariant-loop-value l = extreme_number l.extreme l.values ≡ nearer_of l.extreme l.number (extreme_number l.extreme (drop l.value-index l.values))
