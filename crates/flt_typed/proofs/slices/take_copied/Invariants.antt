use Rattle.std.proofs.Common.{◌≡◌, drop}
use Rattle.flt_typed.specs.Slices.{taken_by}
use Rattle.flt_typed.proofs.SliceLemmas.{behind}
use Rattle.flt_typed.proofs.slices.take_copied.Given as goal

abbrev pub invariant-loop-range : goal.invariant-loop-range
invariant-loop-range l = taken_by l.bytes l.ranges ≡ behind l.taken.items (taken_by l.bytes (drop l.range-index l.ranges))
