use Rattle.std.proofs.Common.{inl, arith}
use Rattle.std.specs.Ordering.{nat_cmp}
use Rattle.std.specs.FinMap.{get-empty}
use Rattle.range_bytes.proofs.pieces.Pieces.new.Goals as goal

pub invariant_of-result : goal.invariant_of-result
invariant_of-result c = rw (c.new.ensures.items, c.new-2.ensures.empty) (record {
  row_apart = omega arith;
  late_keyed = tt;
  late_apart = omega arith;
  once = λ position. inl (get-empty nat_cmp position);
})
