use Rattle.std.proofs.Common.{◌≡◌, length}
use Rattle.std.specs.Slice.Iter.{iter_rest}
use Rattle.std.specs.Iterator.Adapters.{zip_first, zip_second}
use Rattle.dissect_rows.proofs.alike.are_same.Given as goal

-- as many are left of both, and the lists are the same where these are
abbrev pub invariant-loop-one : goal.invariant-loop-one
invariant-loop-one l = record {
  count : length (iter_rest (zip_first l.one-iterator)) ≡ length (iter_rest (zip_second l.one-iterator));
  same : iter_rest (zip_first l.one-iterator) ≡ iter_rest (zip_second l.one-iterator) → l.some ≡ l.others;
}
