use Rattle.std.proofs.Common.{◌≡◌, ◌-◌, ℕ, Some, suc, length, take, refl, ap, ◌∙◌, arith}
use Rattle.std.specs.List.{slice_get}
use Rattle.std.specs.Map.{remove_entry}
use Rattle.std.specs.BTreeMap.{is_at}
use Rattle.std.specs.Ordering.{nat_cmp}
use Rattle.std.proofs.lemmas.Option.{slice_get_read}
use Rattle.range_bytes.specs.Pieces.{with_pieces}
use Rattle.range_bytes.proofs.LateLemmas.{undone}
use Rattle.range_bytes.proofs.late.take_out.Goals as goal

pub loop-count-preserved : goal.loop-count-preserved
loop-count-preserved c =
    let pieces = c.args.pieces.now in
    let n = c.loop-count.count - 1 in
    let piece = c.index-pieces-count.result in
    let is : slice_get pieces n ≡ Some piece = slice_get_read pieces (length pieces) n piece refl (omega (arith, c.loop-count-test.true, c.loop-count.invariant.0)) c.index-pieces-count.is in
    let next : c.loop-count.count ≡ suc n = omega (arith, c.loop-count-test.true) in (
      omega (arith, c.loop-count.invariant.0),
      λ before free put.
          c.take_one.ensures
          ∙ ap (remove_entry (is_at (nat_cmp piece.start))) (c.loop-count.invariant.1 before free put ∙ ap (λ (k : ℕ). with_pieces before (take k pieces)) next)
          ∙ undone pieces before n piece free is,
    )
