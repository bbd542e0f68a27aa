use Rattle.std.proofs.Common.{◌≡◌, ◌+◌, ℕ, Some, suc, length, take, refl, sym, ap, ◌∙◌, arith}
use Rattle.std.specs.List.{slice_get}
use Rattle.std.proofs.lemmas.Option.{slice_get_read}
use Rattle.range_bytes.specs.Pieces.{with_piece, with_pieces}
use Rattle.range_bytes.proofs.LateLemmas.{take_put, free_take}
use Rattle.range_bytes.proofs.late.put_all.Goals as goal

pub returns-in-Err-clause-err : goal.returns-in-Err-clause-err
returns-in-Err-clause-err c =
    c.take_out.ensures c.args.late.now.entries (free_take c.args.pieces.now c.args.late.now.entries c.loop-count.count c.requires)
    (c.in-Err.ensures.err ∙ c.loop-count.invariant.1)

pub loop-count-preserved : goal.loop-count-preserved
loop-count-preserved c =
    let pieces = c.args.pieces.now in
    let n = c.loop-count.count in
    let piece = c.index-pieces-count.result in
    let is : slice_get pieces n ≡ Some piece = slice_get_read pieces (length pieces) n piece refl (omega (arith, c.loop-count-test.true)) c.index-pieces-count.is in
    let next : suc n ≡ n + 1 = omega arith in (
      omega (arith, c.loop-count-test.true),
      c.in_default.ensures.ok ∙ ap (λ es. with_piece es piece) c.loop-count.invariant.1 ∙ sym (take_put pieces c.args.late.now.entries n piece is)
          ∙ ap (λ (k : ℕ). with_pieces c.args.late.now.entries (take k pieces)) next,
    )
