use Rattle.std.proofs.Common.{length, refl, subst, arith}
use Rattle.std.proofs.lemmas.Option.{slice_get_read, slice_get_within}
use Rattle.range_bytes.specs.declared.piece.Piece.{Piece}
use Rattle.range_bytes.specs.Held.{IsFirstHeld}
use Rattle.range_bytes.specs.Pieces.{held_of}
use Rattle.range_bytes.proofs.Covering.{row_next, row_quiet}
use Rattle.range_bytes.proofs.row.next_start.Goals as goal

pub returns-then-place-row : goal.returns-then-place-row
returns-then-place-row c =
    let row = c.args.row.now in
    let place = c.place_of-place.result in
    subst (λ (piece : Piece). IsFirstHeld (held_of row) c.args.from piece.start) c.index-row-place.is (row_next row c.requires.apart.0 c.args.from place c.index-row-place.result c.requires.apart.1 c.requires.free
    c.place_of-place.ensures.before c.place_of-place.ensures.behind c.place_of-place.ensures.within
    (slice_get_read row (length row) place c.index-row-place.result refl (omega (arith, c.if-place-row.true)) c.index-row-place.is))

pub returns-else-place-row : goal.returns-else-place-row
returns-else-place-row c = λ at order.
    let row = c.args.row.now in
    let place = c.place_of-place.result in
    row_quiet row c.requires.apart.0 c.args.from at place c.requires.apart.1 c.requires.free c.place_of-place.ensures.before
    (λ piece is. absurd (omega (arith, c.if-place-row.false, slice_get_within row place piece is))) c.place_of-place.ensures.within order
