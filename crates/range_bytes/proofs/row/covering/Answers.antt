use Rattle.std.proofs.Common.{◌-◌, ◌≡◌, ◌≤◌, Some, length, refl, subst, arith}
use Rattle.std.specs.List.{slice_get}
use Rattle.std.proofs.lemmas.Option.{slice_get_read}
use Rattle.range_bytes.specs.declared.piece.Piece.{Piece}
use Rattle.range_bytes.proofs.Covering.{row_covers, row_free, same_place}
use Rattle.range_bytes.proofs.row.covering.Goals as goal

pub returns-then-place-eq0-clause-none : goal.returns-then-place-eq0-clause-none
returns-then-place-eq0-clause-none c =
    row_free c.args.row.now c.requires.0 c.args.at c.place_of-place.result c.requires.1 (λ j piece next is. absurd (omega (arith, next, c.if-place-eq0.true))) c.place_of-place.ensures.behind c.place_of-place.ensures.within

pub returns-then-at-piece-clause-some : goal.returns-then-at-piece-clause-some
returns-then-at-piece-clause-some c =
    let place = c.place_of-place.result in
    let piece = c.index-row-place.result in
    let is : slice_get c.args.row.now (place - 1) ≡ Some piece = slice_get_read c.args.row.now (length c.args.row.now) (place - 1) piece refl (omega (arith, c.if-place-eq0.false, c.place_of-place.ensures.within)) c.index-row-place.is in
    row_covers c.args.row.now c.requires.0 c.args.at (place - 1) piece c.requires.1 is
    (c.place_of-place.ensures.before (place - 1) piece (omega (arith, c.if-place-eq0.false)) is) c.if-at-piece.true

pub returns-else-at-piece-clause-none : goal.returns-else-at-piece-clause-none
returns-else-at-piece-clause-none c =
    let row = c.args.row.now in
    let place = c.place_of-place.result in
    let piece = c.index-row-place.result in
    let is : slice_get row (place - 1) ≡ Some piece = slice_get_read row (length row) (place - 1) piece refl (omega (arith, c.if-place-eq0.false, c.place_of-place.ensures.within)) c.index-row-place.is in
    row_free row c.requires.0 c.args.at place c.requires.1
    (λ j other next there. subst (λ (p : Piece). p.end ≤ c.args.at) (same_place row (place - 1) j piece other (omega (arith, next)) is there) c.if-at-piece.false)
    c.place_of-place.ensures.behind c.place_of-place.ensures.within
