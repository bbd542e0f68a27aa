use Rattle.std.proofs.Common.{◌/◌, List, ℕ, arith, lit<, sym, subst}
use Rattle.std.proofs.lemmas.Fmt.{decimal_step, length-decimal-le}
use Rattle.pk_text.specs.Places.{Placed}
use Rattle.pk_text.proofs.PlaceLemmas.{placed_then}
use Rattle.pk_text.proofs.places.place_three.Goals as goal

pub place_byte-requires : goal.place_byte-requires
place_byte-requires c =
    omega (arith, c.place_two-at.ensures.moved, c.place_two-at.ensures.len, length-decimal-le 2 (c.args.number / 10) (lit< tt) (omega arith) (omega arith))

pub returns : goal.returns
returns c =
    subst (λ (text : List ℕ). Placed c.args.room.now c.place_byte.new.room c.args.at text c.place_byte.result)
    (sym (decimal_step c.args.number (omega arith) (omega arith))) (placed_then c.place_two-at.ensures c.place_byte.ensures)
