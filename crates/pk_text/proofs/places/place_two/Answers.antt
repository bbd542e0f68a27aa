use Rattle.std.proofs.Common.{List, ℕ, sym, subst}
use Rattle.pk_text.specs.Places.{Placed}
use Rattle.pk_text.proofs.PlaceLemmas.{placed_then, two_digits}
use Rattle.pk_text.proofs.places.place_two.Goals as goal

pub returns : goal.returns
returns c =
    subst (λ (text : List ℕ). Placed c.args.room.now c.place_byte.new.room c.args.at text c.place_byte.result)
    (sym (two_digits c.args.number c.requires.two.0 c.requires.two.1)) (placed_then c.place_byte-at.ensures c.place_byte.ensures)
