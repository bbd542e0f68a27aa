use Rattle.std.proofs.Common.{List, ℕ, arith, lit<, sym, subst}
use Rattle.std.proofs.lemmas.Fmt.{decimal_digit, length-decimal-le}
use Rattle.pk_text.specs.Places.{Placed}
use Rattle.pk_text.proofs.places.place_small.Goals as goal

pub returns-then-number-lt10-clause-text : goal.returns-then-number-lt10-clause-text
returns-then-number-lt10-clause-text c =
    subst (λ (text : List ℕ). Placed c.args.room.now c.place_byte.new.room c.args.at text c.place_byte.result)
    (sym (decimal_digit c.args.number c.if-number-lt10.true)) c.place_byte.ensures

pub returns-then-number-lt100-clause-short : goal.returns-then-number-lt100-clause-short
returns-then-number-lt100-clause-short c =
    omega (arith, c.place_two.ensures.moved, length-decimal-le 3 c.args.number (lit< tt) (omega arith) (omega arith))

pub returns-else-number-lt100-clause-short : goal.returns-else-number-lt100-clause-short
returns-else-number-lt100-clause-short c =
    omega (arith, c.place_three.ensures.moved, length-decimal-le 3 c.args.number (lit< tt) (omega arith) (omega arith))
