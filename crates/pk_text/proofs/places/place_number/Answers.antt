use Rattle.std.proofs.Common.{arith}
use Rattle.pk_text.proofs.PlaceLemmas.{short_number}
use Rattle.pk_text.proofs.places.place_number.Goals as goal

pub returns-else-number-lt1000-clause-short : goal.returns-else-number-lt1000-clause-short
returns-else-number-lt1000-clause-short c = omega (arith, c.place_long.ensures.moved, short_number c.args.number c.ranges.number.fits)
