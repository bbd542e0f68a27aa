use Rattle.std.proofs.Common.{arith}
use Rattle.pk_text.proofs.PlaceLemmas.{short_number}
use Rattle.pk_text.proofs.places.place_long.Goals as goal

pub write_digits-start-requires : goal.write_digits-start-requires
write_digits-start-requires c =
    (short_number c.args.number c.ranges.number.fits, omega arith)
