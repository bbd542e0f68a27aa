use Rattle.std.proofs.Common.{arith}
use Rattle.pk_text.proofs.PlaceLemmas.{placed_behind}
use Rattle.pk_text.proofs.slab.place_short.Goals as goal

pub returns : goal.returns
returns g c = placed_behind c.args.bytes.now c.place.new.room (g.T.ShortText.text c.args.text.now) c.args.at c.place.result (omega arith) c.place.ensures
