use Rattle.pk_text.proofs.PlaceLemmas.{placed_then}
use Rattle.out_json.specs.Heads.{placed_head}
use Rattle.out_json.proofs.heads.PlacedHeadShortText.place.Goals as goal

pub returns : goal.returns
unfolding placed_head
returns c = placed_then c.place_count-at.ensures.text (placed_then c.place_name-at.ensures.text (placed_then c.place_count-at-2.ensures.text (placed_then c.place_count-at-3.ensures.text c.place.ensures)))
