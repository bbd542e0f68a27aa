use Rattle.pk_text.proofs.PlaceLemmas.{placed_then}
use Rattle.out_json.specs.Heads.{layer_tail}
use Rattle.out_json.proofs.heads.LayerTailShortText.place.Goals as goal

pub returns : goal.returns
unfolding layer_tail
returns c = placed_then c.place_count-at.ensures.text (placed_then c.place_count-at-2.ensures.text (placed_then c.place_name-at.ensures.text (placed_then c.place_count-at-3.ensures.text c.place_byte.ensures)))
