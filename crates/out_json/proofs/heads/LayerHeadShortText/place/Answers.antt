use Rattle.pk_text.proofs.PlaceLemmas.{placed_then}
use Rattle.out_json.specs.Heads.{layer_head}
use Rattle.out_json.proofs.heads.LayerHeadShortText.place.Goals as goal

pub returns : goal.returns
unfolding layer_head
returns c = placed_then c.place_count-at.ensures.text c.place.ensures
