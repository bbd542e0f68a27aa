use Rattle.pk_text.proofs.PlaceLemmas.{placed_then}
use Rattle.out_json.specs.Heads.{made_head}
use Rattle.out_json.proofs.heads.MadeHeadShortText.place.Goals as goal

pub returns : goal.returns
unfolding made_head
returns c = placed_then c.place_name-at.ensures.text c.place.ensures
