use Rattle.second_pass.proofs.OtherLemmas.{others_pass, others_stay}
use Rattle.second_pass.proofs.laws.other_frames_have_no_links.Goals as goal

pub returns-clause-pass : goal.returns-clause-pass
returns-clause-pass c = others_pass

pub returns-clause-stay : goal.returns-clause-stay
returns-clause-stay c = others_stay
