use Rattle.dissect.proofs.FramesAside.{other_frame_left_out}
use Rattle.dissect.proofs.LeftOut.{others_left_out, others_put_in}
use Rattle.dissect.proofs.laws.others_left_out.Goals as goal

pub returns-clause-left_out : goal.returns-clause-left_out
returns-clause-left_out c = others_left_out

pub returns-clause-put_in : goal.returns-clause-put_in
returns-clause-put_in c = others_put_in

pub returns-clause-frame : goal.returns-clause-frame
returns-clause-frame c = other_frame_left_out
