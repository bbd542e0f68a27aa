use Rattle.std.proofs.Common.{refl}
use Rattle.dissect.proofs.Joining.{stands-frame}
use Rattle.dissect.proofs.state.State.begin_frame.Goals as goal

pub returns-clause-stands : goal.returns-clause-stands
returns-clause-stands c = λ rules es stands. stands-frame rules es c.args.self.now _ stands refl refl refl refl refl refl c.clear.ensures.items
