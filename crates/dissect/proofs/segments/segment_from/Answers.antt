use Rattle.std.proofs.Common.{refl}
use Rattle.dissect.proofs.segments.segment_from.Goals as goal

pub returns : goal.returns
returns c = refl
