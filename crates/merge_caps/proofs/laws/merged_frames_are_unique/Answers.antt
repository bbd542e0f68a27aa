use Rattle.merge_caps.proofs.OneOrder.{merged_once}
use Rattle.merge_caps.proofs.laws.merged_frames_are_unique.Goals as goal

pub returns : goal.returns
returns c = merged_once
