use Rattle.merge_caps.proofs.TimeOrder.{merged_by_time}
use Rattle.merge_caps.proofs.laws.merged_frames_stand_by_time.Goals as goal

pub returns : goal.returns
returns c = merged_by_time
