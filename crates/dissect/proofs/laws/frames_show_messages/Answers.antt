use Rattle.dissect.proofs.FramesTold.{frames_show, frames_tell}
use Rattle.dissect.proofs.laws.frames_show_messages.Goals as goal

pub returns-clause-messages : goal.returns-clause-messages
returns-clause-messages c = frames_show

pub returns-clause-stream : goal.returns-clause-stream
returns-clause-stream c = frames_tell
