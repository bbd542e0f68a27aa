use Rattle.stream_messages.proofs.HeadLawProofs.{laws_of_heads}
use Rattle.stream_messages.proofs.heads.head_laws.Goals as goal

pub returns : goal.returns
returns c = laws_of_heads
