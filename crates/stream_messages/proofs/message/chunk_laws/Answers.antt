use Rattle.stream_messages.proofs.ChunkLawProofs.{laws_of_chunks}
use Rattle.stream_messages.proofs.message.chunk_laws.Goals as goal

pub returns : goal.returns
returns c = laws_of_chunks
