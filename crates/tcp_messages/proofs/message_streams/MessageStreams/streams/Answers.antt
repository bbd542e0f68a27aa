use Rattle.tcp_messages.specs.Standing.{ReadsFor, ReadsFrom}
use Rattle.tcp_messages.proofs.message_streams.MessageStreams.streams.Goals as goal

pub returns-clause-stands : goal.returns-clause-stands
unfolding ReadsFor
returns-clause-stands c = λ framer_of past reads. reads.streams

pub returns-clause-from : goal.returns-clause-from
unfolding ReadsFrom
returns-clause-from c = λ framer_of past reads. reads.streams
