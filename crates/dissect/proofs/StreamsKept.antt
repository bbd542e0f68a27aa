-- The streams whose bytes may be let go.
use Rattle.std.proofs.Common.{List, Option}
use Rattle.stream_messages.specs.declared.framer.Framer.{Framer}
use Rattle.tcp_streams.specs.declared.segment.Segment.{Segment}
use Rattle.tcp_streams.specs.LetGo.{StandsFrom}
use Rattle.tcp_messages.specs.Standing.{ReadsFrom, streams_in}
use Rattle.tcp_messages.specs.declared.message_streams.MessageStreams.{MessageStreams}

pub stands_in : (framer_of : Segment → Option Framer) (past : List Segment) (m : MessageStreams) → ReadsFrom framer_of past m → StandsFrom past (streams_in m)
unfolding ReadsFrom
stands_in framer_of past m reads = reads.streams
