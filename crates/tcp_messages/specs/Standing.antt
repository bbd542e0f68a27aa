-- What is kept of streams' messages, and the list of segments that it stands for, the newest first.
use Rattle.std.specs.Prelude.{◌≡◌, false, List, Option}
use Rattle.tcp_streams.specs.declared.segment.Segment.{Segment}
use Rattle.tcp_streams.specs.declared.streams.Streams.{Streams}
use Rattle.tcp_streams.specs.Labels.{labels}
use Rattle.tcp_streams.specs.LetGo.{StandsFrom}
use Rattle.tcp_streams.specs.Standing.{StandsFor, streams_of}
use Rattle.stream_messages.specs.declared.framer.Framer.{Framer}
use Rattle.tcp_messages.specs.declared.message_streams.MessageStreams.{MessageStreams}
use Rattle.tcp_messages.specs.Readers.{ReadsStreams, ReadsStreamsFrom, starts_of}

abbrev pub streams_in : MessageStreams → Streams
streams_in m = m.kept.streams

pub record ReadsRight (framer_of : Segment → Option Framer) (past : List Segment) (m : MessageStreams) : Type 0 where
  pub streams : StandsFor past (streams_in m)
  pub fresh : m.kept.spent ≡ false
  pub readers : ReadsStreams framer_of (labels past) m.kept.readers.items

unfoldable pub ReadsFor : (Segment → Option Framer) → List Segment → MessageStreams → Type 0
ReadsFor framer_of past m = ReadsRight framer_of past m

-- where bytes may have been let go: what is kept of each direction goes on as the direction does, and each reader is right for what is
-- left of its bytes
pub record ReadsKept (framer_of : Segment → Option Framer) (past : List Segment) (m : MessageStreams) : Type 0 where
  pub streams : StandsFrom past (streams_in m)
  pub fresh : m.kept.spent ≡ false
  pub readers : ReadsStreamsFrom framer_of (starts_of (streams_of (streams_in m))) (labels past) m.kept.readers.items

unfoldable pub ReadsFrom : (Segment → Option Framer) → List Segment → MessageStreams → Type 0
ReadsFrom framer_of past m = ReadsKept framer_of past m
