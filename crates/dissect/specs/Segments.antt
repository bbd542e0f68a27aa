-- Segments of TCP, among all that was met.
use Rattle.std.specs.Prelude.{ℕ, List, [], ◌∷◌}
use Rattle.pk_base.specs.declared.heads.PacketHead.{PacketHead}
use Rattle.pk_base.specs.declared.heads.TcpHead.{TcpHead}
use Rattle.tcp_streams.specs.declared.segment.Segment.{Segment}
use Rattle.dissect.specs.Events.{Event, NewFrame, Piece, Udp, Tcp}

-- a segment, as it is taken: its ends are the addresses of the packet that it is in, with its ports
abbrev pub segment_from : ℕ → PacketHead → TcpHead → List ℕ → Segment
segment_from frame packet head bytes = record {
  frame = frame;
  from = record { address = packet.source; port = head.source };
  to = record { address = packet.target; port = head.target };
  seq = head.seq;
  ack = head.ack;
  syn = head.syn;
  acked = head.acked;
  payload = bytes;
}

-- the segments among events
unfoldable pub segments_of : List Event → List Segment
segments_of [] = []
segments_of (NewFrame ∷ es) = segments_of es
segments_of (Piece frame head bytes ∷ es) = segments_of es
segments_of (Udp frame packet head bytes ∷ es) = segments_of es
segments_of (Tcp frame packet head bytes ∷ es) = segment_from frame packet head bytes ∷ segments_of es
