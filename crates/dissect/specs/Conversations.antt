-- The conversations over UDP, among all that was met.
use Rattle.std.specs.Prelude.{ℕ, List, [], ◌∷◌}
use Rattle.pk_base.specs.declared.heads.PacketHead.{PacketHead}
use Rattle.pk_base.specs.declared.heads.PortsHead.{PortsHead}
use Rattle.tcp_streams.specs.declared.ends.Ends.{Ends}
use Rattle.message_links.specs.Conversations.{number_in, udp_ends, with_ends}
use Rattle.dissect.specs.Events.{Event, NewFrame, Piece, Udp, Tcp}

-- the conversations over UDP, in the order of their first packets; events have the newest first
unfoldable pub udp_opened : List Event → List Ends
udp_opened [] = []
udp_opened (NewFrame ∷ es) = udp_opened es
udp_opened (Piece frame head bytes ∷ es) = udp_opened es
udp_opened (Udp frame packet head bytes ∷ es) = with_ends (udp_opened es) (udp_ends packet head)
udp_opened (Tcp frame packet head bytes ∷ es) = udp_opened es

-- the number of a packet's conversation, from 0, given the events before it
abbrev pub udp_stream : List Event → PacketHead → PortsHead → ℕ
udp_stream es packet head = number_in (udp_opened es) (udp_ends packet head)
