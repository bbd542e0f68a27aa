-- The links of the newest frame's messages to those of earlier frames.
use Rattle.std.specs.Prelude.{ℕ, List, [], ◌∷◌, Option}
use Rattle.tcp_streams.specs.Labels.{taken_after}
use Rattle.pk_fields.specs.declared.rules.PortRule.{PortRule}
use Rattle.pk_fields.specs.Applications.{udp_app}
use Rattle.message_links.specs.Links.{links_of}
use Rattle.message_links.specs.Notes.{datagram_notes, tcp_direction, udp_direction}
use Rattle.dissect.specs.Conversations.{udp_stream}
use Rattle.dissect.specs.Events.{Event, NewFrame, Piece, Udp, Tcp}
use Rattle.dissect.specs.Notes.{noted, segment_notes}
use Rattle.dissect.specs.Segments.{segment_from, segments_of}

-- those of the newest frame's messages: a frame's last event is the packet that brought them
unfoldable pub newest_links : List PortRule → List Event → List (Option ℕ)
newest_links rules [] = []
newest_links rules (NewFrame ∷ es) = []
newest_links rules (Piece frame head bytes ∷ es) = newest_links rules es
newest_links rules (Udp frame packet head bytes ∷ es) =
    links_of (noted rules es) (udp_direction (udp_stream es packet head)) (datagram_notes (udp_app rules head.source head.target) bytes)
newest_links rules (Tcp frame packet head bytes ∷ es) =
    links_of (noted rules es) (tcp_direction (taken_after (segments_of es) (segment_from frame packet head bytes)))
    (segment_notes rules (segments_of es) (segment_from frame packet head bytes))
