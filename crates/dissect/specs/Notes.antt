-- The messages that frames showed, among all that was met. Lists have the newest first.
use Rattle.std.specs.Prelude.{List, [], ◌∷◌}
use Rattle.tcp_streams.specs.declared.segment.Segment.{Segment}
use Rattle.tcp_streams.specs.Labels.{taken_after}
use Rattle.tcp_messages.specs.Shown.{shown_after}
use Rattle.pk_fields.specs.declared.rules.PortRule.{PortRule}
use Rattle.pk_fields.specs.Applications.{udp_app}
use Rattle.app_layers.specs.MessageLayers.{app_of_segment, application, framer_of_segment}
use Rattle.message_links.specs.declared.notes.Note.{Note}
use Rattle.message_links.specs.Notes.{Noted, datagram_notes, noted_on, shown_notes, tcp_direction, udp_direction}
use Rattle.dissect.specs.Conversations.{udp_stream}
use Rattle.dissect.specs.Events.{Event, NewFrame, Piece, Udp, Tcp}
use Rattle.dissect.specs.Segments.{segment_from, segments_of}

abbrev pub segment_notes : List PortRule → List Segment → Segment → List Note
segment_notes rules past s = shown_notes (application (app_of_segment rules s)) s.payload (shown_after (framer_of_segment rules s) past s)

-- all messages that frames showed, by the rules for ports
unfoldable pub noted : List PortRule → List Event → List Noted
noted rules [] = []
noted rules (NewFrame ∷ es) = noted rules es
noted rules (Piece frame head bytes ∷ es) = noted rules es
noted rules (Udp frame packet head bytes ∷ es) =
    noted_on frame (udp_direction (udp_stream es packet head)) (datagram_notes (udp_app rules head.source head.target) bytes) (noted rules es)
noted rules (Tcp frame packet head bytes ∷ es) =
    noted_on frame (tcp_direction (taken_after (segments_of es) (segment_from frame packet head bytes)))
    (segment_notes rules (segments_of es) (segment_from frame packet head bytes)) (noted rules es)
