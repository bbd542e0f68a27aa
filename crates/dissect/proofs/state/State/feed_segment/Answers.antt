use Rattle.std.proofs.Common.{◌≡◌, ◌∙◌, All, ℕ, List, [], ◌∷◌, Option, ap, refl, subst, sym, arith}
use Rattle.std.proofs.lemmas.Result.{on_ok_weaker}
use Rattle.pk_base.specs.declared.heads.PacketHead.{PacketHead}
use Rattle.pk_base.specs.declared.heads.TcpHead.{TcpHead}
use Rattle.dis_ports.specs.Tcp.{tcp_head}
use Rattle.app_layers.proofs.StreamApps.{framers_of_ends}
use Rattle.app_layers.specs.MessageLayers.{app_of_segment, framer_of_segment, framing}
use Rattle.stream_messages.specs.declared.framer.Framer.{Framer}
use Rattle.tcp_messages.specs.Shown.{IsWholeIn, shown_after}
use Rattle.tcp_streams.specs.declared.segment.Segment.{Segment}
use Rattle.dissect.specs.Plain.{own}
use Rattle.dissect.specs.Ways.{packet_at}
use Rattle.dissect.specs.Segments.{segment_from}
use Rattle.dissect.specs.declared.feeding.Brought.{Brought}
use Rattle.dissect.specs.declared.state.State.{State}
use Rattle.dissect.proofs.FedLemmas.{met_ok, taken-fed}
use Rattle.dissect.proofs.PlainWay.{short_inside}
use Rattle.dissect.proofs.Shrinking.{bytes_short}
use Rattle.dissect.proofs.state.State.feed_segment.Goals as goal

pub take_into-taken-requires-clause-bytes : goal.take_into-taken-requires-clause-bytes
take_into-taken-requires-clause-bytes c =
    let bytes = c.args.frame.now.bytes in
    let span = c.args.last.now.payload in
    omega (
      arith,
      c.requires.few.bytes,
      c.begin_frame.ensures.kept,
      bytes_short (bytes ∷ []) span c.segment_from-segment.result.payload (ap (λ (s : Segment). s.payload) c.segment_from-segment.ensures ∙ c.in_ok-payload.ensures),
      short_inside bytes span c.requires.inside,
    )

pub link_brought-requires-clause-showable : goal.link_brought-requires-clause-showable
link_brought-requires-clause-showable c =
    let payload_is = ap (λ (s : Segment). s.payload) c.segment_from-segment.ensures ∙ c.in_ok-payload.ensures in
    record {
      near = c.in-Ok.ensures.near;
      frames = c.in-Ok.ensures.frames;
      whole = subst (λ (bytes : List ℕ). All (IsWholeIn bytes) c.in-Ok.met.messages) payload_is c.in-Ok.ensures.whole;
    }

pub returns-in-Ok-clause-fed : goal.returns-in-Ok-clause-fed
returns-in-Ok-clause-fed c =
    let frame = c.args.frame.now in
    let last = c.args.last.now in
    let packet = packet_at frame last.packet in
    let head = tcp_head (own frame last.header) in
    let segment = c.segment_from-segment.result in
    let segment_is : segment ≡ segment_from frame.number packet head (own frame last.payload) =
    c.segment_from-segment.ensures ∙ ap (λ (p : PacketHead). segment_from frame.number p c.tcp_head-head.result c.in_ok-payload.payload) c.packet_at-packet.ensures
    ∙ ap (λ (h : TcpHead). segment_from frame.number packet h c.in_ok-payload.payload) (c.tcp_head-head.ensures ∙ ap (λ (b : List ℕ). tcp_head b) c.own.ensures.bytes)
    ∙ ap (segment_from frame.number packet head) c.in_ok-payload.ensures in
    let brought : Brought = record { met = c.in-Ok.met; app = c.args.app; payload = last.payload } in
    let begun : State = c.begin_frame.new.self in
    let new : State = c.link_brought.new.self in
    let streams = c.take_into-taken.new.streams in
    met_ok frame brought (record begun { streams = streams }) new _ c.link_brought.result c.link_brought.ensures.fed c.link_brought.ensures.met
    (λ met rules passes app_is.
    let framer_is = c.framing.ensures ∙ ap framing (app_is ∙ ap (app_of_segment rules) (sym segment_is)) in
    taken-fed rules frame last segment brought c.args.self.now begun new streams
    (record {
      app_is = app_is;
      payload_is = refl;
      segment_is = segment_is;
      followed = c.requires.follows;
      begins = c.begin_frame.ensures.stands rules;
      keeps = c.begin_frame.ensures.adds.keeps;
      taken_is = λ past reads. c.in-Ok.ensures.taken (framer_of_segment rules) past reads;
      messages_is = λ past reads. c.in-Ok.ensures.shown (framer_of_segment rules) past (framers_of_ends rules) framer_is reads ∙ ap (λ (framer : Option Framer). shown_after framer past segment) framer_is;
      kept = λ past reads. c.in-Ok.ensures.stands (framer_of_segment rules) past (framers_of_ends rules) framer_is reads;
      same = c.link_brought.ensures.same;
      met = met;
    }) passes
    (record {
      near = c.in-Ok.ensures.near;
      frames = c.in-Ok.ensures.frames;
      whole = subst (λ (bytes : List ℕ). All (IsWholeIn bytes) c.in-Ok.met.messages) (ap (λ (s : Segment). s.payload) segment_is) c.in-Ok.ensures.whole;
    }))

pub returns-in-Ok-clause-kept : goal.returns-in-Ok-clause-kept
returns-in-Ok-clause-kept c =
    let bytes = c.args.frame.now.bytes in
    let span = c.args.last.now.payload in
    on_ok_weaker c.link_brought.result
    (λ met. omega (
      arith,
      c.begin_frame.ensures.kept,
      c.take_into-taken.ensures.bytes,
      c.link_brought.ensures.kept,
      bytes_short (bytes ∷ []) span c.segment_from-segment.result.payload (ap (λ (s : Segment). s.payload) c.segment_from-segment.ensures ∙ c.in_ok-payload.ensures),
      short_inside bytes span c.requires.inside,
    )) c.link_brought.ensures.met
