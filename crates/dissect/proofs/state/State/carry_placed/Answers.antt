use Rattle.std.proofs.Common.{◌≡◌, ◌∙◌, Bool, ◌∷◌, ℕ, List, ap, refl, subst, sym}
use Rattle.pk_base.specs.declared.heads.PacketHead.{PacketHead}
use Rattle.pk_base.specs.declared.heads.TcpHead.{TcpHead}
use Rattle.pk_tree.specs.Buffers.{bytes_of}
use Rattle.pk_tree.specs.Trees.{TreeShown}
use Rattle.tcp_streams.specs.declared.segment.Segment.{Segment}
use Rattle.tcp_streams.specs.Labels.{taken_after}
use Rattle.tcp_streams.specs.PlacesStanding.{PlacesStandFor}
use Rattle.app_layers.specs.FrameLayer.{is_cut}
use Rattle.app_layers.specs.Payloads.{segment_told}
use Rattle.dissect.specs.Carried.{segment_by, shown_by}
use Rattle.dissect.specs.Plain.{own}
use Rattle.dissect.specs.Ways.{packet_at}
use Rattle.dis_ports.specs.Tcp.{tcp_head}
use Rattle.dissect.specs.Segments.{segment_from}
use Rattle.dissect.specs.declared.carried.Place.{Place}
use Rattle.dissect.proofs.Passing.{placed-walked, shown_free, told_placed}
use Rattle.dissect.proofs.state.State.carry_placed.Goals as goal
use Rattle.std.specs.Prelude.{Some}

pub returns-in-Ok-clause-walked : goal.returns-in-Ok-clause-walked
returns-in-Ok-clause-walked c = λ rules t es app_is buffers stands.
    let frame = c.args.frame.now in
    let last = c.args.last.now in
    let packet = packet_at frame last.packet in
    let head = tcp_head (own frame last.header) in
    let payload = last.payload in
    let app = c.args.app in
    let bytes_are : own frame payload ≡ bytes_of t.buffers payload = ap (λ (bs : List (List ℕ)). bytes_of bs payload) (sym buffers) in
    let segment_is : c.segment_from-segment.result ≡ segment_from frame.number packet head (bytes_of t.buffers payload) =
    c.segment_from-segment.ensures ∙ ap (λ (p : PacketHead). segment_from frame.number p c.tcp_head-head.result c.in_ok-payload.payload) c.packet_at-packet.ensures
    ∙ ap (λ (h : TcpHead). segment_from frame.number packet h c.in_ok-payload.payload) (c.tcp_head-head.ensures ∙ ap (λ (b : List ℕ). tcp_head b) c.own.ensures.bytes)
    ∙ ap (segment_from frame.number packet head) (c.in_ok-payload.ensures ∙ bytes_are) in
    placed-walked rules frame packet head payload app c.in-Ok.taken c.take-placed.new.self c.args.self.now _ t _
    app_is c.requires.places refl
    (λ past stood. subst (λ (s : Segment). c.in-Ok.taken ≡ taken_after past s) segment_is (c.in-Ok.ensures.taken past stood))
    (λ past stood. subst (λ (s : Segment). PlacesStandFor (s ∷ past) c.take-placed.new.self) segment_is (c.in-Ok.ensures.stands past stood))
    (ap (λ (place : Place). shown_by c.is_free.result (segment_by t (Some place) payload) payload) c.place_of.ensures
    ∙ ap (λ (x : TreeShown). shown_by c.is_free.result x payload) (told_placed t c.in-Ok.taken payload)
    ∙ ap (λ (free : Bool). shown_by free (segment_told t c.in-Ok.taken payload) payload) c.is_free.ensures
    ∙ shown_free app (is_cut frame) payload (segment_told t c.in-Ok.taken payload))
    es stands
