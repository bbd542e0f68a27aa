use Rattle.std.proofs.Common.{◌≡◌, ℕ, Bool, List, length, ap, ◌∙◌, arith}
use Rattle.pk_tree.specs.Buffers.{bytes_of}
use Rattle.dis_ip.specs.Ip4.{ip4_packet}
use Rattle.dis_ports.specs.Tcp.{tcp_head}
use Rattle.app_layers.specs.FrameLayer.{is_cut}
use Rattle.dissect.specs.Plain.{own}
use Rattle.dissect.specs.Walks.{all_met, link_met}
use Rattle.dissect.proofs.Opens.{kept-most}
use Rattle.dissect.proofs.PlainWay.{plain_walked, ready_opened, short_inside}
use Rattle.dissect.proofs.state.State.read_plain.Goals as goal

pub returns-clause-walked : goal.returns-clause-walked
returns-clause-walked c = λ es stands.
    let rules = c.args.rules.now in
    let frame = c.args.frame.now in
    let plain = c.args.plain.now in
    let outer_is : c.bytes-bytes.result.now ≡ own frame plain.packet = c.bytes-bytes.ensures.bytes ∙ ap (λ (bs : List (List ℕ)). bytes_of bs plain.packet) c.requires.frame in
    let inner_is : c.bytes.result.now ≡ own frame plain.ip.inner = c.bytes.ensures.bytes ∙ ap (λ (bs : List (List ℕ)). bytes_of bs plain.ip.inner) c.requires.frame in
    plain_walked rules frame (all_met rules frame (link_met rules frame c.args.tree.now es)) c.segment.new.self c.open_plain.new.tree c.segment.new.tree es
    c.head_of_ip4-packet_head.result (ip4_packet (is_cut frame) plain.packet (own frame plain.packet)) c.tcp_head-head.result (tcp_head (own frame plain.ip.inner)) plain.tcp.payload c.in_ok-segment.field-0
    (c.head_of_ip4-packet_head.ensures ∙ ap (λ (b : Bool). ip4_packet b plain.packet c.bytes-bytes.result.now) c.is_cut-cut.ensures ∙ ap (λ (b : List ℕ). ip4_packet (is_cut frame) plain.packet b) outer_is)
    (c.tcp_head-head.ensures ∙ ap (λ (b : List ℕ). tcp_head b) inner_is)
    (c.in_ok-open_plain.ensures.opened rules es) (c.in_ok-segment.ensures.walked es stands)

pub returns-clause-kept : goal.returns-clause-kept
returns-clause-kept c =
    omega (
      arith,
      kept-most c.args.plain.now.tcp.payload.len c.args.self.now c.segment.new.self c.in_ok-segment.field-0 c.in_ok-segment.ensures.adds,
      short_inside c.args.frame.now.bytes c.args.plain.now.tcp.payload c.requires.plain.tcp.inside,
    )

pub segment-requires-clause-ready : goal.segment-requires-clause-ready
segment-requires-clause-ready c =
    ready_opened c.args.plain.now.tcp.payload.len (length c.args.frame.now.bytes) c.args.self.now c.args.tree.now c.open_plain.new.tree
    (short_inside c.args.frame.now.bytes c.args.plain.now.tcp.payload c.requires.plain.tcp.inside) c.requires.room (ap length c.requires.frame) c.in_ok-open_plain.ensures.most c.open_plain.ensures.buffers c.requires.few
