-- The way through a plain frame's headers, which their bytes tell.
use Rattle.std.proofs.Common.{◌≡◌, ◌==◌, ℕ, ◌+◌, ◌-◌, ◌<◌, ◌≤◌, false, List, [], ◌∷◌, length, refl, sym, ap, subst, ◌∙◌, arith}
use Rattle.std.proofs.lemmas.Bool.{cond-false}
use Rattle.std.proofs.lemmas.Bool.Decides.{nat_tests}
use Rattle.pk_base.specs.declared.span.Span.{Span}
use Rattle.pk_base.specs.declared.heads.After.{After}
use Rattle.pk_base.specs.declared.heads.After.TheVariants as afters
use Rattle.pk_base.specs.declared.heads.Mode.TheVariants.{Plain}
use Rattle.pk_base.specs.declared.heads.Next.{Next}
use Rattle.pk_base.specs.declared.heads.Next.TheVariants as nexts
use Rattle.pk_base.specs.declared.heads.PacketHead.{PacketHead}
use Rattle.pk_base.specs.declared.heads.TcpHead.{TcpHead}
use Rattle.pk_fields.specs.Ids.{ETH, IP, TCP}
use Rattle.pk_fields.specs.declared.rules.PortRule.{PortRule}
use Rattle.pk_tree.specs.Buffers.{IsInside, buffer_of, bytes_of}
use Rattle.pk_tree.specs.Layouts.{layer_read}
use Rattle.pk_tree.specs.Trees.{TreeShown}
use Rattle.dis_link.specs.EtherTypes.{ended, is_length}
use Rattle.dis_link.specs.Ethernet.{eth_after, eth_layout, eth_span, eth_type}
use Rattle.dis_link.specs.Link.{link_of, link_read, link_after}
use Rattle.dis_ip.specs.Ip4.{ip4_layout, ip4_packet, ip4_span}
use Rattle.dis_ports.specs.Tcp.{tcp_head, tcp_layout}
use Rattle.capture_read.specs.declared.frame.Frame.{Frame}
use Rattle.app_layers.specs.FrameLayer.{frame_span, is_cut}
use Rattle.app_layers.specs.Heads.{head_after, head_read, is_rest}
use Rattle.dissect.specs.declared.plain.PlainFrame.{PlainFrame}
use Rattle.dissect.specs.declared.state.State.{State}
use Rattle.dissect.specs.declared.todo.Head.{Head}
use Rattle.dissect.specs.declared.todo.Todo.{Todo}
use Rattle.dissect.specs.declared.todo.Todo.TheVariants as todos
use Rattle.dissect.specs.Events.{Event}
use Rattle.dissect.specs.Plain.{IsPlain, own}
use Rattle.dissect.specs.Stands.{HasRoomForOne, IsReady, IsWalked}
use Rattle.dissect.specs.Walks.{Walk, all_met, chain, followed, go_on, link_met, mode_after, no_packet, segment_met}
use Rattle.dissect.proofs.Chains.{chain-head, chain-stop}
use Rattle.dissect.proofs.HeadWords.{head_followed}
use Rattle.dissect.proofs.Told.{followed_alike}

abbrev first_head : Next → Span → Head
first_head which span = record { which = which; span = span; packet = no_packet; mode = Plain }

-- a type ends no layer
typed_span : (span : Span) (bytes : List ℕ) → is_length (eth_type bytes) ≡ false → eth_span span bytes ≡ span
unfolding ended
typed_span span bytes typed = rw typed refl

-- a header of Ethernet
pub ethernet_read : (frame : Frame) (t : TreeShown) → frame.link ≡ 1 → is_length (eth_type (bytes_of t.buffers (frame_span frame))) ≡ false
    → link_read (link_of frame.link) frame.little t (frame_span frame) (is_cut frame) ≡ layer_read t ETH (frame_span frame) (eth_layout (bytes_of t.buffers (frame_span frame))) Plain (is_cut frame)
unfolding link_read
ethernet_read frame t link typed =
    let bytes = bytes_of t.buffers (frame_span frame) in
    ap (λ (n : ℕ). link_read (link_of n) frame.little t (frame_span frame) (is_cut frame)) link
    ∙ ap (λ (s : Span). layer_read t ETH s (eth_layout bytes) Plain (is_cut frame)) (typed_span (frame_span frame) bytes typed)

pub ethernet_after : (frame : Frame) (bytes : List ℕ) → frame.link ≡ 1 → link_after (link_of frame.link) frame.little (frame_span frame) bytes ≡ eth_after (frame_span frame) bytes
unfolding link_after
ethernet_after frame bytes link = ap (λ (n : ℕ). link_after (link_of n) frame.little (frame_span frame) bytes) link

pub first_met : (rules : List PortRule) (frame : Frame) (t t1 : TreeShown) (es : List Event) (which : Next) (span : Span) → 0 < length frame.bytes
    → link_read (link_of frame.link) frame.little t (frame_span frame) (is_cut frame) ≡ t1
    → link_after (link_of frame.link) frame.little (frame_span frame) (bytes_of t.buffers (frame_span frame)) ≡ afters.Next which span
    → link_met rules frame t es ≡ go_on t1 es (first_head which span)
unfolding link_met followed
first_met rules frame t t1 es which span some tree after =
    let test : (length frame.bytes == 0) ≡ false = grind (arith, nat_tests) in
    cond-false _ _ _ test
    ∙ followed_alike rules frame no_packet Plain Plain (link_read (link_of frame.link) frame.little t (frame_span frame) (is_cut frame)) t1
    (link_after (link_of frame.link) frame.little (frame_span frame) (bytes_of t.buffers (frame_span frame))) (afters.Next which span) es refl tree after

-- a header behind others
pub next_met : (rules : List PortRule) (frame : Frame) (left : ℕ) (t read : TreeShown) (es : List Event) (head : Head) (after : After) → 0 < left → is_rest head.which ≡ false
    → head.mode ≡ mode_after head.which head.mode after → read ≡ head_read head.which head.mode (is_cut frame) head.span t
    → after ≡ head_after head.which head.packet head.mode (is_cut frame) head.span (bytes_of t.buffers head.span)
    → chain rules left frame (go_on t es head) ≡ chain rules (left - 1) frame (followed rules frame head.packet head.mode read es after)
next_met rules frame left t read es head after some rest mode tree is =
    chain-head rules frame left t es head some ∙ ap (chain rules (left - 1) frame) (sym (head_followed rules frame head head.mode t read after rest mode tree is es))

pub segment_last : (rules : List PortRule) (n : ℕ) (frame : Frame) (packet : PacketHead) (t : TreeShown) (es : List Event) (head : TcpHead) (span : Span)
    → chain rules n frame (segment_met rules frame packet t es head span) ≡ segment_met rules frame packet t es head span
unfolding segment_met
segment_last rules n frame packet t es head span = chain-stop rules n frame _ _

segment_way : (rules : List PortRule) (frame : Frame) (t t1 t2 t3 : TreeShown) (es : List Event) (outer inner payload : Span) (packet : PacketHead) (head : TcpHead) → length t1.layers ≤ 30
    → link_met rules frame t es ≡ go_on t1 es (first_head nexts.Ip4 outer)
    → t2 ≡ head_read nexts.Ip4 Plain (is_cut frame) outer t1 → afters.Packet nexts.Tcp inner packet ≡ head_after nexts.Ip4 no_packet Plain (is_cut frame) outer (bytes_of t1.buffers outer)
    → t3 ≡ head_read nexts.Tcp Plain (is_cut frame) inner t2 → afters.Segment head payload ≡ head_after nexts.Tcp packet Plain (is_cut frame) inner (bytes_of t2.buffers inner)
    → all_met rules frame (link_met rules frame t es) ≡ segment_met rules frame packet t3 es head payload
unfolding all_met followed
segment_way rules frame t t1 t2 t3 es outer inner payload packet head few first ip carried tcp segment =
    let left : ℕ = 32 - length t1.layers in
    ap (all_met rules frame) first
    ∙ next_met rules frame left t1 t2 es (first_head nexts.Ip4 outer) (afters.Packet nexts.Tcp inner packet) (omega arith) refl refl ip carried
    ∙ next_met rules frame (left - 1) t2 t3 es (record { which = nexts.Tcp; span = inner; packet = packet; mode = Plain }) (afters.Segment head payload) (omega arith) refl refl tcp segment
    ∙ segment_last rules (left - 1 - 1) frame packet t3 es head payload

-- the trees with the layers of a plain frame's headers
pub record IsOpened (frame : Frame) (plain : PlainFrame) (t t1 t2 t3 : TreeShown) : Type 0 where
  pub own_bytes : t.buffers ≡ frame.bytes ∷ []
  pub few : length t.layers ≤ 2
  pub one : length t1.layers ≡ length t.layers + 1
  pub same : t1.buffers ≡ t.buffers
  pub still : t2.buffers ≡ t1.buffers
  pub ethernet : t1 ≡ layer_read t ETH (frame_span frame) (eth_layout (own frame (frame_span frame))) Plain (is_cut frame)
  pub ip : t2 ≡ layer_read t1 IP plain.ip.layer (ip4_layout (own frame plain.packet)) Plain (is_cut frame)
  pub tcp : t3 ≡ layer_read t2 TCP plain.ip.inner (tcp_layout (bytes_of t2.buffers plain.ip.inner)) Plain (is_cut frame)

ip_read : (frame : Frame) (t t1 : TreeShown) (outer layer : Span) (bytes : List ℕ) → bytes_of t.buffers outer ≡ bytes → layer ≡ ip4_span outer bytes → t1 ≡ layer_read t IP layer (ip4_layout bytes) Plain (is_cut frame)
    → t1 ≡ head_read nexts.Ip4 Plain (is_cut frame) outer t
unfolding head_read
ip_read frame t t1 outer layer bytes same is read =
    read ∙ ap (λ (s : Span). layer_read t IP s (ip4_layout bytes) Plain (is_cut frame)) is
    ∙ ap (λ (b : List ℕ). layer_read t IP (ip4_span outer b) (ip4_layout b) Plain (is_cut frame)) (sym same)

tcp_read : (frame : Frame) (t t1 : TreeShown) (inner : Span) → t1 ≡ layer_read t TCP inner (tcp_layout (bytes_of t.buffers inner)) Plain (is_cut frame) → t1 ≡ head_read nexts.Tcp Plain (is_cut frame) inner t
unfolding head_read
tcp_read frame t t1 inner read = read

pub plain_way : (frame : Frame) (plain : PlainFrame) (t t1 t2 t3 : TreeShown) → IsPlain frame plain → IsOpened frame plain t t1 t2 t3 → (rules : List PortRule) (es : List Event)
    → all_met rules frame (link_met rules frame t es)
    ≡ segment_met rules frame (ip4_packet (is_cut frame) plain.packet (own frame plain.packet)) t3 es (tcp_head (own frame plain.ip.inner)) plain.tcp.payload
unfolding head_after
plain_way frame plain t t1 t2 t3 is opened rules es =
    let whole : Span = frame_span frame in
    let eth = is.ethernet in
    let buffers1 : t1.buffers ≡ frame.bytes ∷ [] = opened.same ∙ opened.own_bytes in
    let buffers2 : t2.buffers ≡ frame.bytes ∷ [] = opened.still ∙ buffers1 in
    let own_is : bytes_of t.buffers whole ≡ own frame whole = ap (λ (bs : List (List ℕ)). bytes_of bs whole) opened.own_bytes in
    let outer_is : bytes_of t1.buffers plain.packet ≡ own frame plain.packet = ap (λ (bs : List (List ℕ)). bytes_of bs plain.packet) buffers1 in
    let inner_is : bytes_of t2.buffers plain.ip.inner ≡ own frame plain.ip.inner = ap (λ (bs : List (List ℕ)). bytes_of bs plain.ip.inner) buffers2 in
    let typed : is_length (eth_type (bytes_of t.buffers whole)) ≡ false = ap (λ (b : List ℕ). is_length (eth_type b)) own_is ∙ eth.typed in
    let read : link_read (link_of frame.link) frame.little t whole (is_cut frame) ≡ t1 =
    ethernet_read frame t eth.link typed ∙ ap (λ (b : List ℕ). layer_read t ETH whole (eth_layout b) Plain (is_cut frame)) own_is ∙ sym opened.ethernet in
    let after : link_after (link_of frame.link) frame.little whole (bytes_of t.buffers whole) ≡ afters.Next nexts.Ip4 plain.packet =
    ethernet_after frame (bytes_of t.buffers whole) eth.link ∙ ap (eth_after whole) own_is ∙ eth.after in
    let first : link_met rules frame t es ≡ go_on t1 es (first_head nexts.Ip4 plain.packet) = first_met rules frame t t1 es nexts.Ip4 plain.packet (omega (arith, eth.long)) read after in
    segment_way rules frame t t1 t2 t3 es plain.packet plain.ip.inner plain.tcp.payload (ip4_packet (is_cut frame) plain.packet (own frame plain.packet)) (tcp_head (own frame plain.ip.inner))
    (omega (arith, opened.few, opened.one)) first
    (ip_read frame t1 t2 plain.packet plain.ip.layer (own frame plain.packet) outer_is is.ip.layer opened.ip)
    (sym (ap (λ (b : List ℕ). head_after nexts.Ip4 no_packet Plain (is_cut frame) plain.packet b) outer_is ∙ is.ip.after (is_cut frame)))
    (tcp_read frame t2 t3 plain.ip.inner opened.tcp)
    (sym (ap (λ (b : List ℕ). head_after nexts.Tcp (ip4_packet (is_cut frame) plain.packet (own frame plain.packet)) Plain (is_cut frame) plain.ip.inner b) inner_is ∙ is.tcp.after))

-- a segment ends the way
segment_done : (rules : List PortRule) (frame : Frame) (packet : PacketHead) (t : TreeShown) (es : List Event) (head : TcpHead) (span : Span) → (segment_met rules frame packet t es head span).todo ≡ todos.Done
unfolding segment_met
segment_done rules frame packet t es head span = refl

pub plain_walked : (rules : List PortRule) (frame : Frame) (w : Walk) (state : State) (t u : TreeShown) (es : List Event) (used packet : PacketHead) (had head : TcpHead) (span : Span) (todo : Todo) → used ≡ packet → had ≡ head
    → w ≡ segment_met rules frame packet t es head span → IsWalked rules (segment_met rules frame used t es had span) state u todo → IsWalked rules w state u todos.Done
plain_walked rules frame w state t u es used packet had head span todo packet_is head_is is walked =
    let done : todo ≡ todos.Done = walked.todo ∙ segment_done rules frame used t es had span in
    let way : segment_met rules frame used t es had span ≡ w =
    ap (λ (p : PacketHead). segment_met rules frame p t es had span) packet_is ∙ ap (λ (h : TcpHead). segment_met rules frame packet t es h span) head_is ∙ sym is in
    subst (λ (x : Walk). IsWalked rules x state u todos.Done) way (subst (λ (x : Todo). IsWalked rules (segment_met rules frame used t es had span) state u x) done walked)

-- what lies in the frame ends inside it
pub inside_end : (bytes : List ℕ) (span : Span) → IsInside (bytes ∷ []) span → (span.buffer ≡ 0) × (span.start + span.len ≤ length bytes)
inside_end bytes span inside =
    let first : span.buffer ≡ 0 = omega (arith, inside.0) in
    (first, subst (λ (n : ℕ). span.start + span.len ≤ length (buffer_of (bytes ∷ []) n)) first inside.1)

-- and is no longer than it
pub short_inside : (bytes : List ℕ) (span : Span) → IsInside (bytes ∷ []) span → span.len ≤ length bytes
short_inside bytes span inside =
    let first : span.buffer ≡ 0 = omega (arith, inside.0) in
    let fits : span.start + span.len ≤ length bytes = subst (λ (n : ℕ). span.start + span.len ≤ length (buffer_of (bytes ∷ []) n)) first inside.1 in
    omega (arith, fits)

-- behind the headers there is room for a segment
pub ready_opened : (less bytes : ℕ) (state : State) (t u : TreeShown) → less ≤ bytes → length t.layers ≤ 2 → length t.buffers ≡ 1 → length u.layers ≤ length t.layers + 4 → u.buffers ≡ t.buffers → HasRoomForOne bytes state
    → IsReady 2 less state u
ready_opened less bytes state t u within few one layers same room = record {
  state = record { udp = room.udp; tcp = room.tcp; bytes = omega (arith, room.bytes, within) };
  layers = omega (arith, few, layers);
  buffers = omega (arith, one, ap length same);
}
