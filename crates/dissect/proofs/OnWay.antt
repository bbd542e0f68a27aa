-- Headers that are read whole, one behind the other, and the way that they lead.
use Rattle.std.proofs.Common.{◌≡◌, ◌==◌, ℕ, ◌+◌, ◌-◌, ◌<◌, ◌≤◌, ◌^◌, Bool as Truth, true, false, cond, List, [], ◌∷◌, ◌++◌, length, map, drop, take, refl, ap, sym, subst, ◌∙◌, append-nil, append_assoc, arith}
use Rattle.std.proofs.lemmas.Bool.Decides.{nat_tests}
use Rattle.std.proofs.lemmas.List.{length-map, length_push, map-append, take_all}
use Rattle.std.proofs.lemmas.List.Folds.{fold-map}
use Rattle.std.proofs.lemmas.List.Sums.{sum_by-cons}
use Rattle.std.proofs.lemmas.List.Elements.{All-from_recursion}
use Rattle.std.specs.List.{AllByRecursion as Each}
use Rattle.pk_base.specs.declared.span.Span.{Span}
use Rattle.pk_base.specs.declared.heads.After.{After}
use Rattle.pk_base.specs.declared.heads.After.TheVariants as afters
use Rattle.pk_base.specs.declared.heads.Mode.{Mode}
use Rattle.pk_base.specs.declared.heads.Mode.TheVariants.{Plain}
use Rattle.pk_base.specs.declared.heads.Next.{Next}
use Rattle.pk_base.specs.declared.heads.Next.TheVariants as nexts
use Rattle.pk_base.specs.declared.heads.PacketHead.{PacketHead}
use Rattle.pk_fields.specs.Fields.{row_of}
use Rattle.pk_fields.specs.Ids.{ETH, VLAN, IP, IPV6, TCP, UDP}
use Rattle.pk_fields.specs.declared.rules.PortRule.{PortRule}
use Rattle.pk_source.proofs.GrowthLaws.{header_adds}
use Rattle.pk_source.specs.Outlines.{AreNumbered, header_layer, outlined, sizes_of}
use Rattle.pk_source.specs.declared.header.Header.{Header}
use Rattle.pk_source.specs.declared.header.Note.{Note}
use Rattle.pk_tree.specs.Buffers.{IsInside, buffer_of, bytes_of}
use Rattle.pk_tree.specs.Layouts.{layer_read, reach}
use Rattle.pk_tree.specs.Tables.{steps_of}
use Rattle.pk_tree.specs.Trees.{TreeShown, layers_of}
use Rattle.pk_tree.specs.declared.layer.Layer.{Layer}
use Rattle.pk_tree.specs.declared.layout.Reach.TheVariants.{All}
use Rattle.pk_tree.specs.declared.layout.Step.{Step}
use Rattle.pk_tree.proofs.Spans.{length-bytes_of}
use Rattle.dis_link.specs.EtherTypes.{ended, is_length}
use Rattle.dis_link.specs.Ethernet.{eth_after, eth_layout, eth_type}
use Rattle.dis_link.specs.Vlan.{vlan_after, vlan_layout, vlan_span, vlan_type}
use Rattle.dis_ip.specs.Ip4.{ip4_after, ip4_layout, ip4_packet, ip4_span}
use Rattle.dis_ip.specs.Ip6.{ip6_after, ip6_layout, ip6_packet, ip6_span}
use Rattle.dis_ports.specs.Tcp.{tcp_after, tcp_head, tcp_layout, tcp_rows}
use Rattle.dis_ports.specs.Udp.{udp_after, udp_layout, udp_ports, udp_span}
use Rattle.dis_ports.proofs.TcpLemmas.{rows_alone}
use Rattle.capture_read.specs.declared.frame.Frame.{Frame}
use Rattle.app_layers.specs.FrameLayer.{frame_span, is_cut}
use Rattle.app_layers.specs.Heads.{head_after, head_read, is_rest}
use Rattle.dissect.specs.declared.todo.Head.{Head}
use Rattle.dissect.specs.declared.ways.Carried.TheVariants as carries
use Rattle.dissect.specs.declared.ways.Last.{Last}
use Rattle.dissect.specs.declared.ways.Spot.{Spot}
use Rattle.dissect.specs.Events.{Event}
use Rattle.dissect.specs.Heads.{HeadsShown}
use Rattle.dissect.specs.Plain.{own}
use Rattle.dissect.specs.Walks.{Walk, all_met, chain, datagram_met, followed, go_on, link_met, mode_after, no_packet, segment_met}
use Rattle.dissect.specs.Tables.{IsTabled}
use Rattle.dissect.specs.declared.tables.Tables.{Tables}
use Rattle.dissect.specs.Ways.{AreOfFrame, AreRead, AsksNoOptions, IsAt, IsBegun, IsCarried, IsHeaderOf, IsLast, IsReadBy, LeadsTo, Reaches, head_of, headers_of, packet_at, shown}
use Rattle.dissect.proofs.Chains.{chain-stop}
use Rattle.dissect.proofs.PlainWay.{ethernet_after, ethernet_read, first_met, next_met, segment_last}

-- as many layers as headers are of a protocol
pub same_count : (buffers : List (List ℕ)) (wanted : List ℕ) (notes : List Note) (proto : ℕ) (headers : List Header) → layers_of proto (map (header_layer buffers wanted notes) headers) ≡ headers_of proto headers
same_count buffers wanted notes proto headers =
    fold-map (λ (n : ℕ) (layer : Layer). n + cond (layer.proto == proto) 1 0) (header_layer buffers wanted notes) 0 headers

-- one more
numbered_push : (before layers : List Layer) (layer : Layer) → AreNumbered before layers → layer.nth ≡ layers_of layer.proto (before ++ layers) + 1 → AreNumbered before (layers ++ layer ∷ [])
numbered_push before [] layer are nth = (nth ∙ ap (λ (ls : List Layer). layers_of layer.proto ls + 1) (append-nil before), tt)
numbered_push before (l ∷ ls) layer are nth =
    (are.0, numbered_push (before ++ l ∷ []) ls layer are.1 (nth ∙ ap (λ (all : List Layer). layers_of layer.proto all + 1) (sym (append_assoc before (l ∷ []) ls))))

each_push : {A : Type 0} (P : A → Type 0) (xs : List A) (x : A) → Each P xs → P x → Each P (xs ++ x ∷ [])
each_push P [] x each one = (one, tt)
each_push P (y ∷ ys) x each one = (each.0, each_push P ys x each.1 one)

pub all_tabled : (tables : Tables) (headers new : List Header) (h : Header) → Each (IsTabled tables) headers → IsTabled tables h → new ≡ headers ++ h ∷ [] → Each (IsTabled tables) new
all_tabled tables headers new h each one is = subst (Each (IsTabled tables)) (sym is) (each_push (IsTabled tables) headers h each one)

lower_more : (most more : ℕ) (headers : List Header) → most ≤ more → Each (λ (h : Header). h.proto ≤ most) headers → Each (λ (h : Header). h.proto ≤ more) headers
lower_more most more [] up each = tt
lower_more most more (h ∷ headers) up each = (omega (arith, up, each.0), lower_more most more headers up each.1)

-- protocols are numbered upwards on the way, so that a higher one has no header yet
pub none_higher : (most proto : ℕ) (headers : List Header) → most < proto → Each (λ (h : Header). h.proto ≤ most) headers → headers_of proto headers ≡ 0
none_higher most proto [] less each = refl
none_higher most proto (h ∷ headers) less each =
    let lower : h.proto ≤ most = each.0 in
    let other : (h.proto == proto) ≡ false = grind (arith, nat_tests, lower, less) in
    let more : headers_of proto (h ∷ headers) ≡ cond false 1 0 + headers_of proto headers =
    sum_by-cons (λ (y : Header). cond (y.proto == proto) 1 0) h headers ∙ ap (λ (b : Truth). cond b 1 0 + headers_of proto headers) other in
    omega (arith, more, none_higher most proto headers less each.1)

pub others_higher : (most proto : ℕ) (headers : List Header) → most < proto → Each (λ (h : Header). h.proto ≤ most) headers → Each (λ (h : Header). (proto == h.proto) ≡ false) headers
others_higher most proto [] less each = tt
others_higher most proto (h ∷ headers) less each =
    let lower : h.proto ≤ most = each.0 in
    (grind (arith, nat_tests, lower, less), others_higher most proto headers less each.1)

higher_more : (headers : List Header) (h : Header) → Each (λ (x : Header). 0 < x.proto) (drop 1 headers) → 0 < h.proto → Each (λ (x : Header). 0 < x.proto) (drop 1 (headers ++ h ∷ []))
higher_more [] h each one = tt
higher_more (x ∷ headers) h each one = each_push (λ (y : Header). 0 < y.proto) headers h each one

pub read_more : (frame : Frame) (most : ℕ) (headers : List Header) (h : Header) → AreRead frame most headers → IsReadBy (frame.bytes ∷ []) h → h.nth ≡ headers_of h.proto headers + 1 → most ≤ h.proto → 0 < h.proto → AreRead frame h.proto (headers ++ h ∷ [])
unfolding outlined
read_more frame most headers h are whole nth up higher = record {
  whole = each_push (IsReadBy (frame.bytes ∷ [])) headers h are.whole whole;
  numbered = λ wanted notes.
      let layer : Header → Layer = header_layer (frame.bytes ∷ []) wanted notes in
      subst (AreNumbered []) (sym (map-append layer headers (h ∷ [])))
      (numbered_push [] (map layer headers) (layer h) (are.numbered wanted notes) (nth ∙ ap (λ n. n + 1) (sym (same_count (frame.bytes ∷ []) wanted notes h.proto headers))));
  lower = each_push (λ (x : Header). x.proto ≤ h.proto) headers h (lower_more most h.proto headers up are.lower) (omega arith);
  higher = higher_more headers h are.higher higher;
}

-- a header that its table reads as the walk does, and what follows it
pub record Reads (frame : Frame) (head : Head) (h : Header) (after : After) : Type 0 where
  pub holds : List Truth
  pub steps : List Step
  pub table : steps_of holds (sizes_of h) h.slots.now ≡ steps
  pub ends : reach h.span.len steps ≡ All
  pub some : is_rest head.which ≡ false
  pub mode : head.mode ≡ mode_after head.which head.mode after
  pub layer : (t : TreeShown) → t.buffers ≡ frame.bytes ∷ [] → AsksNoOptions t.wanted
      → layer_read t h.proto h.span steps Plain (is_cut frame) ≡ head_read head.which head.mode (is_cut frame) head.span t
  pub behind : after ≡ head_after head.which head.packet head.mode (is_cut frame) head.span (own frame head.span)

grown : (frame : Frame) (headers : List Header) (notes : List Note) (head : Head) (h : Header) (after : After) → AreOfFrame notes → 0 < h.proto → h.nth ≡ headers_of h.proto headers + 1 → Reads frame head h after → (wanted : List ℕ) → AsksNoOptions wanted
    → outlined frame.bytes wanted (headers ++ h ∷ []) notes ≡ head_read head.which head.mode (is_cut frame) head.span (outlined frame.bytes wanted headers notes)
unfolding outlined
grown frame headers notes head h after told up nth reads wanted none =
    let t : TreeShown = outlined frame.bytes wanted headers notes in
    header_adds frame.bytes wanted headers notes h reads.holds Plain (is_cut frame) (told h.proto up)
    (nth ∙ ap (λ n. n + 1) (sym (same_count (frame.bytes ∷ []) wanted notes h.proto headers))) (ap (reach h.span.len) reads.table ∙ reads.ends)
    ∙ ap (λ (steps : List Step). layer_read t h.proto h.span steps Plain (is_cut frame)) reads.table
    ∙ reads.layer t refl none

-- the headers with one more
abbrev more_heads : HeadsShown → Header → HeadsShown
more_heads heads h = record { headers = heads.headers ++ h ∷ []; notes = heads.notes }

pub is_more : (heads new : HeadsShown) (h : Header) → new.headers ≡ heads.headers ++ h ∷ [] → new.notes ≡ heads.notes → more_heads heads h ≡ new
is_more heads new h headers notes =
    ap (λ (hs : List Header). record { headers = hs; notes = heads.notes }) (sym headers) ∙ ap (λ (ns : List Note). record { headers = new.headers; notes = ns }) (sym notes)

pub take_first : (headers : List Header) (h : Header) → 0 < length headers → take 1 (headers ++ h ∷ []) ≡ take 1 headers
take_first [] h some = absurd (omega arith)
take_first (x ∷ headers) h some = refl

pub take_one : (headers : List Header) → length headers ≡ 1 → take 1 headers ≡ headers
take_one headers one = take_all 1 headers (omega (arith, one))

-- a head by its parts
pub of_head : (frame : Frame) (head : Head) (which : Next) (h : Header) (after : After) → head.which ≡ which → head.mode ≡ Plain → Reads frame (record { which = which; span = head.span; packet = head.packet; mode = Plain }) h after → Reads frame head h after
of_head frame head which h after is plain reads =
    subst (λ (x : Head). Reads frame x h after)
    (ap (λ (w : Next). record { which = w; span = head.span; packet = head.packet; mode = Plain }) (sym is) ∙ ap (λ (m : Mode). record { which = head.which; span = head.span; packet = head.packet; mode = m }) (sym plain)) reads

pub at_more : (frame : Frame) (most more count counted : ℕ) (heads : HeadsShown) (head : Head) → most ≤ more → count ≤ counted → IsAt frame most count heads head → IsAt frame more counted heads head
at_more frame most more count counted heads head up counts at = record {
  read = record { whole = at.read.whole; numbered = at.read.numbered; lower = lower_more most more heads.headers up at.read.lower; higher = at.read.higher };
  told = at.told;
  some = at.some;
  few = omega (arith, counts, at.few);
  plain = at.plain;
  inside = at.inside;
  way = at.way;
}

-- one header more on the way
module _ (frame : Frame) (most count : ℕ) (heads : HeadsShown) (head : Head) (h : Header) (at : IsAt frame most count heads head) (counts : count < 32) (up : most ≤ h.proto) (other : 0 < h.proto) (nth : h.nth ≡ headers_of h.proto heads.headers + 1)
    (whole : IsReadBy (frame.bytes ∷ []) h) where
  abbrev met : After → List PortRule → List ℕ → List Event → Walk
  met after rules wanted es = followed rules frame head.packet head.mode (shown frame wanted (more_heads heads h)) es after

  way_read : (after : After) → Reads frame head h after → LeadsTo frame (more_heads heads h) (λ rules wanted es. chain rules (32 - length (heads.headers ++ h ∷ [])) frame (met after rules wanted es))
  unfolding outlined
  way_read after reads = λ wanted none rules es.
      ap (λ (start : List Header). all_met rules frame (link_met rules frame (outlined frame.bytes wanted start heads.notes) es)) (take_first heads.headers h at.some)
      ∙ at.way wanted none rules es
      ∙ next_met rules frame (32 - length heads.headers) (shown frame wanted heads) (shown frame wanted (more_heads heads h)) es head after (omega (arith, counts, at.few)) reads.some reads.mode
      (grown frame heads.headers heads.notes head h after at.told other nth reads wanted none) reads.behind
      ∙ ap (λ n. chain rules n frame (met after rules wanted es)) (omega (arith, length_push heads.headers h))

  read : AreRead frame h.proto (heads.headers ++ h ∷ [])
  read = read_more frame most heads.headers h at.read whole nth up other

  pub at_next : (which : Next) (span : Span) → Reads frame head h (afters.Next which span) → IsInside (frame.bytes ∷ []) span
      → IsAt frame h.proto (count + 1) (more_heads heads h) (record { which = which; span = span; packet = head.packet; mode = Plain })
  unfolding followed
  at_next which span reads inside = record {
    read = read;
    told = at.told;
    some = omega (arith, length_push heads.headers h);
    few = omega (arith, length_push heads.headers h, at.few);
    plain = refl;
    inside = inside;
    way = subst (λ (mode : Mode). LeadsTo frame (more_heads heads h) (λ rules wanted es. chain rules (32 - length (heads.headers ++ h ∷ [])) frame
        (go_on (shown frame wanted (more_heads heads h)) es (record { which = which; span = span; packet = head.packet; mode = mode })))) at.plain (way_read (afters.Next which span) reads);
  }

  pub at_packet : (which : Next) (span : Span) (packet : PacketHead) → Reads frame head h (afters.Packet which span packet) → IsInside (frame.bytes ∷ []) span
      → IsAt frame h.proto (count + 1) (more_heads heads h) (record { which = which; span = span; packet = packet; mode = Plain })
  unfolding followed
  at_packet which span packet reads inside = record {
    read = read;
    told = at.told;
    some = omega (arith, length_push heads.headers h);
    few = omega (arith, length_push heads.headers h, at.few);
    plain = refl;
    inside = inside;
    way = subst (λ (mode : Mode). LeadsTo frame (more_heads heads h) (λ rules wanted es. chain rules (32 - length (heads.headers ++ h ∷ [])) frame
        (go_on (shown frame wanted (more_heads heads h)) es (record { which = which; span = span; packet = packet; mode = mode })))) at.plain (way_read (afters.Packet which span packet) reads);
  }

  only : (proto : ℕ) → most < proto → h.proto ≡ proto → IsLast proto (heads.headers ++ h ∷ [])
  only proto higher own = record {
    front = heads.headers;
    last = h;
    parts = refl;
    own = own;
    others = subst (λ (p : ℕ). Each (λ (x : Header). (p == x.proto) ≡ false) heads.headers) (sym own) (others_higher most proto heads.headers higher at.read.lower);
  }

  all_read : h.proto ≤ TCP → AreRead frame TCP (heads.headers ++ h ∷ [])
  all_read below = record { whole = read.whole; numbered = read.numbered; lower = lower_more h.proto TCP (heads.headers ++ h ∷ []) below read.lower; higher = read.higher }

  pub carries_segment : (last : Last) → Reads frame head h (afters.Segment (tcp_head (own frame last.header)) last.payload) → head.packet ≡ packet_at frame last.packet → count ≤ 5 → most < TCP → h.proto ≡ TCP → IsInside (frame.bytes ∷ []) last.payload
      → IsCarried frame (more_heads heads h) (carries.Segment last)
  unfolding followed
  carries_segment last reads packet few higher own_proto inside = record {
    read = all_read (omega (arith, own_proto));
    told = at.told;
    few = omega (arith, length_push heads.headers h, at.few, few);
    last = only TCP higher own_proto;
    inside = inside;
    way = λ wanted none rules es.
        way_read (afters.Segment (tcp_head (own frame last.header)) last.payload) reads wanted none rules es
        ∙ segment_last rules (32 - length (heads.headers ++ h ∷ [])) frame head.packet (shown frame wanted (more_heads heads h)) es (tcp_head (own frame last.header)) last.payload
        ∙ ap (λ (p : PacketHead). segment_met rules frame p (shown frame wanted (more_heads heads h)) es (tcp_head (own frame last.header)) last.payload) packet;
  }

  pub carries_datagram : (last : Last) → Reads frame head h (afters.Datagram (udp_ports (own frame last.header)) last.payload) → head.packet ≡ packet_at frame last.packet → count ≤ 5 → most < UDP → h.proto ≡ UDP → IsInside (frame.bytes ∷ []) last.payload
      → IsCarried frame (more_heads heads h) (carries.Datagram last)
  unfolding followed datagram_met
  carries_datagram last reads packet few higher own_proto inside = record {
    read = all_read (omega (arith, own_proto));
    told = at.told;
    few = omega (arith, length_push heads.headers h, at.few, few);
    last = only UDP higher own_proto;
    inside = inside;
    way = λ wanted none rules es.
        way_read (afters.Datagram (udp_ports (own frame last.header)) last.payload) reads wanted none rules es ∙ chain-stop rules (32 - length (heads.headers ++ h ∷ [])) frame _ _
        ∙ ap (λ (p : PacketHead). datagram_met rules frame p (shown frame wanted (more_heads heads h)) es (udp_ports (own frame last.header)) last.payload) packet;
  }

-- a header whose bytes its protocol's words read
words_read : (frame : Frame) (proto : ℕ) (span_of : Span → List ℕ → Span) (layout : List ℕ → List Step) (outer : Span) (h : Header) → h.proto ≡ proto → h.span ≡ span_of outer (own frame outer)
    → (t : TreeShown) → t.buffers ≡ frame.bytes ∷ []
    → layer_read t h.proto h.span (layout (own frame outer)) Plain (is_cut frame) ≡ layer_read t proto (span_of outer (bytes_of t.buffers outer)) (layout (bytes_of t.buffers outer)) Plain (is_cut frame)
words_read frame proto span_of layout outer h own_proto own_span t same =
    ap (λ (p : ℕ). layer_read t p h.span (layout (own frame outer)) Plain (is_cut frame)) own_proto
    ∙ ap (λ (s : Span). layer_read t proto s (layout (own frame outer)) Plain (is_cut frame)) own_span
    ∙ ap (λ (b : List ℕ). layer_read t proto (span_of outer b) (layout b) Plain (is_cut frame)) (sym (ap (λ (bs : List (List ℕ)). bytes_of bs outer) same))

abbrev pub head_at : Next → PacketHead → Span → Head
head_at which packet span = record { which = which; span = span; packet = packet; mode = Plain }

pub vlan_reads : (frame : Frame) (packet : PacketHead) (outer : Span) (h : Header) (which : Next) (span : Span) → IsHeaderOf VLAN outer [] (vlan_layout (own frame outer)) h → is_length (vlan_type (own frame outer)) ≡ false
    → vlan_after outer (own frame outer) ≡ afters.Next which span → Reads frame (head_at nexts.Vlan packet outer) h (afters.Next which span)
unfolding head_read head_after ended
vlan_reads frame packet outer h which span is typed after = record {
  holds = [];
  steps = vlan_layout (own frame outer);
  table = is.table;
  ends = is.ends;
  some = refl;
  mode = refl;
  layer = λ t same none. words_read frame VLAN vlan_span vlan_layout outer h is.own (is.place ∙ sym (rw typed refl)) t same;
  behind = sym after;
}

pub ip4_reads : (frame : Frame) (packet : PacketHead) (outer : Span) (h : Header) (which : Next) (inner : Span) → IsHeaderOf IP (ip4_span outer (own frame outer)) (true ∷ true ∷ true ∷ []) (ip4_layout (own frame outer)) h
    → ip4_after Plain (is_cut frame) outer (own frame outer) ≡ afters.Packet which inner (ip4_packet (is_cut frame) outer (own frame outer))
    → Reads frame (head_at nexts.Ip4 packet outer) h (afters.Packet which inner (ip4_packet (is_cut frame) outer (own frame outer)))
unfolding head_read head_after
ip4_reads frame packet outer h which inner is after = record {
  holds = true ∷ true ∷ true ∷ [];
  steps = ip4_layout (own frame outer);
  table = is.table;
  ends = is.ends;
  some = refl;
  mode = refl;
  layer = λ t same none. words_read frame IP ip4_span ip4_layout outer h is.own is.place t same;
  behind = sym after;
}

pub ip6_reads : (frame : Frame) (packet : PacketHead) (outer : Span) (h : Header) (which : Next) (inner : Span) → IsHeaderOf IPV6 (ip6_span outer (own frame outer)) (true ∷ []) (ip6_layout (own frame outer)) h
    → ip6_after (is_cut frame) outer (own frame outer) ≡ afters.Packet which inner (ip6_packet (is_cut frame) outer (own frame outer))
    → Reads frame (head_at nexts.Ip6 packet outer) h (afters.Packet which inner (ip6_packet (is_cut frame) outer (own frame outer)))
unfolding head_read head_after
ip6_reads frame packet outer h which inner is after = record {
  holds = true ∷ [];
  steps = ip6_layout (own frame outer);
  table = is.table;
  ends = is.ends;
  some = refl;
  mode = refl;
  layer = λ t same none. words_read frame IPV6 ip6_span ip6_layout outer h is.own is.place t same;
  behind = sym after;
}

pub udp_reads : (frame : Frame) (packet : PacketHead) (outer : Span) (h : Header) (span : Span) → IsHeaderOf UDP (udp_span outer (own frame outer)) (true ∷ []) (udp_layout (own frame outer)) h
    → udp_after Plain outer (own frame outer) ≡ afters.Datagram (udp_ports (own frame outer)) span
    → Reads frame (head_at nexts.Udp packet outer) h (afters.Datagram (udp_ports (own frame outer)) span)
unfolding head_read head_after
udp_reads frame packet outer h span is after = record {
  holds = true ∷ [];
  steps = udp_layout (own frame outer);
  table = is.table;
  ends = is.ends;
  some = refl;
  mode = refl;
  layer = λ t same none. words_read frame UDP udp_span udp_layout outer h is.own is.place t same;
  behind = sym after;
}

-- a header of TCP, of whose options no field is wanted
pub tcp_reads : (frame : Frame) (packet : PacketHead) (outer : Span) (h : Header) (span : Span) → IsInside (frame.bytes ∷ []) outer → IsHeaderOf TCP outer (true ∷ []) (tcp_rows (own frame outer)) h
    → tcp_after Plain outer (own frame outer) ≡ afters.Segment (tcp_head (own frame outer)) span
    → Reads frame (head_at nexts.Tcp packet outer) h (afters.Segment (tcp_head (own frame outer)) span)
unfolding head_read head_after
tcp_reads frame packet outer h span inside is after = record {
  holds = true ∷ [];
  steps = tcp_rows (own frame outer);
  table = is.table;
  ends = is.ends;
  some = refl;
  mode = refl;
  layer = λ t same none.
      rows_alone t (layer_read t h.proto h.span (tcp_rows (own frame outer)) Plain (is_cut frame)) outer (own frame outer) (is_cut frame)
      (omega (arith, length-bytes_of (frame.bytes ∷ []) outer inside)) none
      (ap (λ (p : ℕ). layer_read t p h.span (tcp_rows (own frame outer)) Plain (is_cut frame)) is.own
      ∙ ap (λ (s : Span). layer_read t TCP s (tcp_rows (own frame outer)) Plain (is_cut frame)) is.place)
      ∙ ap (λ (b : List ℕ). layer_read t TCP outer (tcp_layout b) Plain (is_cut frame)) (sym (ap (λ (bs : List (List ℕ)). bytes_of bs outer) same));
  behind = sym after;
}

-- the first header, behind the frame's own layer
pub ethernet_at : (frame : Frame) (heads : HeadsShown) (h : Header) (which : Next) (span : Span) → IsBegun frame heads.headers → AreOfFrame heads.notes → frame.link ≡ 1 → 0 < length frame.bytes → h.nth ≡ 1 → IsReadBy (frame.bytes ∷ []) h
    → IsHeaderOf ETH (frame_span frame) [] (eth_layout (own frame (frame_span frame))) h → is_length (eth_type (own frame (frame_span frame))) ≡ false
    → eth_after (frame_span frame) (own frame (frame_span frame)) ≡ afters.Next which span → IsInside (frame.bytes ∷ []) span
    → IsAt frame ETH 2 (more_heads heads h) (head_at which no_packet span)
unfolding outlined all_met
ethernet_at frame heads h which span begun told link some nth reads is typed after inside =
    let whole : Span = frame_span frame in
    let steps : List Step = eth_layout (own frame whole) in
    let none : headers_of ETH heads.headers ≡ 0 = none_higher 0 ETH heads.headers (omega arith) begun.read.lower in
    let number : h.nth ≡ headers_of h.proto heads.headers + 1 = rw (is.own, none) nth in
    let read : AreRead frame h.proto (heads.headers ++ h ∷ []) = read_more frame 0 heads.headers h begun.read reads number (omega arith) (omega (arith, is.own)) in
    record {
      read = subst (λ (p : ℕ). AreRead frame p (heads.headers ++ h ∷ [])) is.own read;
      told = told;
      some = omega (arith, length_push heads.headers h);
      few = omega (arith, length_push heads.headers h, begun.one);
      plain = refl;
      inside = inside;
      way = λ wanted asked rules es.
          let t : TreeShown = shown frame wanted heads in
          let t1 : TreeShown = shown frame wanted (more_heads heads h) in
          let more : t1 ≡ layer_read t ETH whole steps Plain (is_cut frame) =
          header_adds frame.bytes wanted heads.headers heads.notes h [] Plain (is_cut frame) (told h.proto (omega (arith, is.own)))
          (number ∙ ap (λ n. n + 1) (sym (same_count (frame.bytes ∷ []) wanted heads.notes h.proto heads.headers))) (ap (reach h.span.len) is.table ∙ is.ends)
          ∙ ap (λ (s : List Step). layer_read t h.proto h.span s Plain (is_cut frame)) is.table
          ∙ ap (λ (p : ℕ). layer_read t p h.span steps Plain (is_cut frame)) is.own
          ∙ ap (λ (s : Span). layer_read t ETH s steps Plain (is_cut frame)) is.place in
          ap (λ (start : List Header). all_met rules frame (link_met rules frame (outlined frame.bytes wanted start heads.notes) es)) (take_first heads.headers h (omega (arith, begun.one)) ∙ take_one heads.headers begun.one)
          ∙ ap (all_met rules frame) (first_met rules frame t t1 es which span some (ethernet_read frame t link typed ∙ sym more) (ethernet_after frame (own frame whole) link ∙ after))
          ∙ ap (λ n. chain rules (32 - n) frame (go_on t1 es (head_at which no_packet span))) (length-map (heads.headers ++ h ∷ []) (header_layer (frame.bytes ∷ []) wanted heads.notes));
    }

-- where nothing is told
pub no_notes : AreOfFrame []
no_notes proto up = All-from_recursion (λ (note : Note). ((row_of note.field).proto == proto) ≡ false) [] tt

pub reached_inside : (frame : Frame) (most count : ℕ) (headers : List Header) (spot : Spot) → Reaches frame most count headers spot → IsInside (frame.bytes ∷ []) spot.span
reached_inside frame most count headers spot reaches = (reaches.at [] no_notes).inside

pub ends_inside : (frame : Frame) (span : Span) → IsInside (frame.bytes ∷ []) span → length frame.bytes < 2 ^ 32 → span.start + span.len < 2 ^ 32
ends_inside frame span inside short =
    let first : span.buffer ≡ 0 = omega (arith, inside.0) in
    let fits : span.start + span.len ≤ length frame.bytes = subst (λ (n : ℕ). span.start + span.len ≤ length (buffer_of (frame.bytes ∷ []) n)) first inside.1 in
    omega (arith, fits, short)

pub first_kept : (frame : Frame) (most count : ℕ) (headers new : List Header) (spot : Spot) (h : Header) → Reaches frame most count headers spot → new ≡ headers ++ h ∷ [] → take 1 new ≡ take 1 headers
first_kept frame most count headers new spot h reaches is = ap (λ (hs : List Header). take 1 hs) is ∙ take_first headers h (reaches.at [] no_notes).some

pub untagged : (headers new : List Header) (h : Header) → Each (λ (x : Header). x.proto ≤ 0) headers → h.proto ≡ ETH → new ≡ headers ++ h ∷ [] → headers_of VLAN new ≡ 0
untagged headers new h each own is =
    ap (headers_of VLAN) is
    ∙ none_higher ETH VLAN (headers ++ h ∷ []) (omega arith) (each_push (λ (x : Header). x.proto ≤ ETH) headers h (lower_more 0 ETH headers (omega arith) each) (omega (arith, own)))

pub reaches_more : (frame : Frame) (most more count counted : ℕ) (headers : List Header) (spot : Spot) → most ≤ more → count ≤ counted → Reaches frame most count headers spot → Reaches frame more counted headers spot
reaches_more frame most more count counted headers spot up counts reaches = record {
  at = λ notes told. at_more frame most more count counted (record { headers = headers; notes = notes }) (head_of frame spot) up counts (reaches.at notes told);
  packet = reaches.packet;
}

-- ---- the headers as they are pushed, by the bytes that were looked at

pub ethernet_pushed : (frame : Frame) (heads new : HeadsShown) (bytes : List ℕ) (whole : Span) (h : Header) (which : Next) (span : Span) → IsBegun frame heads.headers → AreOfFrame heads.notes → frame.link ≡ 1 → whole ≡ frame_span frame → bytes ≡ own frame whole → 14 ≤ whole.len
    → h.nth ≡ 1 → ((buffers : List (List ℕ)) → IsInside buffers whole → IsReadBy buffers h) → ((b : List ℕ) → is_length (eth_type b) ≡ false → IsHeaderOf ETH whole [] (eth_layout b) h)
    → is_length (eth_type bytes) ≡ false → eth_after whole bytes ≡ afters.Next which span → IsInside (frame.bytes ∷ []) span
    → new.headers ≡ heads.headers ++ h ∷ [] → new.notes ≡ heads.notes → IsAt frame VLAN 2 new (head_at which no_packet span)
ethernet_pushed frame heads new bytes whole h which span begun told link is own_bytes long nth reads stands typed after inside headers notes =
    let all : Span = frame_span frame in
    let bytes_is : bytes ≡ own frame all = own_bytes ∙ ap (own frame) is in
    let within_frame : IsInside (frame.bytes ∷ []) all = (omega arith, omega arith) in
    subst (λ (hs : HeadsShown). IsAt frame VLAN 2 hs (head_at which no_packet span)) (is_more heads new h headers notes)
    (at_more frame ETH VLAN 2 2 (more_heads heads h) (head_at which no_packet span) (omega arith) (omega arith)
    (ethernet_at frame heads h which span begun told link (subst (λ (s : Span). 0 < s.len) is (omega (arith, long))) nth
    (reads (frame.bytes ∷ []) (subst (IsInside (frame.bytes ∷ [])) (sym is) within_frame))
    (subst (λ (s : Span). IsHeaderOf ETH s [] (eth_layout (own frame all)) h) is (stands (own frame all) (sym (ap (λ (b : List ℕ). is_length (eth_type b)) bytes_is) ∙ typed)))
    (sym (ap (λ (b : List ℕ). is_length (eth_type b)) bytes_is) ∙ typed)
    (ap (λ (s : Span). eth_after s (own frame all)) (sym is) ∙ ap (eth_after whole) (sym bytes_is) ∙ after) inside))

pub vlan_pushed : (frame : Frame) (count : ℕ) (heads new : HeadsShown) (head : Head) (bytes : List ℕ) (h : Header) (which : Next) (span : Span) → IsAt frame VLAN count heads head → count < 32 → head.which ≡ nexts.Vlan → bytes ≡ own frame head.span
    → h.nth ≡ headers_of VLAN heads.headers + 1 → ((buffers : List (List ℕ)) → IsInside buffers head.span → IsReadBy buffers h) → ((b : List ℕ) → is_length (vlan_type b) ≡ false → IsHeaderOf VLAN head.span [] (vlan_layout b) h)
    → is_length (vlan_type bytes) ≡ false → vlan_after head.span bytes ≡ afters.Next which span → IsInside (frame.bytes ∷ []) span
    → new.headers ≡ heads.headers ++ h ∷ [] → new.notes ≡ heads.notes → IsAt frame VLAN (count + 1) new (head_at which head.packet span)
vlan_pushed frame count heads new head bytes h which span at few is bytes_is nth reads stands typed after inside headers notes =
    let same : is_length (vlan_type (own frame head.span)) ≡ false = sym (ap (λ (b : List ℕ). is_length (vlan_type b)) bytes_is) ∙ typed in
    let of : IsHeaderOf VLAN head.span [] (vlan_layout (own frame head.span)) h = stands (own frame head.span) same in
    let read : Reads frame head h (afters.Next which span) =
    of_head frame head nexts.Vlan h (afters.Next which span) is at.plain (vlan_reads frame head.packet head.span h which span of same (ap (vlan_after head.span) (sym bytes_is) ∙ after)) in
    let number : h.nth ≡ headers_of h.proto heads.headers + 1 = nth ∙ ap (λ (p : ℕ). headers_of p heads.headers + 1) (sym of.own) in
    let next : IsAt frame h.proto (count + 1) (more_heads heads h) (head_at which head.packet span) =
    at_next frame VLAN count heads head h at few (omega (arith, of.own)) (omega (arith, of.own)) number (reads (frame.bytes ∷ []) at.inside) which span read inside in
    subst (λ (hs : HeadsShown). IsAt frame VLAN (count + 1) hs (head_at which head.packet span)) (is_more heads new h headers notes)
    (subst (λ (p : ℕ). IsAt frame p (count + 1) (more_heads heads h) (head_at which head.packet span)) of.own next)

pub ip4_pushed : (frame : Frame) (heads new : HeadsShown) (head : Head) (bytes : List ℕ) (h : Header) (which : Next) (layer inner : Span) (packet : PacketHead) → IsAt frame VLAN 4 heads head → head.which ≡ nexts.Ip4 → bytes ≡ own frame head.span
    → h.nth ≡ 1 → IsReadBy (frame.bytes ∷ []) h → IsHeaderOf IP layer (true ∷ true ∷ true ∷ []) (ip4_layout bytes) h → layer ≡ ip4_span head.span bytes
    → ip4_after Plain (is_cut frame) head.span bytes ≡ afters.Packet which inner (ip4_packet (is_cut frame) head.span bytes) → packet ≡ ip4_packet (is_cut frame) head.span bytes → IsInside (frame.bytes ∷ []) inner
    → new.headers ≡ heads.headers ++ h ∷ [] → new.notes ≡ heads.notes → IsAt frame IPV6 5 new (head_at which packet inner)
ip4_pushed frame heads new head bytes h which layer inner packet at is bytes_is nth whole of layer_is after packet_is inside headers notes =
    let all : List ℕ = own frame head.span in
    let read : Reads frame (head_at nexts.Ip4 head.packet head.span) h (afters.Packet which inner (ip4_packet (is_cut frame) head.span all)) =
    ip4_reads frame head.packet head.span h which inner
    (subst (λ (b : List ℕ). IsHeaderOf IP (ip4_span head.span b) (true ∷ true ∷ true ∷ []) (ip4_layout b) h) bytes_is (subst (λ (s : Span). IsHeaderOf IP s (true ∷ true ∷ true ∷ []) (ip4_layout bytes) h) layer_is of))
    (subst (λ (b : List ℕ). ip4_after Plain (is_cut frame) head.span b ≡ afters.Packet which inner (ip4_packet (is_cut frame) head.span b)) bytes_is after) in
    let own_packet : ip4_packet (is_cut frame) head.span all ≡ packet = ap (λ (b : List ℕ). ip4_packet (is_cut frame) head.span b) (sym bytes_is) ∙ sym packet_is in
    let none : headers_of h.proto heads.headers ≡ 0 = none_higher VLAN h.proto heads.headers (omega (arith, of.own)) at.read.lower in
    let next : IsAt frame h.proto 5 (more_heads heads h) (head_at which packet inner) =
    at_packet frame VLAN 4 heads head h at (omega arith) (omega (arith, of.own)) (omega (arith, of.own)) (rw none nth) whole which inner packet
    (subst (λ (p : PacketHead). Reads frame head h (afters.Packet which inner p)) own_packet (of_head frame head nexts.Ip4 h (afters.Packet which inner (ip4_packet (is_cut frame) head.span all)) is at.plain read)) inside in
    subst (λ (hs : HeadsShown). IsAt frame IPV6 5 hs (head_at which packet inner)) (is_more heads new h headers notes)
    (at_more frame h.proto IPV6 5 5 (more_heads heads h) (head_at which packet inner) (omega (arith, of.own)) (omega arith) next)

pub ip6_pushed : (frame : Frame) (heads new : HeadsShown) (head : Head) (bytes : List ℕ) (h : Header) (which : Next) (layer inner : Span) (packet : PacketHead) → IsAt frame VLAN 4 heads head → head.which ≡ nexts.Ip6 → bytes ≡ own frame head.span
    → h.nth ≡ 1 → IsReadBy (frame.bytes ∷ []) h → IsHeaderOf IPV6 layer (true ∷ []) (ip6_layout bytes) h → layer ≡ ip6_span head.span bytes
    → ip6_after (is_cut frame) head.span bytes ≡ afters.Packet which inner (ip6_packet (is_cut frame) head.span bytes) → packet ≡ ip6_packet (is_cut frame) head.span bytes → IsInside (frame.bytes ∷ []) inner
    → new.headers ≡ heads.headers ++ h ∷ [] → new.notes ≡ heads.notes → IsAt frame IPV6 5 new (head_at which packet inner)
ip6_pushed frame heads new head bytes h which layer inner packet at is bytes_is nth whole of layer_is after packet_is inside headers notes =
    let all : List ℕ = own frame head.span in
    let read : Reads frame (head_at nexts.Ip6 head.packet head.span) h (afters.Packet which inner (ip6_packet (is_cut frame) head.span all)) =
    ip6_reads frame head.packet head.span h which inner
    (subst (λ (b : List ℕ). IsHeaderOf IPV6 (ip6_span head.span b) (true ∷ []) (ip6_layout b) h) bytes_is (subst (λ (s : Span). IsHeaderOf IPV6 s (true ∷ []) (ip6_layout bytes) h) layer_is of))
    (subst (λ (b : List ℕ). ip6_after (is_cut frame) head.span b ≡ afters.Packet which inner (ip6_packet (is_cut frame) head.span b)) bytes_is after) in
    let own_packet : ip6_packet (is_cut frame) head.span all ≡ packet = ap (λ (b : List ℕ). ip6_packet (is_cut frame) head.span b) (sym bytes_is) ∙ sym packet_is in
    let none : headers_of h.proto heads.headers ≡ 0 = none_higher VLAN h.proto heads.headers (omega (arith, of.own)) at.read.lower in
    let next : IsAt frame h.proto 5 (more_heads heads h) (head_at which packet inner) =
    at_packet frame VLAN 4 heads head h at (omega arith) (omega (arith, of.own)) (omega (arith, of.own)) (rw none nth) whole which inner packet
    (subst (λ (p : PacketHead). Reads frame head h (afters.Packet which inner p)) own_packet (of_head frame head nexts.Ip6 h (afters.Packet which inner (ip6_packet (is_cut frame) head.span all)) is at.plain read)) inside in
    subst (λ (hs : HeadsShown). IsAt frame IPV6 5 hs (head_at which packet inner)) (is_more heads new h headers notes)
    (at_more frame h.proto IPV6 5 5 (more_heads heads h) (head_at which packet inner) (omega (arith, of.own)) (omega arith) next)

pub tcp_pushed : (frame : Frame) (heads new : HeadsShown) (spot : Spot) (bytes : List ℕ) (h : Header) (span : Span) → IsAt frame IPV6 5 heads (head_of frame spot) → spot.which ≡ nexts.Tcp → bytes ≡ own frame spot.span
    → h.nth ≡ 1 → IsReadBy (frame.bytes ∷ []) h → IsHeaderOf TCP spot.span (true ∷ []) (tcp_rows bytes) h
    → tcp_after Plain spot.span bytes ≡ afters.Segment (tcp_head bytes) span → IsInside (frame.bytes ∷ []) span
    → new.headers ≡ heads.headers ++ h ∷ [] → new.notes ≡ heads.notes → IsCarried frame new (carries.Segment (record { packet = spot.packet; header = spot.span; payload = span }))
tcp_pushed frame heads new spot bytes h span at is bytes_is nth whole of after inside headers notes =
    let head : Head = head_of frame spot in
    let last : Last = record { packet = spot.packet; header = spot.span; payload = span } in
    let all : List ℕ = own frame spot.span in
    let read : Reads frame (head_at nexts.Tcp head.packet head.span) h (afters.Segment (tcp_head all) span) =
    tcp_reads frame head.packet head.span h span at.inside (subst (λ (b : List ℕ). IsHeaderOf TCP head.span (true ∷ []) (tcp_rows b) h) bytes_is of)
    (subst (λ (b : List ℕ). tcp_after Plain head.span b ≡ afters.Segment (tcp_head b) span) bytes_is after) in
    let none : headers_of h.proto heads.headers ≡ 0 = none_higher IPV6 h.proto heads.headers (omega (arith, of.own)) at.read.lower in
    subst (λ (hs : HeadsShown). IsCarried frame hs (carries.Segment last)) (is_more heads new h headers notes)
    (carries_segment frame IPV6 5 heads head h at (omega arith) (omega (arith, of.own)) (omega (arith, of.own)) (rw none nth) whole last
    (of_head frame head nexts.Tcp h (afters.Segment (tcp_head all) span) is at.plain read) refl (omega arith) (omega arith) of.own inside)

pub udp_pushed : (frame : Frame) (heads new : HeadsShown) (spot : Spot) (bytes : List ℕ) (h : Header) (layer span : Span) → IsAt frame IPV6 5 heads (head_of frame spot) → spot.which ≡ nexts.Udp → bytes ≡ own frame spot.span
    → h.nth ≡ 1 → IsReadBy (frame.bytes ∷ []) h → IsHeaderOf UDP layer (true ∷ []) (udp_layout bytes) h → layer ≡ udp_span spot.span bytes
    → udp_after Plain spot.span bytes ≡ afters.Datagram (udp_ports bytes) span → IsInside (frame.bytes ∷ []) span
    → new.headers ≡ heads.headers ++ h ∷ [] → new.notes ≡ heads.notes → IsCarried frame new (carries.Datagram (record { packet = spot.packet; header = spot.span; payload = span }))
udp_pushed frame heads new spot bytes h layer span at is bytes_is nth whole of layer_is after inside headers notes =
    let head : Head = head_of frame spot in
    let last : Last = record { packet = spot.packet; header = spot.span; payload = span } in
    let all : List ℕ = own frame spot.span in
    let read : Reads frame (head_at nexts.Udp head.packet head.span) h (afters.Datagram (udp_ports all) span) =
    udp_reads frame head.packet head.span h span
    (subst (λ (b : List ℕ). IsHeaderOf UDP (udp_span head.span b) (true ∷ []) (udp_layout b) h) bytes_is (subst (λ (s : Span). IsHeaderOf UDP s (true ∷ []) (udp_layout bytes) h) layer_is of))
    (subst (λ (b : List ℕ). udp_after Plain head.span b ≡ afters.Datagram (udp_ports b) span) bytes_is after) in
    let none : headers_of h.proto heads.headers ≡ 0 = none_higher IPV6 h.proto heads.headers (omega (arith, of.own)) at.read.lower in
    subst (λ (hs : HeadsShown). IsCarried frame hs (carries.Datagram last)) (is_more heads new h headers notes)
    (carries_datagram frame IPV6 5 heads head h at (omega arith) (omega (arith, of.own)) (omega (arith, of.own)) (rw none nth) whole last
    (of_head frame head nexts.Udp h (afters.Datagram (udp_ports all) span) is at.plain read) refl (omega arith) (omega arith) of.own inside)
