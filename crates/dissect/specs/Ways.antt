-- The way through a plain frame's headers, and the headers that stand for the layers they make.
use Rattle.std.specs.Prelude.{◌≡◌, ◌==◌, ℕ, ◌-◌, ◌<◌, ◌≤◌, Bool as Truth, false, true, if◌then◌else◌, List, [], ◌∷◌, ◌++◌, drop, length, take, count_by}
use Rattle.std.specs.List.{AllByRecursion as Each}
use Rattle.pk_base.specs.declared.span.Span.{Span}
use Rattle.pk_base.specs.declared.heads.Mode.TheVariants.{Plain}
use Rattle.pk_base.specs.declared.heads.PacketHead.{PacketHead}
use Rattle.pk_fields.specs.FieldSets.{is_in}
use Rattle.pk_fields.specs.Ids.{IP, TCP, UDP}
use Rattle.pk_fields.specs.declared.rules.PortRule.{PortRule}
use Rattle.pk_source.specs.Laws.{IsUntold}
use Rattle.pk_source.specs.Outlines.{AreNumbered, outlined, sizes_of}
use Rattle.pk_source.specs.declared.header.Header.{Header}
use Rattle.pk_source.specs.declared.header.Note.{Note}
use Rattle.pk_tree.specs.Buffers.{IsInside}
use Rattle.pk_tree.specs.Layouts.{StepsFit, reach}
use Rattle.pk_tree.specs.Tables.{steps_of}
use Rattle.pk_tree.specs.Trees.{TreeShown}
use Rattle.pk_tree.specs.Values.{IsProtocol}
use Rattle.pk_tree.specs.declared.layout.Reach.TheVariants.{All}
use Rattle.pk_tree.specs.declared.layout.Step.{Step}
use Rattle.dis_ip.specs.Ip4.{ip4_packet}
use Rattle.dis_ip.specs.Ip6.{ip6_packet}
use Rattle.dis_ports.specs.Tcp.{tcp_head}
use Rattle.dis_ports.specs.TcpOptions.{option_fields}
use Rattle.dis_ports.specs.Udp.{udp_ports}
use Rattle.capture_read.specs.declared.frame.Frame.{Frame}
use Rattle.app_layers.specs.FrameLayer.{is_cut, kept_frame}
use Rattle.app_layers.specs.declared.times.Times.{Times}
use Rattle.dissect.specs.Carried.{frame_notes}
use Rattle.dissect.specs.declared.todo.Head.{Head}
use Rattle.dissect.specs.declared.ways.Carried.{Carried}
use Rattle.dissect.specs.declared.ways.Carried.TheVariants as carries
use Rattle.dissect.specs.declared.ways.Last.{Last}
use Rattle.dissect.specs.declared.ways.PacketAt.{PacketAt}
use Rattle.dissect.specs.declared.ways.PacketAt.TheVariants.{Nowhere, Four, Six}
use Rattle.dissect.specs.declared.ways.Spot.{Spot}
use Rattle.dissect.specs.Events.{Event}
use Rattle.dissect.specs.Heads.{HeadsShown, are_quiet}
use Rattle.dissect.specs.Plain.{own}
use Rattle.dissect.specs.Walks.{Walk, all_met, chain, datagram_met, go_on, link_met, no_packet, segment_met}

-- no field of the options of TCP is wanted
abbrev pub AsksNoOptions : List ℕ → Type 0
AsksNoOptions wanted = Each (λ field. is_in wanted field ≡ false) option_fields

-- how many headers are of a protocol
abbrev pub headers_of : ℕ → List Header → ℕ
headers_of proto headers = count_by (λ (h : Header). h.proto == proto) headers

-- of all protocols but the frame's own nothing is told
abbrev pub AreOfFrame : List Note → Type 0
AreOfFrame notes = (proto : ℕ) → 0 < proto → IsUntold proto notes

-- what the header says of the packet that stands there
abbrev pub packet_at : Frame → PacketAt → PacketHead
packet_at frame Nowhere = no_packet
packet_at frame (Four span) = ip4_packet (is_cut frame) span (own frame span)
packet_at frame (Six span) = ip6_packet (is_cut frame) span (own frame span)

-- its header stands in the frame
abbrev pub IsPacketIn : Frame → PacketAt → Type 0
IsPacketIn frame Nowhere = Unit {0}
IsPacketIn frame (Four span) = IsInside (frame.bytes ∷ []) span
IsPacketIn frame (Six span) = IsInside (frame.bytes ∷ []) span × (40 ≤ length (own frame span))

abbrev pub head_of : Frame → Spot → Head
head_of frame spot = record { which = spot.which; span = spot.span; packet = packet_at frame spot.packet; mode = Plain }

-- where a header stands, and by which steps its table reads it
pub record IsHeaderOf (proto : ℕ) (span : Span) (holds : List Truth) (steps : List Step) (h : Header) : Type 0 where
  pub own : h.proto ≡ proto
  pub place : h.span ≡ span
  pub table : steps_of holds (sizes_of h) h.slots.now ≡ steps
  pub ends : reach h.span.len steps ≡ All

-- the conditions that a table names hold in a header that is read whole
abbrev pub held_of : ℕ → List Truth
held_of proto = if proto == IP then true ∷ true ∷ true ∷ [] else true ∷ []

-- a header whose table is read to its end, and names no other frame
pub record IsReadBy (buffers : List (List ℕ)) (h : Header) : Type 0 where
  pub proto : IsProtocol h.proto
  pub inside : IsInside buffers h.span
  pub fits : StepsFit h.proto (steps_of (held_of h.proto) (sizes_of h) h.slots.now)
  pub whole : reach h.span.len (steps_of (held_of h.proto) (sizes_of h) h.slots.now) ≡ All
  pub quiet : are_quiet h.slots.now ≡ true

-- the headers so far, of protocols up to a number, each read whole; the frame's own is the first alone
pub record AreRead (frame : Frame) (most : ℕ) (headers : List Header) : Type 0 where
  pub whole : Each (IsReadBy (frame.bytes ∷ [])) headers
  pub numbered : (wanted : List ℕ) (notes : List Note)
      → AreNumbered [] (outlined frame.bytes wanted headers notes).layers
  pub lower : Each (λ (h : Header). h.proto ≤ most) headers
  pub higher : Each (λ (h : Header). 0 < h.proto) (drop 1 headers)

-- what is met behind the first header
abbrev pub LeadsTo : Frame → HeadsShown → (List PortRule → List ℕ → List Event → Walk) → Type 0
LeadsTo frame heads met =
    (wanted : List ℕ) → AsksNoOptions wanted → (rules : List PortRule) (es : List Event)
    → all_met rules frame
    (link_met rules frame (outlined frame.bytes wanted (take 1 heads.headers) heads.notes) es)
    ≡ met rules wanted es

abbrev pub shown : Frame → List ℕ → HeadsShown → TreeShown
shown frame wanted heads = outlined frame.bytes wanted heads.headers heads.notes

-- behind the headers so far, at most so many, comes this one
pub record IsAt (frame : Frame) (most count : ℕ) (heads : HeadsShown) (head : Head) : Type 0 where
  pub read : AreRead frame most heads.headers
  pub told : AreOfFrame heads.notes
  pub some : 0 < length heads.headers
  pub few : length heads.headers ≤ count
  pub plain : head.mode ≡ Plain
  pub inside : IsInside (frame.bytes ∷ []) head.span
  pub way : LeadsTo frame heads (λ rules wanted es.
      chain rules (32 - length heads.headers) frame (go_on (shown frame wanted heads) es head))

-- the headers begin with the frame's own
pub record IsBegun (frame : Frame) (headers : List Header) : Type 0 where
  pub read : AreRead frame 0 headers
  pub one : length headers ≡ 1

-- what is met where a header carries this
abbrev pub carried_met : List PortRule → Frame → TreeShown → List Event → Carried → Walk
carried_met rules frame t es (carries.Segment last) =
    segment_met rules frame (packet_at frame last.packet) t es (tcp_head (own frame last.header)) last.payload
carried_met rules frame t es (carries.Datagram last) =
    datagram_met rules frame (packet_at frame last.packet) t es (udp_ports (own frame last.header)) last.payload

abbrev pub carrier_of : Carried → ℕ
carrier_of (carries.Segment last) = TCP
carrier_of (carries.Datagram last) = UDP

abbrev pub last_of : Carried → Last
last_of (carries.Segment last) = last
last_of (carries.Datagram last) = last

abbrev pub span_of : Carried → Span
span_of carried = (last_of carried).payload

-- both headers that are looked at again stand in the frame
pub record IsLastIn (frame : Frame) (last : Last) : Type 0 where
  pub packet : IsPacketIn frame last.packet
  pub header : IsInside (frame.bytes ∷ []) last.header

-- the last header is the only one of its protocol
pub record IsLast (proto : ℕ) (headers : List Header) : Type 0 where
  pub front : List Header
  pub last : Header
  pub parts : headers ≡ front ++ last ∷ []
  pub own : last.proto ≡ proto
  pub others : Each (λ (h : Header). (last.proto == h.proto) ≡ false) front

-- the headers end with one that carries this
pub record IsCarried (frame : Frame) (heads : HeadsShown) (carried : Carried) : Type 0 where
  pub read : AreRead frame TCP heads.headers
  pub told : AreOfFrame heads.notes
  pub few : length heads.headers ≤ 6
  pub last : IsLast (carrier_of carried) heads.headers
  pub inside : IsInside (frame.bytes ∷ []) (span_of carried)
  pub way : LeadsTo frame heads (λ rules wanted es.
      carried_met rules frame (shown frame wanted heads) es carried)

-- whatever is told of the frame itself, behind the headers so far comes this one
pub record Reaches (frame : Frame) (most count : ℕ) (headers : List Header) (spot : Spot) : Type 0 where
  pub at : (notes : List Note) → AreOfFrame notes
      → IsAt frame most count (record { headers = headers; notes = notes }) (head_of frame spot)
  pub packet : IsPacketIn frame spot.packet

pub record Carries (frame : Frame) (headers : List Header) (carried : Carried) : Type 0 where
  pub is : (notes : List Note) → AreOfFrame notes
      → IsCarried frame (record { headers = headers; notes = notes }) carried
  pub last : IsLastIn frame (last_of carried)

-- the headers begin with that of the frame itself, which with its notes stands for the tree that the walk begins with
abbrev pub Opens : Frame → List Header → Type 0
Opens frame headers =
    (wanted : List ℕ) (before : Times)
    → outlined frame.bytes wanted (take 1 headers) (frame_notes before frame) ≡ kept_frame wanted before frame
