-- Plain frames: Ethernet, an IPv4 packet in one piece, and TCP, each with its whole header.
use Rattle.std.specs.Prelude.{◌≡◌, ℕ, ◌<◌, ◌≤◌, Bool, false, true, List, [], ◌∷◌, length}
use Rattle.pk_base.specs.declared.span.Span.{Span}
use Rattle.pk_base.specs.declared.heads.After.TheVariants as afters
use Rattle.pk_base.specs.declared.heads.Mode.TheVariants.{Plain}
use Rattle.pk_base.specs.declared.heads.Next.TheVariants as nexts
use Rattle.pk_tree.specs.Buffers.{IsInside, bytes_of}
use Rattle.pk_tree.specs.Layouts.{reach}
use Rattle.pk_tree.specs.declared.layout.Reach.TheVariants.{All}
use Rattle.dis_link.specs.EtherTypes.{is_length}
use Rattle.dis_link.specs.Ethernet.{eth_after, eth_type}
use Rattle.dis_ip.specs.declared.ip4.WholeIp4.{WholeIp4}
use Rattle.dis_ip.specs.Ip4.{ip4_after, ip4_conditions, ip4_header, ip4_layout, ip4_packet, ip4_span}
use Rattle.dis_ports.specs.declared.tcp.WholeTcp.{WholeTcp}
use Rattle.dis_ports.specs.Tcp.{header_len, tcp_after, tcp_head}
use Rattle.capture_read.specs.declared.frame.Frame.{Frame}
use Rattle.app_layers.specs.FrameLayer.{frame_span}
use Rattle.dissect.specs.declared.plain.PlainFrame.{PlainFrame}

-- bytes of the frame
abbrev pub own : Frame → Span → List ℕ
own frame span = bytes_of (frame.bytes ∷ []) span

-- a header of Ethernet that names a type, and what is behind it
pub record IsEthernet (frame : Frame) (packet : Span) : Type 0 where
  pub link : frame.link ≡ 1
  pub long : 14 ≤ length frame.bytes
  pub typed : is_length (eth_type (own frame (frame_span frame))) ≡ false
  pub after : eth_after (frame_span frame) (own frame (frame_span frame)) ≡ afters.Next nexts.Ip4 packet
  pub inside : IsInside (frame.bytes ∷ []) packet

-- the header of a packet in one piece, which carries TCP
pub record IsIp4 (frame : Frame) (packet : Span) (ip : WholeIp4) : Type 0 where
  pub layer : ip.layer ≡ ip4_span packet (own frame packet)
  pub header : ip.header ≡ ip4_header (own frame packet)
  pub least : 20 ≤ ip.header
  pub most : ip.header < ip.layer.len
  pub holds : ip4_conditions (own frame packet) ≡ true ∷ true ∷ true ∷ []
  pub whole : reach ip.layer.len (ip4_layout (own frame packet)) ≡ All
  pub after : (cut : Bool) → ip4_after Plain cut packet (own frame packet) ≡ afters.Packet nexts.Tcp ip.inner (ip4_packet cut packet (own frame packet))
  pub inside : IsInside (frame.bytes ∷ []) ip.layer × IsInside (frame.bytes ∷ []) ip.inner

-- a header of TCP, with its options
pub record IsTcp (frame : Frame) (inner : Span) (tcp : WholeTcp) : Type 0 where
  pub header : tcp.header ≡ header_len (own frame inner)
  pub least : 20 ≤ tcp.header
  pub most : tcp.header ≤ 60
  pub whole : tcp.header ≤ inner.len
  pub after : tcp_after Plain inner (own frame inner) ≡ afters.Segment (tcp_head (own frame inner)) tcp.payload
  pub inside : IsInside (frame.bytes ∷ []) tcp.payload

pub record IsPlain (frame : Frame) (plain : PlainFrame) : Type 0 where
  pub ethernet : IsEthernet frame plain.packet
  pub ip : IsIp4 frame plain.packet plain.ip
  pub tcp : IsTcp frame plain.ip.inner plain.tcp
