-- What a UDP or TCP header carries, as items of the header's own layer, behind those that the header is read by.
use Rattle.std.specs.Prelude.{◌≡◌, ◌==◌, ℕ, ◌<◌, List, length, if◌then◌else◌, Option, None, Some}
use Rattle.pk_base.specs.declared.span.Span.{Span}
use Rattle.pk_fields.specs.Ids.{UDP, UDP_STREAM, UDP_PAYLOAD, TCP, TCP_STREAM, TCP_SEQ, TCP_ACK, TCP_LEN, TCP_PAYLOAD, TCP_LOST}
use Rattle.pk_base.specs.declared.heads.After.{After}
use Rattle.pk_base.specs.declared.heads.After.TheVariants as afters
use Rattle.pk_tree.specs.declared.layer.Layer.{Layer}
use Rattle.pk_base.specs.declared.value.Value.TheVariants.{Uint}
use Rattle.pk_tree.specs.Trees.{TreeShown, last_proto, with_item, read_of, made_of}
use Rattle.dis_ip.specs.Fragments.{part_proto}
use Rattle.tcp_streams.specs.declared.segment.Taken.{Taken}
use Rattle.tcp_streams.specs.Gaps.{lost_bytes}

-- the bytes; there is no item for none
abbrev pub with_payload : TreeShown → ℕ → Span → TreeShown
with_payload t field span = if span.len == 0 then t else with_item t (read_of t.buffers field span)

-- the number of a datagram's conversation, and the bytes
unfoldable pub datagram_told : TreeShown → ℕ → Span → TreeShown
datagram_told t stream span = with_payload (with_item t (made_of UDP_STREAM (Uint stream))) UDP_PAYLOAD span

abbrev pub with_number : TreeShown → ℕ → ℕ → TreeShown
with_number t field number = with_item t (made_of field (Uint number))

-- the acknowledgment number, where it counts and the other direction has begun
abbrev pub with_ack : TreeShown → Option ℕ → TreeShown
with_ack t None = t
with_ack t (Some ack) = with_number t TCP_ACK ack

-- a segment's stream, and its place in it, counted from the first bytes of both directions
unfoldable pub place_told : TreeShown → Taken → TreeShown
place_told t taken = with_ack (with_number (with_number t TCP_STREAM taken.stream) TCP_SEQ taken.seq) taken.ack

-- how many bytes the capture hasn't; there is no item for none
abbrev pub with_lost : TreeShown → ℕ → TreeShown
with_lost t lost = if lost == 0 then t else with_number t TCP_LOST lost

-- what a segment carries: how many bytes were captured of it, and the bytes
abbrev pub carried_told : TreeShown → Span → TreeShown
carried_told t span = with_payload (with_number t TCP_LEN span.len) TCP_PAYLOAD span

-- what a segment is to its stream: its place, what it carries, and the gaps that it passes
unfoldable pub segment_told : TreeShown → Taken → Span → TreeShown
segment_told t taken span = with_lost (carried_told (place_told t taken) span) (lost_bytes taken.lost)

abbrev pub LastIs : ℕ → List Layer → Type 0
LastIs proto layers = (0 < length layers) × (last_proto layers ≡ proto)

-- a fragment, and what a UDP or TCP header carries, come while the header's layer is the last
abbrev pub ComesBehind : After → List Layer → Type 0
ComesBehind (afters.Next next span) layers = Unit {0}
ComesBehind (afters.Packet next span packet) layers = Unit {0}
ComesBehind (afters.Fragment head span) layers = LastIs (part_proto head.six) layers
ComesBehind (afters.Datagram head span) layers = LastIs UDP layers
ComesBehind (afters.Segment head span) layers = LastIs TCP layers
ComesBehind afters.End layers = Unit {0}
