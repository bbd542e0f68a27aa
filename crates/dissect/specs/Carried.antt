-- What is told of a plain frame: its headers, as the tables read them, and beside them what its last header carries.
use Rattle.std.specs.Prelude.{◌==◌, ◌&&◌, ℕ, ℤ, Bool, true, false, not, List, [], ◌∷◌, ◌++◌, length, if◌then◌else◌, Option, Some, None}
use Rattle.pk_base.specs.declared.span.Span.{Span}
use Rattle.pk_fields.specs.Ids.{DATA, DATA_LEN, FRAME, FRAME_CAP_LEN, FRAME_LEN, FRAME_NUMBER, FRAME_TIME_DELTA, FRAME_TIME_EPOCH, FRAME_TIME_RELATIVE, TCP, TCP_ACK, TCP_LEN, TCP_LOST, TCP_PAYLOAD, TCP_SEQ, TCP_STREAM, UDP, UDP_PAYLOAD, UDP_STREAM}
use Rattle.pk_source.specs.declared.header.Header.{Header}
use Rattle.pk_source.specs.declared.header.Note.{Note}
use Rattle.pk_source.specs.declared.header.Told.TheVariants.{Moment, Number, Read}
use Rattle.pk_tree.specs.Trees.{TreeShown}
use Rattle.tcp_streams.specs.declared.segment.Taken.{Taken}
use Rattle.tcp_streams.specs.Gaps.{lost_bytes}
use Rattle.app_layers.specs.declared.streamed.StreamApp.{StreamApp}
use Rattle.capture_read.specs.declared.frame.Frame.{Frame}
use Rattle.app_layers.specs.DataLayer.{data_over}
use Rattle.app_layers.specs.FrameLayer.{frame_span}
use Rattle.app_layers.specs.Payloads.{carried_told, datagram_told, with_ack, with_lost, with_number}
use Rattle.app_layers.specs.Times.{since}
use Rattle.app_layers.specs.declared.times.Times.{Times}
use Rattle.dissect.specs.declared.carried.Carried.{Carried}
use Rattle.dissect.specs.declared.carried.Carrier.{Carrier}
use Rattle.dissect.specs.declared.carried.Carrier.TheVariants as carriers
use Rattle.dissect.specs.declared.carried.Place.{Place}
use Rattle.dissect.specs.declared.tables.Tables.{Tables}

-- ---- the tree that its way makes

-- what is told of a segment: its place, if that is, and what it carries
abbrev pub segment_by : TreeShown → Option Place → Span → TreeShown
segment_by t None span = carried_told t span
segment_by t (Some place) span =
    with_lost (carried_told (with_ack (with_number (with_number t TCP_STREAM place.stream) TCP_SEQ place.seq) place.ack) span) place.lost

-- the place of a segment that was taken
abbrev pub place_of : Taken → Place
place_of taken = record { stream = taken.stream; seq = taken.seq; ack = taken.ack; lost = lost_bytes taken.lost }

-- and of a datagram: the number of its conversation, and what it carries
abbrev pub told_by : TreeShown → Carrier → Span → TreeShown
told_by t (carriers.Segment place) span = segment_by t place span
told_by t (carriers.Datagram stream) span = datagram_told t stream span

abbrev pub carrier_proto : Carrier → ℕ
carrier_proto (carriers.Segment place) = TCP
carrier_proto (carriers.Datagram stream) = UDP

-- and its bytes as data, where they are that
abbrev pub shown_by : Bool → TreeShown → Span → TreeShown
shown_by free t span = if free then data_over t span else t

abbrev pub carried_by : Carried → TreeShown → TreeShown
carried_by c t = shown_by c.free (told_by t c.carrier c.payload) c.payload

-- the bytes of a segment are data where its stream has no application
abbrev pub is_free : Option StreamApp → Bool
is_free None = true
is_free (Some app) = false

-- ---- the headers of the frame itself, and of the data

abbrev pub frame_header : Tables → Frame → Header
frame_header tables frame = record { proto = FRAME; nth = 1; span = frame_span frame; slots = tables.frame; size = 0 }

abbrev pub data_header : Tables → Span → Header
data_header tables span = record { proto = DATA; nth = 1; span = span; slots = tables.payload; size = span.len }

abbrev pub has_data : Bool → Span → Bool
has_data free span = free && not (span.len == 0)

abbrev pub data_headers : Tables → Bool → Span → List Header
data_headers tables free span = if has_data free span then data_header tables span ∷ [] else []

-- ---- what is told beside

abbrev pub number_note : ℕ → ℕ → Note
number_note field number = record { field = field; told = Number number }

abbrev pub moment_note : ℕ → ℤ → Note
moment_note field time = record { field = field; told = Moment time }

abbrev pub read_note : ℕ → Span → Note
read_note field span = record { field = field; told = Read span }

abbrev pub time_notes : Times → Option ℤ → List Note
time_notes before None = []
time_notes before (Some time) =
    moment_note FRAME_TIME_EPOCH time ∷
    moment_note FRAME_TIME_RELATIVE (since before.first time) ∷
    moment_note FRAME_TIME_DELTA (since before.latest time) ∷
    []

abbrev pub frame_notes_at : Times → Frame → Option ℤ → List Note
frame_notes_at before frame time =
    number_note FRAME_NUMBER frame.number ∷
    time_notes before time ++
    number_note FRAME_LEN frame.original ∷
    number_note FRAME_CAP_LEN (length frame.bytes) ∷
    []

unfoldable pub frame_notes : Times → Frame → List Note
frame_notes before frame = frame_notes_at before frame frame.time

abbrev pub ack_notes : Option ℕ → List Note
ack_notes None = []
ack_notes (Some ack) = number_note TCP_ACK ack ∷ []

unfoldable pub place_notes : Option Place → List Note
place_notes None = []
place_notes (Some place) = number_note TCP_STREAM place.stream ∷ number_note TCP_SEQ place.seq ∷ ack_notes place.ack

unfoldable pub bytes_notes : Span → List Note
bytes_notes span = number_note TCP_LEN span.len ∷ (if span.len == 0 then [] else read_note TCP_PAYLOAD span ∷ [])

unfoldable pub lost_notes : Option Place → List Note
lost_notes None = []
lost_notes (Some place) = if place.lost == 0 then [] else number_note TCP_LOST place.lost ∷ []

abbrev pub segment_notes : Option Place → Span → List Note
segment_notes place span = place_notes place ++ (bytes_notes span ++ lost_notes place)

unfoldable pub conversation_notes : ℕ → Span → List Note
conversation_notes stream span = number_note UDP_STREAM stream ∷ (if span.len == 0 then [] else read_note UDP_PAYLOAD span ∷ [])

abbrev pub carrier_notes : Carrier → Span → List Note
carrier_notes (carriers.Segment place) span = segment_notes place span
carrier_notes (carriers.Datagram stream) span = conversation_notes stream span

unfoldable pub data_notes : Bool → Span → List Note
data_notes free span = if has_data free span then number_note DATA_LEN span.len ∷ [] else []

unfoldable pub notes_of : Times → Frame → Carried → List Note
notes_of before frame c = frame_notes before frame ++ (carrier_notes c.carrier c.payload ++ data_notes c.free c.payload)
