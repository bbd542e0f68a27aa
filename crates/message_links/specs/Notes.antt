-- What later links ask of the messages that frames show. Lists have the newest first.
use Rattle.std.specs.Prelude.{◌==◌, ℕ, ◌+◌, ◌*◌, true, false, nat_le, if◌then◌else◌, List, [], ◌∷◌, drop, length, map, Option, Some, None}
use Rattle.stream_messages.specs.declared.shape.Shape.{Shape}
use Rattle.tcp_streams.specs.declared.segment.Taken.{Taken}
use Rattle.stream_messages.specs.declared.told.Told.{Told}
use Rattle.stream_messages.specs.declared.told.Told.TheVariants as tellings
use Rattle.stream_messages.specs.Tellings.{end_of}
use Rattle.tcp_messages.specs.declared.met.ShownMessage.{ShownMessage}
use Rattle.tcp_messages.specs.Shown.{bytes_from}
use Rattle.pk_fields.specs.declared.apps.App.{App}
use Rattle.pk_fields.specs.declared.apps.App.TheVariants.{Dns}
use Rattle.message_links.specs.declared.notes.Direction.{Direction}
use Rattle.message_links.specs.declared.notes.Note.{Note}
use Rattle.message_links.specs.declared.notes.Note.TheVariants.{Query, Response, Request, Answer, Other}

-- a message of DNS is a query or a response by the first bit behind its id (RFC 1035, 4.1.1); one that ends before its flags do is
-- neither, and its layer tells no flags
abbrev pub dns_note : List ℕ → Note
dns_note [] = Other
dns_note (high ∷ []) = Other
dns_note (high ∷ low ∷ []) = Other
dns_note (high ∷ low ∷ flags ∷ []) = Other
dns_note (high ∷ low ∷ flags ∷ more ∷ rest) =
    if nat_le 128 flags then Response (high * 256 + low) else Query (high * 256 + low)

-- an interim response ends no answer (RFC 9110, 15.2)
abbrev pub http_note : Shape → Note
http_note shape = if shape.request then Request else (if shape.interim then Other else Answer)

-- a message whose head tells its length: in a stream the length of a DNS message stands before it (RFC 1035, 4.2.2); others have no links
abbrev pub sized_note : App → List ℕ → Note
sized_note Dns bytes = dns_note (drop 2 bytes)
sized_note app bytes = Other

-- a message of a stream, by the stream's application
abbrev pub told_note : App → Told → List ℕ → Note
told_note app (tellings.Sized end) bytes = sized_note app bytes
told_note app (tellings.Http shape) bytes = http_note shape

-- one that the frame of a segment with this payload shows
abbrev pub message_note : App → List ℕ → ShownMessage → Note
message_note app payload m = told_note app m.message.told (bytes_from payload (end_of m.message.told) m.source)

-- all that it shows; where the stream has no application, there are none
abbrev pub shown_notes : Option App → List ℕ → List ShownMessage → List Note
shown_notes None payload ms = []
shown_notes (Some app) payload ms = map (message_note app payload) ms

-- what a datagram carries is at most one message; DNS alone has links, multicast DNS none
abbrev pub datagram_notes : Option App → List ℕ → List Note
datagram_notes (Some Dns) bytes = if length bytes == 0 then [] else dns_note bytes ∷ []
datagram_notes app bytes = []

-- the direction in which a packet's messages go; over UDP links don't ask for the side
abbrev pub udp_direction : ℕ → Direction
udp_direction stream = record { tcp = false; stream = stream; side = false }

abbrev pub tcp_direction : Taken → Direction
tcp_direction taken = record { tcp = true; stream = taken.stream; side = taken.side == 1 }

-- a message, with the frame that showed it
pub record Noted : Type 0 where
  pub frame : ℕ
  pub at : Direction
  pub note : Note

-- a frame's messages, in their order, behind earlier ones
abbrev pub noted_on : ℕ → Direction → List Note → List Noted → List Noted
noted_on frame at [] ns = ns
noted_on frame at (note ∷ notes) ns = noted_on frame at notes (record { frame = frame; at = at; note = note } ∷ ns)
