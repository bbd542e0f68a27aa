-- The first message in the bytes of a stream (RFC 9112, 6), and what of it is found from a place where an earlier look stopped.
use Rattle.std.specs.Prelude.{◌≡◌, ◌<◌, ◌≤◌, ℕ, ◌+◌, ◌-◌, if◌then◌else◌, Bool, List, [], ◌++◌, length, take, drop, nat_le, Option, Some, None}
use Rattle.std.specs.Option.{option_map}
use Rattle.stream_messages.specs.declared.ends.Seek.TheVariants.{Before}
use Rattle.stream_messages.specs.declared.plans.Plan.{Plan}
use Rattle.stream_messages.specs.declared.plans.Plan.TheVariants.{Bare, Chunks, Fixed, Pass, Unknown}
use Rattle.stream_messages.specs.declared.plans.Planned.{Planned}
use Rattle.stream_messages.specs.declared.plans.Start.{Start}
use Rattle.stream_messages.specs.declared.shape.Body.TheVariants.{None as Bodiless, Plain, Chunked, NotShown}
use Rattle.stream_messages.specs.declared.shape.Piece.{Piece}
use Rattle.stream_messages.specs.declared.shape.Shape.{Shape}
use Rattle.stream_messages.specs.declared.shape.Then.TheVariants.{Follows, Opaque}
use Rattle.stream_messages.specs.declared.progress.Progress.{Progress}
use Rattle.stream_messages.specs.declared.progress.Progress.TheVariants.{InHead, InBody, InChunks, Never}
use Rattle.stream_messages.specs.declared.progress.HeadProgress.{HeadProgress}
use Rattle.stream_messages.specs.declared.progress.ChunkProgress.{ChunkProgress}
use Rattle.stream_messages.specs.declared.progress.Framing.{Framing}
use Rattle.stream_messages.specs.declared.progress.Framing.TheVariants.{Unfinished, Message}
use Rattle.stream_messages.specs.declared.message.Framed.{Framed}
use Rattle.stream_messages.specs.declared.message.Framed.TheVariants.{Unfinished as NoMessage, Message as OneMessage}
use Rattle.stream_messages.specs.Limits.{body_limit, head_limit, turn_limit}
use Rattle.stream_messages.specs.Sizes.{size_of_pieces}
use Rattle.stream_messages.specs.Heads.{Head, head_of}
use Rattle.stream_messages.specs.Ends.{behind_from}
use Rattle.stream_messages.specs.Plans.{planned}
use Rattle.stream_messages.specs.Chunks.{shape_of, first_place, chunks}

-- a message is whole once its bytes are there
abbrev pub if_there : Shape → List ℕ → Option Shape
if_there shape bytes = if nat_le shape.end (length bytes) then Some shape else None

-- the message that a head alone tells; none for a body in chunks
abbrev pub shape_by : Start → Plan → Option Shape
shape_by start Bare = Some (shape_of start Bodiless start.head (Follows 0))
shape_by start Chunks = None
shape_by start (Fixed n) = Some (shape_of start (Plain n) (start.head + n) (Follows 0))
shape_by start (Pass n) = Some (shape_of start NotShown start.head (Follows n))
shape_by start Unknown = Some (shape_of start NotShown start.head Opaque)

abbrev pub by_shape : Start → Option Shape → List ℕ → Option Shape
by_shape start (Some shape) bytes = if_there shape bytes
by_shape start None bytes = chunks turn_limit start bytes (first_place start.head) []

abbrev pub by_planned : Option Planned → List ℕ → Option Shape
by_planned None bytes = None
by_planned (Some p) bytes = by_shape p.start (shape_by p.start p.plan) bytes

abbrev pub by_head : Bool → Option Head → List ℕ → Option Shape
by_head asked head bytes = by_planned (option_map (planned asked) head) bytes

-- the first message; a response that begins here is to HEAD where it is asked
unfoldable pub first_message : Bool → List ℕ → Option Shape
first_message asked bytes = by_head asked (head_of bytes) bytes

abbrev pub message_in : Framed → Option Shape
message_in NoMessage = None
message_in (OneMessage shape) = Some shape

-- ---- going on

-- the head that is these bytes
abbrev pub head_within : List ℕ → Option Head
head_within front = if nat_le (length front) head_limit then head_of front else None

-- the message whose head ends in front of these bytes
abbrev pub by_end : Bool → List ℕ → Option (List ℕ) → Option Shape
by_end asked bytes None = None
by_end asked bytes (Some rest) =
    by_head asked (head_within (take (length bytes - length rest) bytes)) bytes

abbrev pub resumed_head : HeadProgress → List ℕ → Option Shape
resumed_head head bytes = by_end head.asked bytes (behind_from head.seek (drop head.looked bytes))

abbrev pub resumed_chunks : ChunkProgress → List ℕ → Option Shape
resumed_chunks list bytes = chunks list.turns list.start bytes list.place list.pieces

-- what is found from where an earlier look stopped
unfoldable pub resumed : Progress → List ℕ → Option Shape
resumed (InHead head) bytes = resumed_head head bytes
resumed (InBody shape) bytes = if_there shape bytes
resumed (InChunks list) bytes = resumed_chunks list bytes
resumed Never bytes = None

-- before the first byte
abbrev pub begun : Bool → Progress
begun asked = InHead (record { asked = asked; looked = 0; seek = Before })

abbrev pub found : Framing → Option Shape
found (Unfinished progress) = None
found (Message shape) = Some shape

-- what is found of more bytes than were there
abbrev pub went_on : Framing → List ℕ → Option Shape
went_on (Unfinished progress) bytes = resumed progress bytes
went_on (Message shape) bytes = Some shape

-- an answer is what is found of the bytes, and nothing is lost for more of them
pub record GoesOn (meaning : List ℕ → Option Shape) (bytes : List ℕ) (r : Framing) : Type 0 where
  pub answer : found r ≡ meaning bytes
  pub later : (more : List ℕ) → meaning (bytes ++ more) ≡ went_on r (bytes ++ more)

-- from the first byte on it is the first message
abbrev pub BeginLaw : Type 0
BeginLaw = (asked : Bool) (bytes : List ℕ) → resumed (begun asked) bytes ≡ first_message asked bytes

-- a first message has a byte, lies in the bytes, and depends on nothing behind it; its chunks are within the limit of a body
pub record FirstLaws : Type 0 where
  pub some : (asked : Bool) (bytes : List ℕ) (s : Shape) → first_message asked bytes ≡ Some s
      → 0 < s.end
  pub within : (asked : Bool) (bytes : List ℕ) (s : Shape) → first_message asked bytes ≡ Some s
      → s.end ≤ length bytes
  pub stays : (asked : Bool) (bytes more : List ℕ) (s : Shape) → first_message asked bytes ≡ Some s
      → first_message asked (bytes ++ more) ≡ Some s
  pub shrinks : (asked : Bool) (bytes more : List ℕ) (s : Shape)
      → first_message asked (bytes ++ more) ≡ Some s → s.end ≤ length bytes
      → first_message asked bytes ≡ Some s
  pub short : (asked : Bool) (bytes : List ℕ) (s : Shape) (pieces : List Piece)
      → first_message asked bytes ≡ Some s → s.body ≡ Chunked pieces
      → size_of_pieces pieces ≤ body_limit
