-- What holds of how conversations and messages are framed, and of where messages lie.
use Rattle.std.specs.Prelude.{◌≡◌, ℕ, All, Bool, Contains, List, ◌∷◌, length, Option, Some}
use Rattle.range_bytes.specs.Held.{Held}
use Rattle.tcp_streams.specs.declared.segment.Segment.{Segment}
use Rattle.tcp_streams.specs.Labels.{Label, label_of, labels, taken_after, way_of}
use Rattle.stream_messages.specs.declared.framer.Framer.{Framer}
use Rattle.stream_messages.specs.declared.shape.Shape.{Shape}
use Rattle.stream_messages.specs.declared.told.Told.TheVariants.{Sized, Http}
use Rattle.stream_messages.specs.Framers.{first_sized}
use Rattle.stream_messages.specs.HttpMessages.{first_message}
use Rattle.tcp_messages.specs.Readers.{IsOfEnds}
use Rattle.tcp_messages.specs.Renumbered.{frames_of}
use Rattle.tcp_messages.specs.Shown.{IsMessage, shown_after}
use Rattle.tcp_messages.specs.Places.{LiesWhereBrought}

-- where messages end, as two ports tell, whichever of them sends, is the same in both directions
abbrev pub PortsLaw : Type 0
PortsLaw = (known : ℕ → ℕ → Option Framer) → ((a b : ℕ) → known a b ≡ known b a) → IsOfEnds (λ s. known s.from.port s.to.port)

-- what the direction of a segment holds after segments, the newest first
abbrev pub held_for : Label → List Segment → Held
held_for l segments = (way_of l.stream l.side (labels segments)).held

-- a segment of a frame that brought none before: each message that its frame shows lies in it where it brought the whole message,
-- and any other is gathered
abbrev pub PlacesLaw : Type 0
PlacesLaw = (framer : Option Framer) (past : List Segment) (s : Segment) → (Contains (frames_of past) s.frame → ⊥)
    → All (LiesWhereBrought (held_for (label_of s (labels past)) past) (held_for (label_of s (labels past)) (s ∷ past)) s (taken_after past s).position)
    (shown_after framer past s)

-- what is told of a message says how it is framed: the shape of one of HTTP is what its bytes say (RFC 9112), and where only a length
-- is told, a head of so many bytes tells it
pub record ToldLaw : Type 0 where
  pub http : (shape : Shape) (bytes : List ℕ) → IsMessage (Http shape) bytes → (asked : Bool) × (first_message asked bytes ≡ Some shape) × (shape.end ≡ length bytes)
  pub sized : (end : ℕ) (bytes : List ℕ) → IsMessage (Sized end) bytes
      → (head : ℕ) × (at : ℕ) × (width : ℕ) × (first_sized head at width bytes ≡ Some end) × (end ≡ length bytes)
