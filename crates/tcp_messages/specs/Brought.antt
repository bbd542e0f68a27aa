-- The segments that bring a stream's messages. Lists have the newest first.
use Rattle.std.specs.Prelude.{◌≡◌, ◌==◌, ℕ, Bool, if◌then◌else◌, List, [], ◌∷◌}
use Rattle.tcp_streams.specs.declared.segment.Segment.{Segment}
use Rattle.tcp_streams.specs.Labels.{Label, labels, way_of}
use Rattle.tcp_streams.specs.Ways.{WayState, stretches, own_step}
use Rattle.stream_messages.specs.declared.framer.Framer.{Framer}
use Rattle.stream_messages.specs.Messages.{of_stretches}
use Rattle.stream_messages.specs.Sides.{Brought, asked_in, noted, shown_in}

-- a segment's direction with it
abbrev pub way_with : Label → List Label → WayState
way_with l ls = own_step (way_of l.stream l.side ls) l.segment

-- its stretches
abbrev pub brought_by : Label → List Label → Brought
brought_by l ls = record { side = l.side; stretches = stretches (way_with l ls) }

-- what the segments of a stream brought
abbrev pub brought : ℕ → List Label → List Brought
brought stream [] = []
brought stream (l ∷ ls) = if l.stream == stream then brought_by l ls ∷ brought stream ls else brought stream ls

-- the messages that the frames show of a direction of a stream, one frame behind the other, are those of its stretches in their
-- order: each in one frame
abbrev pub MessagesOnce : Type 0
MessagesOnce = (framer : Framer) (past : List Segment) (stream : ℕ) (side : Bool)
    → shown_in side (noted framer (brought stream (labels past)))
    ≡ of_stretches framer (asked_in side (noted framer (brought stream (labels past)))) 0 (stretches (way_of stream side (labels past)))
