-- What frames show where a conversation stands among others, and where its frames have other numbers.
use Rattle.std.specs.Prelude.{◌≡◌, ◌<◌, ℕ, Contains, List, ◌∷◌, map, Option}
use Rattle.tcp_streams.specs.declared.segment.Segment.{Segment}
use Rattle.tcp_streams.specs.Isolation.{between}
use Rattle.stream_messages.specs.declared.framer.Framer.{Framer}
use Rattle.tcp_messages.specs.declared.met.ShownMessage.{ShownMessage}
use Rattle.tcp_messages.specs.declared.met.Source.{Source}
use Rattle.tcp_messages.specs.declared.met.Source.TheVariants as sources
use Rattle.tcp_messages.specs.Shown.{frames_told, shown_after}

-- a segment of another frame, and a message that other frames brought
abbrev pub renumbered : (ℕ → ℕ) → Segment → Segment
renumbered renumber s = record s { frame = renumber s.frame }

abbrev pub source_renumbered : (ℕ → ℕ) → Source → Source
source_renumbered renumber (sources.Segment place) = sources.Segment place
source_renumbered renumber (sources.Gathered g) = sources.Gathered (record { bytes = g.bytes; frames = map renumber g.frames })

abbrev pub shown_renumbered : (ℕ → ℕ) → ShownMessage → ShownMessage
shown_renumbered renumber m = record { message = m.message; source = source_renumbered renumber m.source }

abbrev pub frames_of : List Segment → List ℕ
frames_of segments = map (λ (s : Segment). s.frame) segments

-- the numbers of these frames keep their order
abbrev pub KeepsOrder : (ℕ → ℕ) → List ℕ → Type 0
KeepsOrder renumber frames = (low high : ℕ) → Contains frames low → Contains frames high → low < high → renumber low < renumber high

-- the same messages, by the same frames, which have other numbers: so has what `tcp.segment` lists
pub record IsSameShown (renumber : ℕ → ℕ) (shown other : List ShownMessage) : Type 0 where
  pub messages : other ≡ map (shown_renumbered renumber) shown
  pub frames : frames_told other ≡ map renumber (frames_told shown)

-- what the frame of a segment shows rests on the segments of its conversation: other conversations' segments change nothing, and
-- other numbers of the frames, in the same order, change these numbers alone
abbrev pub AloneLaw : Type 0
AloneLaw = (renumber : ℕ → ℕ) (framer : Option Framer) (past others : List Segment) (s : Segment) → KeepsOrder renumber (frames_of (s ∷ between s past))
    → between s others ≡ map (renumbered renumber) (between s past)
    → IsSameShown renumber (shown_after framer past s) (shown_after framer others (renumbered renumber s))

-- so where all frames get other numbers in the same order, each shows the same messages
abbrev pub RenumberedLaw : Type 0
RenumberedLaw = (renumber : ℕ → ℕ) (framer : Option Framer) (past : List Segment) (s : Segment) → ((low high : ℕ) → low < high → renumber low < renumber high)
    → IsSameShown renumber (shown_after framer past s) (shown_after framer (map (renumbered renumber) past) (renumbered renumber s))
