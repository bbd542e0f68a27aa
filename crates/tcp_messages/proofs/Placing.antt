-- Each message that frames show lies where its bytes were brought.
use Rattle.std.proofs.Common.{◌≡◌, ℕ, zero, suc, ◌+◌, ◌-◌, ◌<◌, nat_lt, List, [], ◌∷◌, ◌++◌, map, Contains, All, Option, Some, None, refl, sym, ap, subst, ◌∙◌, inl, inr, ℤ}
use Rattle.std.specs.FinMap.{get}
use Rattle.std.proofs.lemmas.Bool.{cases_Bool}
use Rattle.std.proofs.lemmas.List.Elements.{All-nil, All-cons}
use Rattle.pk_base.specs.declared.stretch.Stretch.{Stretch}
use Rattle.stream_messages.specs.declared.shape.Then.{Then}
use Rattle.stream_messages.specs.declared.shape.Then.TheVariants.{Follows, Opaque}
use Rattle.range_bytes.specs.Held.{Cell}
use Rattle.tcp_streams.specs.declared.segment.Segment.{Segment}
use Rattle.tcp_streams.specs.Labels.{Label, label_of, labels, sided_of, told, way_of}
use Rattle.tcp_streams.specs.Ways.{WayState, own_step}
use Rattle.tcp_streams.proofs.PassedGaps.{with_own}
use Rattle.stream_messages.specs.declared.framer.Framer.{Framer}
use Rattle.stream_messages.specs.declared.told.Told.{Told}
use Rattle.stream_messages.specs.declared.placed.Placed.{Placed}
use Rattle.stream_messages.specs.Tellings.{first_of, end_of, then_of, passed, answers}
use Rattle.stream_messages.specs.Messages.{Asked, follow, with_first, messages, of_front, of_stretches, answered, above, end_at}
use Rattle.stream_messages.specs.Sides.{asked_in, front_end, noted}
use Rattle.stream_messages.proofs.FirstLemmas.{first_some}
use Rattle.tcp_messages.specs.Brought.{brought, brought_by}
use Rattle.tcp_messages.specs.Laws.{PlacesLaw}
use Rattle.tcp_messages.specs.Places.{LiesWhereBrought}
use Rattle.tcp_messages.specs.Renumbered.{frames_of}
use Rattle.tcp_messages.specs.Shown.{located, messages_by, shown_after}
use Rattle.tcp_messages.proofs.Alone.{all_contained, stream_frames}
use Rattle.tcp_messages.proofs.InHeld.{AreIn, shown_in_held}
use Rattle.tcp_messages.proofs.Located.{frame_in, lies_where, position_in}
use Rattle.tcp_messages.proofs.Matching.{label_segment}
use Rattle.tcp_messages.proofs.Renumbering.{AllFrames}

-- ---- each message has a byte

abbrev AreSome : List Placed → Type 0
AreSome [] = Unit {0}
AreSome (m ∷ ms) = (0 < end_of m.told) × AreSome ms

some_append : (ms ns : List Placed) → AreSome ms → AreSome ns → AreSome (ms ++ ns)
some_append [] ns before after = after
some_append (m ∷ ms) ns before after = (before.0, some_append ms ns before.1 after)

follow_some : (next : Then) (ms : List Placed) → AreSome ms → AreSome (follow next ms)
follow_some (Follows count) ms all = all
follow_some Opaque ms all = tt

with_some : (at : ℕ) (o : Option Told) (more : Told → List Placed) → ((told : Told) → o ≡ Some told → 0 < end_of told) → ((told : Told) → AreSome (more told)) → AreSome (with_first at o more)
with_some at None more some rest = tt
with_some at (Some told) more some rest = (some told refl, follow_some (then_of told) (more told) (rest told))

messages_some : (framer : Framer) (asked : Asked) (count at skip : ℕ) (bytes : List ℕ) → AreSome (messages framer asked count at skip bytes)
unfolding messages
messages_some framer asked count at skip [] = tt
messages_some framer asked count at (suc skip) (b ∷ rest) = messages_some framer asked count (suc at) skip rest
messages_some framer asked count at zero (b ∷ rest) =
    with_some at (first_of framer (asked at count) (b ∷ rest))
    (λ (told : Told). messages framer asked (count + answers told) (suc at) (end_of told - 1 + passed (then_of told)) rest)
    (λ told e. first_some framer (asked at count) (b ∷ rest) told e)
    (λ told. messages_some framer asked (count + answers told) (suc at) (end_of told - 1 + passed (then_of told)) rest)

all_some : (framer : Framer) (asked : Asked) (count : ℕ) (ss : List Stretch) → AreSome (of_stretches framer asked count ss)
all_some framer asked count [] = tt
all_some framer asked count (s ∷ ss) =
    some_append (of_front framer asked count s.start s.bytes) _ (messages_some framer asked count s.start 0 s.bytes)
    (all_some framer asked (answered count (of_front framer asked count s.start s.bytes)) ss)

above_some : (before : ℕ) (ms : List Placed) → AreSome ms → AreSome (above before ms)
above_some before [] all = tt
above_some before (m ∷ ms) all = elim (cases_Bool (nat_lt before (end_at m))) [
  | inl late ↦ rw late (all.0, above_some before ms all.1)
  | inr early ↦ rw early (above_some before ms all.1)
]

by_some : (framer : Option Framer) (l : Label) (ls : List Label) → AreSome (messages_by framer l ls)
by_some None l ls = tt
by_some (Some framer) l ls =
    above_some (front_end l.side (noted framer (brought l.stream ls)))
    (of_stretches framer (asked_in l.side (noted framer (brought l.stream ls))) 0 (brought_by l ls).stretches)
    (all_some framer (asked_in l.side (noted framer (brought l.stream ls))) 0 (brought_by l ls).stretches)

by_held : (framer : Option Framer) (l : Label) (ls : List Label) → AreIn (own_step (way_of l.stream l.side ls) l.segment).held (messages_by framer l ls)
by_held None l ls = tt
by_held (Some framer) l ls =
    shown_in_held framer (asked_in l.side (noted framer (brought l.stream ls))) l.side (sided_of l.stream ls) l.segment (front_end l.side (noted framer (brought l.stream ls)))

-- ---- all that a frame shows

all_lie : (w : WayState) (s : Segment) (ms : List Placed) → AreSome ms → AreIn (own_step w s).held ms → ((q : ℕ) (cell : Cell) → get w.held q ≡ Some cell → cell.1 ≡ s.frame → ⊥)
    → All (LiesWhereBrought w.held (own_step w s).held s (position_in w s)) (map (located (own_step w s).held s (position_in w s)) ms)
all_lie w s [] some held other = All-nil (LiesWhereBrought w.held (own_step w s).held s (position_in w s))
all_lie w s (m ∷ ms) some held other =
    All-cons (LiesWhereBrought w.held (own_step w s).held s (position_in w s)) (located (own_step w s).held s (position_in w s) m)
    (map (located (own_step w s).held s (position_in w s)) ms) (lies_where w s m some.0 held.0 other) (all_lie w s ms some.1 held.1 other)

-- the frame of no segment before
others_frames : (past : List Segment) (s : Segment) → (Contains (frames_of past) s.frame → ⊥) → (stream : ℕ) → AllFrames (λ (f : ℕ). f ≡ s.frame → ⊥) (sided_of stream (labels past))
others_frames past s fresh stream =
    stream_frames (λ (f : ℕ). f ≡ s.frame → ⊥) stream past
    (all_contained (λ (f : ℕ). f ≡ s.frame → ⊥) past (λ f there same. fresh (subst (Contains (frames_of past)) same there)))

pub stands_where : PlacesLaw
unfolding shown_after told
stands_where framer past s fresh =
    let ls : List Label = labels past in
    let l : Label = label_of s ls in
    let w : WayState = way_of l.stream l.side ls in
    let same : l.segment ≡ s = label_segment s ls in
    let position : ℤ = position_in w l.segment in
    let other : ((q : ℕ) (cell : Cell) → get w.held q ≡ Some cell → cell.1 ≡ l.segment.frame → ⊥) =
    λ q cell e is. frame_in (λ (f : ℕ). f ≡ s.frame → ⊥) l.side (sided_of l.stream ls) q cell (others_frames past s fresh l.stream) e (is ∙ ap (λ (t : Segment). t.frame) same) in
    let own = all_lie w l.segment (messages_by framer l ls) (by_some framer l ls) (by_held framer l ls) other in
    subst (λ (v : WayState). All (LiesWhereBrought w.held v.held s position) (shown_after framer past s)) (sym (with_own l ls))
    (subst (λ (t : Segment). All (LiesWhereBrought w.held (own_step w l.segment).held t position) (map (located (own_step w l.segment).held t position) (messages_by framer l ls))) same own)
