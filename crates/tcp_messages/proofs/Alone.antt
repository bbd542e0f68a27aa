-- What the frame of a segment shows, by the segments of its stream, and so by those of its conversation.
use Rattle.std.proofs.Common.{◌≡◌, ℕ, suc, Bool, cond, List, [], ◌∷◌, ◌++◌, map, eqb, Option, Some, None, refl, sym, ap, subst, ◌∙◌, inl, inr, arith, ℤ}
use Rattle.std.specs.Prelude.{Contains}
use Rattle.std.proofs.lemmas.Bool.{cases_Bool}
use Rattle.std.proofs.lemmas.Bool.Decides.{eqb_tells}
use Rattle.tcp_streams.specs.declared.segment.Segment.{Segment}
use Rattle.tcp_streams.specs.Numbers.{first_number, ahead, position_ahead}
use Rattle.tcp_streams.specs.Conversations.{same_ends, ends_of}
use Rattle.tcp_streams.specs.Labels.{Label, label_of, labels, sided_of, taken_after, told}
use Rattle.tcp_streams.specs.Ways.{WayState, Sided, stretches, front_for, origin_for, own_step, way_after}
use Rattle.tcp_streams.specs.Isolation.{IsSameWay, between}
use Rattle.tcp_streams.proofs.FramesAside.{front_same, ahead_same, own_same, frames_aside}
use Rattle.stream_messages.specs.declared.framer.Framer.{Framer}
use Rattle.stream_messages.specs.declared.placed.Placed.{Placed}
use Rattle.stream_messages.specs.Sides.{Brought, asked_in, front_end, note_next, noted}
use Rattle.tcp_messages.specs.declared.met.ShownMessage.{ShownMessage}
use Rattle.tcp_messages.specs.Brought.{brought, brought_by, way_with}
use Rattle.tcp_messages.specs.Shown.{frames_told, located, messages_by, shown_after}
use Rattle.tcp_messages.specs.Renumbered.{renumbered, shown_renumbered, frames_of, KeepsOrder, IsSameShown, AloneLaw, RenumberedLaw}
use Rattle.tcp_messages.proofs.Matching.{alone, is_alone, label_segment, same_but, same_sided, side_renumbered, sides_renumbered}
use Rattle.tcp_messages.proofs.InHeld.{AreIn, shown_in_held}
use Rattle.tcp_messages.proofs.Renumbering.{AllFrames, AllIn, AreLocated, IsSameHeld, Keeps, all_located, told_same}

-- ---- by the segments of a stream

abbrev brought_of : List Sided → List Brought
brought_of [] = []
brought_of (l ∷ ls) = record { side = l.side; stretches = stretches (own_step (way_after l.side ls) l.segment) } ∷ brought_of ls

brought_from : (n : ℕ) (ls : List Label) → brought n ls ≡ brought_of (sided_of n ls)
brought_from n [] = refl
brought_from n (l ∷ ls) = elim (eqb_tells l.stream n) [
  | inl here ↦ rw here.0 (λ i. record { side = l.side; stretches = stretches (own_step (way_after l.side (sided_of (here.1 i) ls)) l.segment) } ∷ brought_from n ls i)
  | inr other ↦ rw other.0 (brought_from n ls)
]

abbrev messages_from : Option Framer → Bool → List Sided → Segment → List Placed
messages_from None side ls s = []
messages_from (Some framer) side ls s = (note_next framer (noted framer (brought_of ls)) (record { side = side; stretches = stretches (own_step (way_after side ls) s) })).shown

abbrev position_from : Bool → List Sided → Segment → ℤ
position_from side ls s = position_ahead (front_for (way_after side ls)) (ahead (origin_for (way_after side ls) s) (front_for (way_after side ls)) (first_number s))

abbrev shown_from : Option Framer → Bool → List Sided → Segment → List ShownMessage
shown_from framer side ls s = map (located (own_step (way_after side ls) s).held s (position_from side ls s)) (messages_from framer side ls s)

messages_are : (framer : Option Framer) (l : Label) (ls : List Label) → messages_by framer l ls ≡ messages_from framer l.side (sided_of l.stream ls) l.segment
messages_are None l ls = refl
messages_are (Some framer) l ls = ap (λ (bs : List Brought). (note_next framer (noted framer bs) (brought_by l ls)).shown) (brought_from l.stream ls)

by_stream : (framer : Option Framer) (past : List Segment) (s : Segment)
    → shown_after framer past s ≡ shown_from framer (label_of s (labels past)).side (sided_of (label_of s (labels past)).stream (labels past)) s
unfolding shown_after told
by_stream framer past s =
    let ls : List Label = labels past in
    let l : Label = label_of s ls in
    let ss : List Sided = sided_of l.stream ls in
    ap (map (located (way_with l ls).held s (taken_after past s).position)) (messages_are framer l ls)
    ∙ ap (λ (t : Segment). map (located (own_step (way_after l.side ss) t).held s (position_from l.side ss t)) (messages_from framer l.side ss t)) (label_segment s ls)

-- ---- the conversation alone

same_segment : (s : Segment) → renumbered (λ n. n) s ≡ s
same_segment s = refl

same_sides : (ls : List Sided) → sides_renumbered (λ n. n) ls ≡ ls
same_sides [] = refl
same_sides (l ∷ ls) = ap (λ (ms : List Sided). l ∷ ms) (same_sides ls)

same_segments : (ss : List Segment) → map (renumbered (λ n. n)) ss ≡ ss
same_segments [] = refl
same_segments (s ∷ ss) = ap (λ (ts : List Segment). s ∷ ts) (same_segments ss)

shown_alone : (framer : Option Framer) (past : List Segment) (s : Segment) → shown_after framer past s ≡ shown_after framer (between s past) s
shown_alone framer past s =
    let ls : List Label = labels past in
    let ms : List Label = labels (alone (λ n. n) s past) in
    let is = is_alone (λ n. n) s past in
    by_stream framer past s
    ∙ (λ i. shown_from framer (is.side i) ((sym (same_sides (sided_of (label_of s ls).stream ls)) ∙ is.segments) i) s)
    ∙ sym (by_stream framer (alone (λ n. n) s past) s)
    ∙ ap (λ (ts : List Segment). shown_after framer ts s) (same_segments (between s past))

between_same : (r : ℕ → ℕ) (s : Segment) (past : List Segment) → between (renumbered r s) past ≡ between s past
between_same r s [] = refl
between_same r s (t ∷ past) = ap (λ (ts : List Segment). cond (same_ends (ends_of t) (ends_of s)) (t ∷ ts) ts) (between_same r s past)

between_again : (s : Segment) (past : List Segment) → between s (between s past) ≡ between s past
between_again s [] = refl
between_again s (t ∷ past) = elim (cases_Bool (same_ends (ends_of t) (ends_of s))) [
  | inl mine ↦ rw mine (rw mine (ap (λ (ts : List Segment). t ∷ ts) (between_again s past)))
  | inr other ↦ rw other (between_again s past)
]

between_renumbered : (r : ℕ → ℕ) (s : Segment) (past : List Segment) → between s (map (renumbered r) past) ≡ map (renumbered r) (between s past)
between_renumbered r s [] = refl
between_renumbered r s (t ∷ past) = elim (cases_Bool (same_ends (ends_of t) (ends_of s))) [
  | inl mine ↦ rw mine (ap (λ (ts : List Segment). renumbered r t ∷ ts) (between_renumbered r s past))
  | inr other ↦ rw other (between_renumbered r s past)
]

-- ---- other numbers

way_same : (r : ℕ → ℕ) (side : Bool) (ls : List Sided) (s : Segment)
    → IsSameWay (record { segment = s; side = side } ∷ ls) (sides_renumbered r (record { segment = s; side = side } ∷ ls)) (own_step (way_after side ls) s)
    (own_step (way_after side (sides_renumbered r ls)) (renumbered r s))
way_same r side ls s =
    own_same (record { segment = s; side = side }) (side_renumbered r (record { segment = s; side = side })) ls (sides_renumbered r ls) (way_after side ls) (way_after side (sides_renumbered r ls))
    (frames_aside side ls (sides_renumbered r ls) (same_sided r ls)) (same_but r s)

stretches_same : (r : ℕ → ℕ) (side : Bool) (ls : List Sided) (s : Segment)
    → stretches (own_step (way_after side ls) s) ≡ stretches (own_step (way_after side (sides_renumbered r ls)) (renumbered r s))
stretches_same r side ls s =
    let same = way_same r side ls s in
    λ i. same.earlier i ++ record { start = same.start i; bytes = same.front i } ∷ []

brought_same : (r : ℕ → ℕ) (ls : List Sided) → brought_of ls ≡ brought_of (sides_renumbered r ls)
brought_same r [] = refl
brought_same r (l ∷ ls) = λ i. record { side = l.side; stretches = stretches_same r l.side ls l.segment i } ∷ brought_same r ls i

messages_same : (r : ℕ → ℕ) (framer : Option Framer) (side : Bool) (ls : List Sided) (s : Segment)
    → messages_from framer side ls s ≡ messages_from framer side (sides_renumbered r ls) (renumbered r s)
messages_same r None side ls s = refl
messages_same r (Some framer) side ls s = λ i. (note_next framer (noted framer (brought_same r ls i)) (record { side = side; stretches = stretches_same r side ls s i })).shown

position_same : (r : ℕ → ℕ) (side : Bool) (ls : List Sided) (s : Segment) → position_from side ls s ≡ position_from side (sides_renumbered r ls) (renumbered r s)
position_same r side ls s =
    let v : WayState = way_after side ls in
    let w : WayState = way_after side (sides_renumbered r ls) in
    let same = frames_aside side ls (sides_renumbered r ls) (same_sided r ls) in
    λ i. position_ahead (front_same ls (sides_renumbered r ls) v w same i) (ahead_same ls (sides_renumbered r ls) v w s (renumbered r s) same (same_but r s) i)

messages_held : (framer : Option Framer) (side : Bool) (ls : List Sided) (s : Segment) → AreIn (own_step (way_after side ls) s).held (messages_from framer side ls s)
messages_held None side ls s = tt
messages_held (Some framer) side ls s = shown_in_held framer (asked_in side (noted framer (brought_of ls))) side ls s (front_end side (noted framer (brought_of ls)))

from_same : (r : ℕ → ℕ) (P : ℕ → Type 0) → Keeps r P → (framer : Option Framer) (side : Bool) (ls : List Sided) (s : Segment) → P s.frame → AllFrames P ls
    → AreLocated r P (shown_from framer side ls s) (shown_from framer side (sides_renumbered r ls) (renumbered r s))
from_same r P keeps framer side ls s p all =
    let l : Sided = record { segment = s; side = side } in
    let v : WayState = own_step (way_after side ls) s in
    let w : WayState = own_step (way_after side (sides_renumbered r ls)) (renumbered r s) in
    let held : IsSameHeld r P (l ∷ ls) v.held w.held = record { cells = (way_same r side ls s).held; frames = (p, all) } in
    let are = all_located r P keeps (l ∷ ls) v.held w.held s (position_from side ls s) (messages_from framer side ls s) held p (messages_held framer side ls s) in
    record {
      all = are.all;
      is = (λ i. map (located w.held (renumbered r s) (sym (position_same r side ls s) i)) (sym (messages_same r framer side ls s) i)) ∙ are.is;
    }

-- the frames of a stream are those of segments
abbrev pub AllSegments : (ℕ → Type 0) → List Segment → Type 0
AllSegments P [] = Unit {0}
AllSegments P (s ∷ ss) = P s.frame × AllSegments P ss

pub stream_frames : (P : ℕ → Type 0) (n : ℕ) (past : List Segment) → AllSegments P past → AllFrames P (sided_of n (labels past))
stream_frames P n [] all = tt
stream_frames P n (s ∷ past) all = elim (cases_Bool (eqb (label_of s (labels past)).stream n)) [
  | inl mine ↦ rw mine (subst (λ (t : Segment). P t.frame) (sym (label_segment s (labels past))) all.0, stream_frames P n past all.1)
  | inr other ↦ rw other (stream_frames P n past all.1)
]

pub all_contained : (P : ℕ → Type 0) (ss : List Segment) → ((f : ℕ) → Contains (frames_of ss) f → P f) → AllSegments P ss
all_contained P [] there = tt
all_contained P (s ∷ ss) there = (there s.frame (0, omega arith, refl), all_contained P ss (λ f in_rest. there f (suc in_rest.0, omega (arith, in_rest.1), in_rest.2)))

after_same : (r : ℕ → ℕ) (framer : Option Framer) (past : List Segment) (s : Segment) → KeepsOrder r (frames_of (s ∷ past))
    → AreLocated r (Contains (frames_of (s ∷ past))) (shown_after framer past s) (shown_after framer (alone r s past) (renumbered r s))
after_same r framer past s keeps =
    let P : ℕ → Type 0 = Contains (frames_of (s ∷ past)) in
    let ls : List Label = labels past in
    let ms : List Label = labels (alone r s past) in
    let l : Label = label_of s ls in
    let ss : List Sided = sided_of l.stream ls in
    let all : AllSegments P (s ∷ past) = all_contained P (s ∷ past) (λ f there. there) in
    let is = is_alone r s past in
    let are = from_same r P keeps framer l.side ss s all.0 (stream_frames P l.stream past all.1) in
    let shown : shown_after framer past s ≡ shown_from framer l.side ss s = by_stream framer past s in
    let other : shown_after framer (alone r s past) (renumbered r s) ≡ shown_from framer l.side (sides_renumbered r ss) (renumbered r s) =
    by_stream framer (alone r s past) (renumbered r s) ∙ sym (λ i. shown_from framer (is.side i) (is.segments i) (renumbered r s)) in
    record {
      all = subst (AllIn P) (sym shown) are.all;
      is = other ∙ are.is ∙ ap (map (shown_renumbered r)) (sym shown);
    }

shown_same : (r : ℕ → ℕ) (P : ℕ → Type 0) → Keeps r P → (shown other : List ShownMessage) → AreLocated r P shown other → IsSameShown r shown other
shown_same r P keeps shown other are = record {
  messages = are.is;
  frames = ap frames_told are.is ∙ told_same r P keeps shown are.all;
}

pub stands_alone : AloneLaw
stands_alone r framer past others s keeps same =
    let mine : List Segment = between s past in
    let is = shown_same r (Contains (frames_of (s ∷ mine))) keeps (shown_after framer mine s) (shown_after framer (alone r s mine) (renumbered r s)) (after_same r framer mine s keeps) in
    let there : shown_after framer (alone r s mine) (renumbered r s) ≡ shown_after framer others (renumbered r s) =
    ap (λ (ts : List Segment). shown_after framer ts (renumbered r s)) (ap (map (renumbered r)) (between_again s past) ∙ sym same ∙ sym (between_same r s others))
    ∙ sym (shown_alone framer others (renumbered r s)) in
    subst (λ (xs : List ShownMessage). IsSameShown r xs (shown_after framer others (renumbered r s))) (sym (shown_alone framer past s))
    (subst (IsSameShown r (shown_after framer mine s)) there is)

pub stands_renumbered : RenumberedLaw
stands_renumbered r framer past s rises = stands_alone r framer past (map (renumbered r) past) s (λ low high a b. rises low high) (between_renumbered r s past)
