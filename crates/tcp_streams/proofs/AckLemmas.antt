-- What an acknowledgment number means, and that it is what raises the acknowledged place.
use Rattle.std.proofs.Common.{◌≡◌, ℕ, ◌+◌, ◌-◌, ◌^◌, ◌<◌, ◌≤◌, max, Bool, true, false, not, List, ◌∷◌, Option, None, Some, refl, sym, ap, ◌∙◌, subst, inl, inr, arith}
use Rattle.std.proofs.lemmas.Bool.{cases_Bool, cases_lt, cond-true, cond-false, lt-ltb, le-ltb}
use Rattle.tcp_streams.specs.declared.segment.Segment.{Segment}
use Rattle.tcp_streams.specs.Numbers.{ahead, place}
use Rattle.tcp_streams.specs.Labels.{Label, label_of, labels, sided_of, way_of}
use Rattle.tcp_streams.specs.Ways.{WayState, end_of, acked_by, other_step, own_step, way_after, way_step, same_side}
use Rattle.tcp_streams.specs.Acks.{IsMeant, Acknowledges, IsRaised, AcksLaw}
use Rattle.tcp_streams.proofs.Keyed.{label_cases, same_number}
use Rattle.tcp_streams.proofs.PassedGaps.{with_own}

-- by how far a number is ahead of the front end
ahead_on : (origin front number position : ℕ) → IsMeant origin front number position → front ≤ position → ahead origin front number ≡ position - front
ahead_on origin front number position meant on = omega (arith, meant.numbered, meant.high, on)

ahead_back : (origin front number position : ℕ) → IsMeant origin front number position → position < front → ahead origin front number ≡ 2 ^ 32 - (front - position)
ahead_back origin front number position meant back = omega (arith, meant.numbered, meant.low, back)

place_is : (origin front number position : ℕ) → IsMeant origin front number position → place 0 front (ahead origin front number) ≡ position
place_is origin front number position meant =
    let u : ℕ = ahead origin front number in
    elim (cases_lt position front) [
      | inl back ↦
          let is : u ≡ 2 ^ 32 - (front - position) = ahead_back origin front number position meant back in
          let at : place 0 front u ≡ max 0 (front - (2 ^ 32 - u)) = cond-false _ _ _ (le-ltb u (2 ^ 31) (omega (arith, is, meant.low, back))) in
          omega (arith, at, is, meant.low, back)
      | inr on ↦
          let is : u ≡ position - front = ahead_on origin front number position meant on in
          let at : place 0 front u ≡ front + u = cond-true _ _ _ (lt-ltb u (2 ^ 31) (omega (arith, is, meant.high, on))) in
          omega (arith, at, is, on)
    ]

-- each number means a position, but for those before the first
on_means : (origin front number : ℕ) → ahead origin front number < 2 ^ 31 → IsMeant origin front number (front + ahead origin front number)
on_means origin front number less = record { numbered = omega arith; low = omega arith; high = omega (arith, less) }

back_means : (origin front number : ℕ) → 2 ^ 31 ≤ ahead origin front number → 2 ^ 32 - ahead origin front number ≤ front → IsMeant origin front number (front - (2 ^ 32 - ahead origin front number))
back_means origin front number more room = record { numbered = omega (arith, more, room); low = omega (arith, more, room); high = omega (arith, more, room) }

place_none : (origin front number : ℕ) → ((position : ℕ) → IsMeant origin front number position → ⊥) → place 0 front (ahead origin front number) ≡ 0
place_none origin front number none =
    let u : ℕ = ahead origin front number in
    elim (cases_lt u (2 ^ 31)) [
      | inl less ↦ absurd (none (front + u) (on_means origin front number less))
      | inr more ↦ elim (cases_lt front (2 ^ 32 - u)) [
        | inl before ↦
            let at : place 0 front u ≡ max 0 (front - (2 ^ 32 - u)) = cond-false _ _ _ (le-ltb u (2 ^ 31) more) in
            omega (arith, at, before)
        | inr room ↦ absurd (none (front - (2 ^ 32 - u)) (back_means origin front number more room))
      ]
    ]

acked_raised : (w : WayState) (s : Segment) (position : ℕ) → Acknowledges w s position → acked_by w w.origin s ≡ max w.acked position
acked_raised w s position acks =
    let one : acked_by w (Some acks.origin) s ≡ max w.acked (place 0 (end_of w) (ahead acks.origin (end_of w) s.ack)) = cond-true _ _ _ acks.acked in
    ap (λ (o : Option ℕ). acked_by w o s) acks.known ∙ one ∙ ap (max w.acked) (place_is acks.origin (end_of w) s.ack position acks.meant)

acked_stays : (w : WayState) (s : Segment) (o : Option ℕ) → w.origin ≡ o → ((position : ℕ) → Acknowledges w s position → ⊥) → acked_by w o s ≡ w.acked
acked_stays w s None known none = refl
acked_stays w s (Some origin) known none = elim (cases_Bool s.acked) [
  | inr other ↦ cond-false _ _ _ other
  | inl acked ↦
      let one : acked_by w (Some origin) s ≡ max w.acked (place 0 (end_of w) (ahead origin (end_of w) s.ack)) = cond-true _ _ _ acked in
      let least : place 0 (end_of w) (ahead origin (end_of w) s.ack) ≡ 0 =
      place_none origin (end_of w) s.ack (λ position meant. none position (record { acked = acked; origin = origin; known = known; meant = meant })) in
      let same : max w.acked 0 ≡ w.acked = omega arith in
      one ∙ ap (max w.acked) least ∙ same
]

other_raises : (w : WayState) (s : Segment) → IsRaised w (other_step w s) s
unfolding other_step
other_raises w s = record { raised = acked_raised w s; stays = λ none. acked_stays w s w.origin refl none }

other_side : (side : Bool) → same_side (not side) side ≡ false
other_side true = refl
other_side false = refl

with_other : (l : Label) (ls : List Label) → way_of l.stream (not l.side) (l ∷ ls) ≡ other_step (way_of l.stream (not l.side) ls) l.segment
with_other l ls =
    let first : sided_of l.stream (l ∷ ls) ≡ record { segment = l.segment; side = l.side } ∷ sided_of l.stream ls = rw (same_number l.stream) refl in
    ap (way_after (not l.side)) first ∙ ap (λ (own : Bool). way_step own (way_of l.stream (not l.side) ls) l.segment) (other_side l.side)

own_segment : (s : Segment) (ls : List Label) → (label_of s ls).segment ≡ s
own_segment s ls = elim (label_cases s ls) [
  | inl opens ↦ ap (λ (l : Label). l.segment) opens
  | inr follows ↦ ap (λ (l : Label). l.segment) follows.goes
]

own_acked : (w : WayState) (s : Segment) → (own_step w s).acked ≡ w.acked
unfolding own_step
own_acked w s = refl

pub all_raised : AcksLaw
all_raised = record {
  other = λ past s.
      let ls : List Label = labels past in
      let l : Label = label_of s ls in
      let w : WayState = way_of l.stream (not l.side) ls in
      subst (λ (t : Segment). IsRaised w (way_of l.stream (not l.side) (l ∷ ls)) t) (own_segment s ls)
      (subst (λ (v : WayState). IsRaised w v l.segment) (sym (with_other l ls)) (other_raises w l.segment));
  own = λ past s.
      let ls : List Label = labels past in
      let l : Label = label_of s ls in
      ap (λ (v : WayState). v.acked) (with_own l ls) ∙ own_acked (way_of l.stream l.side ls) l.segment;
}
