-- All acknowledged gaps are passed, and nothing else is.
use Rattle.std.proofs.Common.{◌≡◌, ℕ, zero, suc, ◌+◌, ◌-◌, ◌<◌, ◌≤◌, Bool, true, false, not, List, [], ◌∷◌, ◌++◌, Option, None, Some, IsSome, is_some, All, AllPairs, Any, refl, sym, ap, ◌∙◌, subst, inl, inr, arith}
use Rattle.std.specs.FinMap.{get}
use Rattle.std.proofs.lemmas.Bool.{false≢true, cases_Bool, cases_eq, cases_lt}
use Rattle.std.proofs.lemmas.List.Elements.{All-nil, All-cons, All-weaker}
use Rattle.std.proofs.lemmas.List.Kept.{AllPairs-cons}
use Rattle.pk_base.specs.declared.lost.Lost.{Lost}
use Rattle.range_bytes.specs.Held.{Held, IsFreeFrom, IsFirstHeld}
use Rattle.range_bytes.proofs.Runs.{none_is_not_some}
use Rattle.tcp_streams.specs.declared.segment.Segment.{Segment}
use Rattle.tcp_streams.specs.Gaps.{first_free, next_from, gaps_on, gaps, start_past}
use Rattle.tcp_streams.specs.Labels.{Label, label_of, labels, sided_of, taken_after, told, way_of}
use Rattle.tcp_streams.specs.Ways.{WayState, end_of, own_step, way_after, way_step, same_side, IsPlace, IsWay}
use Rattle.tcp_streams.specs.Acknowledged.{IsAcknowledgedGap, IsMissed, LiesInGap, EndsBefore, PassesAll, GapsLaw}
use Rattle.tcp_streams.proofs.Keyed.{same_number}
use Rattle.tcp_streams.proofs.Places.{next_is, jump_free, place_jump}
use Rattle.tcp_streams.proofs.WayLemmas.{after_is}

none_of : {X : Type 0} (o : Option X) → is_some o ≡ false → o ≡ None
none_of None e = refl
none_of (Some x) e = absurd (false≢true (sym e))

-- where no held position is found, none is there
next_nothing : (n : ℕ) (held : Held) (from q : ℕ) → next_from n held from ≡ None → from ≤ q → q < from + n → get held q ≡ None
next_nothing zero held from q = λ e low high. absurd (omega (arith, low, high))
next_nothing (suc n) held from q = elim (cases_Bool (is_some (get held from))) [
  | inl there ↦ rw there (λ e low high. absurd (false≢true (sym (ap is_some e))))
  | inr gone ↦ rw gone (λ e low high. elim (cases_eq q from) [
    | inl same ↦ subst (λ (p : ℕ). get held p ≡ None) (sym same) (none_of (get held from) gone)
    | inr other ↦ next_nothing n held (from + 1) q e (omega (arith, low, other)) (omega (arith, high))
  ])
]

record PassesFrom (held : Held) (acked start front : ℕ) (lost : List Lost) : Type 0 where
  each : All (IsAcknowledgedGap held acked front) lost
  order : AllPairs EndsBefore lost
  all : (position : ℕ) → front ≤ position → IsMissed held acked position → Any (LiesInGap position) lost
  none_left : (position : ℕ) → start_past start lost ≤ position → IsMissed held acked position → ⊥

passes_none : (held : Held) (acked start front : ℕ) → IsPlace held start front → ((q : ℕ) → front < q → q ≤ acked → get held q ≡ None) → PassesFrom held acked start front []
passes_none held acked start front place none = record {
  each = All-nil (IsAcknowledgedGap held acked front);
  order = λ i j d low within. absurd (omega (arith, within));
  all = λ p low missed. absurd (none_is_not_some (get held missed.next) missed.there (none missed.next (omega (arith, low, missed.order)) missed.acknowledged));
  none_left = λ p low missed. elim (cases_lt p front) [
    | inl before ↦ none_is_not_some (get held p) (place.run p low before) missed.none
    | inr behind ↦ none_is_not_some (get held missed.next) missed.there (none missed.next (omega (arith, behind, missed.order)) missed.acknowledged)
  ];
}

-- a held position lies before the end of its run
run_past : (held : Held) (next to : ℕ) → IsSome (get held next) → IsFreeFrom held next to → next < to
run_past held next to there free = elim (cases_lt next to) [
  | inl less ↦ less
  | inr more ↦
      let same : to ≡ next = omega (arith, more, free.order) in
      absurd (none_is_not_some (get held next) there (subst (λ (p : ℕ). get held p ≡ None) same free.free))
]

first_gap : (held : Held) (acked start front next : ℕ) → IsPlace held start front → IsFirstHeld held (front + 1) next → next ≤ acked
    → IsAcknowledgedGap held acked front (record { from = front; to = next })
first_gap held acked start front next place first near = record {
  some = omega (arith, first.order);
  none = λ p low high. elim (cases_eq p front) [
    | inl same ↦ subst (λ (q : ℕ). get held q ≡ None) (sym same) place.free
    | inr other ↦ first.none p (omega (arith, low, other)) high
  ];
  behind = omega arith;
  begins = λ p low e. absurd (omega (arith, low, e));
  ends = first.there;
  acknowledged = near;
}

-- a gap behind a run of held bytes
later_gap : (held : Held) (acked front next to : ℕ) (gap : Lost) → front < next → next < to → IsFreeFrom held next to → IsAcknowledgedGap held acked to gap
    → IsAcknowledgedGap held acked front gap
later_gap held acked front next to gap low past free is = record {
  some = is.some;
  none = is.none;
  behind = omega (arith, low, past, is.behind);
  begins = λ p order e. elim (cases_lt p to) [
    | inl before ↦ free.run p (omega (arith, past, is.behind, e)) before
    | inr after ↦ is.begins p after e
  ];
  ends = is.ends;
  acknowledged = is.acknowledged;
}

passes_more : (held : Held) (acked start front next : ℕ) (lost : List Lost) → IsPlace held start front → IsFirstHeld held (front + 1) next → next ≤ acked
    → PassesFrom held acked next (first_free held next) lost → PassesFrom held acked start front (record { from = front; to = next } ∷ lost)
passes_more held acked start front next lost place first near more =
    let gap : Lost = record { from = front; to = next } in
    let to : ℕ = first_free held next in
    let low : front < next = omega (arith, first.order) in
    let free : IsFreeFrom held next to = jump_free held start front next place (omega (arith, low)) in
    let past : next < to = run_past held next to first.there free in
    record {
      each = All-cons (IsAcknowledgedGap held acked front) gap lost (first_gap held acked start front next place first near)
          (All-weaker (IsAcknowledgedGap held acked to) (IsAcknowledgedGap held acked front) (λ g is. later_gap held acked front next to g low past free is) lost more.each);
      order = AllPairs-cons EndsBefore gap lost
          (All-weaker (IsAcknowledgedGap held acked to) (EndsBefore gap) (λ g is. omega (arith, past, is.behind)) lost more.each) more.order;
      all = λ p from missed. elim (cases_lt p next) [
        | inl within ↦ (0, gap, omega arith, refl, (from, within))
        | inr behind ↦ elim (cases_lt p to) [
          | inl before ↦ absurd (none_is_not_some (get held p) (free.run p behind before) missed.none)
          | inr after ↦ let rest = more.all p after missed in (suc rest.0, rest.1, omega (arith, rest.2), rest.3, rest.4)
        ]
      ];
      none_left = more.none_left;
    }

passes : (n : ℕ) (held : Held) (acked start front : ℕ) → IsPlace held start front → acked ≤ front + n → PassesFrom held acked start front (gaps n held acked front)
passes zero held acked start front place enough = passes_none held acked start front place (λ q low high. absurd (omega (arith, low, high, enough)))
passes (suc n) held acked start front place enough =
    elim (next_from (acked - front) held (front + 1)) as (λ o. next_from (acked - front) held (front + 1) ≡ o → PassesFrom held acked start front (gaps_on (gaps n held acked) held front o)) [
      | None ↦ λ e. passes_none held acked start front place (λ q low high. next_nothing (acked - front) held (front + 1) q e (omega (arith, low)) (omega (arith, low, high)))
      | Some next ↦ λ e.
          let found = next_is (acked - front) held (front + 1) next e in
          let order : front + 1 ≤ next = found.first.order in
          let near : next < front + 1 + (acked - front) = found.near in
          let free = jump_free held start front next place (omega (arith, order)) in
          let far : next ≤ first_free held next = free.order in
          passes_more held acked start front next (gaps n held acked (first_free held next)) place found.first (omega (arith, order, near))
          (passes n held acked next (first_free held next) (place_jump held start front next place found.first) (omega (arith, order, far, enough)))
    ] refl

start_last : (start : ℕ) (lost : List Lost) (gap : Lost) → start_past start (lost ++ gap ∷ []) ≡ gap.to
start_last start [] gap = refl
start_last start (first ∷ lost) gap = start_last first.to lost gap

told_passes : (stream : ℕ) (side : Bool) (w other : WayState) (s : Segment) → IsWay w → PassesAll w (own_step w s) (told stream side w other s)
unfolding told own_step
told_passes stream side w other s way =
    let is = passes (w.acked - end_of w) w.held w.acked w.start (end_of w) way.place (omega arith) in
    record {
      each = is.each;
      order = is.order;
      all = is.all;
      same = λ none. ap (start_past w.start) none;
      begins = λ lost gap e. ap (start_past w.start) e ∙ start_last w.start lost gap;
      none_left = is.none_left;
    }

-- a segment's direction with it
own_side : (side : Bool) → same_side side side ≡ true
own_side true = refl
own_side false = refl

pub with_own : (l : Label) (ls : List Label) → way_of l.stream l.side (l ∷ ls) ≡ own_step (way_of l.stream l.side ls) l.segment
with_own l ls =
    let first : sided_of l.stream (l ∷ ls) ≡ record { segment = l.segment; side = l.side } ∷ sided_of l.stream ls = rw (same_number l.stream) refl in
    ap (way_after l.side) first ∙ ap (λ (own : Bool). way_step own (way_of l.stream l.side ls) l.segment) (own_side l.side)

pub all_passed : GapsLaw
all_passed past s =
    let ls : List Label = labels past in
    let l : Label = label_of s ls in
    let w : WayState = way_of l.stream l.side ls in
    subst (λ (v : WayState). PassesAll w v (taken_after past s)) (sym (with_own l ls))
    (told_passes l.stream l.side w (way_of l.stream (not l.side) ls) l.segment (after_is l.side (sided_of l.stream ls)))
