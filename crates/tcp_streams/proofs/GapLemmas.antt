-- The loop that passes over gaps.
use Rattle.std.proofs.Common.{◌≡◌, ℕ, ◌+◌, ◌-◌, ◌^◌, ◌<◌, ◌≤◌, List, [], ◌∷◌, ◌++◌, length, None, Some, Option, refl, sym, ap, ◌∙◌, subst, inl, inr, arith, append_assoc, append-nil}
use Rattle.std.specs.FinMap.{get}
use Rattle.std.proofs.lemmas.Bool.{cases_lt}
use Rattle.pk_base.specs.declared.lost.Lost.{Lost}
use Rattle.pk_base.specs.declared.stretch.Stretch.{Stretch}
use Rattle.range_bytes.specs.Held.{Held, IsFreeFrom, IsFirstHeld, IsNextHeld, bytes_at}
use Rattle.range_bytes.specs.Joined.{Joined, front_end, IsJoined}
use Rattle.range_bytes.proofs.Runs.{none_is_not_some}
use Rattle.tcp_streams.specs.Numbers.{window}
use Rattle.tcp_streams.specs.Gaps.{first_free, next_from, gaps_behind, start_past, end_past, left_behind}
use Rattle.tcp_streams.specs.Ways.{IsPlace}
use Rattle.tcp_streams.proofs.Places.{next_none, next_near, next_far, next_is, free_same, jump_free, place_jump, gaps_more, gaps_none}

-- the next held position, looked at from the one behind the front end
pub here : (held : Held) (acked front next : ℕ) → IsNextHeld held (front + 1) (Some next) → next ≤ acked → next_from (acked - front) held (front + 1) ≡ Some next
here held acked front next first near =
    let order : front + 1 ≤ next = first.order in
    next_near (acked - front) held (front + 1) next first (omega arith)

pub beyond : (held : Held) (acked front next : ℕ) → IsNextHeld held (front + 1) (Some next) → acked < next → front < acked → next_from (acked - front) held (front + 1) ≡ None
beyond held acked front next first far less = next_far (acked - front) held (front + 1) next first (omega arith)

pub nowhere : (held : Held) (acked front : ℕ) → IsNextHeld held (front + 1) None → next_from (acked - front) held (front + 1) ≡ None
nowhere held acked front none = next_none (acked - front) held (front + 1) none

pub behind_none : (held : Held) (acked front : ℕ) → acked ≤ front → next_from (acked - front) held (front + 1) ≡ None
behind_none held acked front less = let none : acked - front ≡ 0 = omega arith in rw none refl

-- what is passed, and what is still to pass, is all there is
pub record IsPassing (held : Held) (start front acked : ℕ) (lost : List Lost) (left : List Stretch) (begins ends : ℕ) : Type 0 where
  pub place : IsPlace held begins ends
  pub grown : front ≤ ends
  pub near : ends ≤ front + window
  pub beyond : (position : ℕ) → front + window ≤ position → get held position ≡ None
  pub lost_is : lost ++ gaps_behind held acked ends ≡ gaps_behind held acked front
  pub left_is : left ++ left_behind held begins (gaps_behind held acked ends) ≡ left_behind held start (gaps_behind held acked front)
  pub start_is : start_past begins (gaps_behind held acked ends) ≡ start_past start (gaps_behind held acked front)
  pub end_is : end_past held ends (gaps_behind held acked ends) ≡ end_past held front (gaps_behind held acked front)

pub passing_begins : (held : Held) (start front acked : ℕ) → IsPlace held start front → IsPassing held start front acked [] [] start front
passing_begins held start front acked place = record {
  place = place;
  grown = omega arith;
  near = omega arith;
  beyond = place.window_is;
  lost_is = refl;
  left_is = refl;
  start_is = refl;
  end_is = refl;
}

pub passing_more : (held : Held) (start front acked : ℕ) (lost : List Lost) (left : List Stretch) (begins ends next to : ℕ) (bytes : List ℕ)
    → IsPassing held start front acked lost left begins ends → next_from (acked - ends) held (ends + 1) ≡ Some next
    → IsFreeFrom held next to → bytes ≡ bytes_at held begins (ends - begins)
    → IsPassing held start front acked (lost ++ record { from = ends; to = next } ∷ []) (left ++ record { start = begins; bytes = bytes } ∷ []) next to
passing_more held start front acked lost left begins ends next to bytes so_far e free bytes_are =
    let found = next_is (acked - ends) held (ends + 1) next e in
    let order : ends + 1 ≤ next = found.first.order in
    let same : to ≡ first_free held next = free_same held next to (first_free held next) free (jump_free held begins ends next so_far.place (omega arith)) in
    let more : gaps_behind held acked ends ≡ record { from = ends; to = next } ∷ gaps_behind held acked to =
    gaps_more held acked begins ends next so_far.place e ∙ ap (λ (p : ℕ). record { from = ends; to = next } ∷ gaps_behind held acked p) (sym same) in
    let far : next ≤ to = free.order in
    let grown : front ≤ ends = so_far.grown in
    record {
      place = subst (λ (p : ℕ). IsPlace held next p) (sym same) (place_jump held begins ends next so_far.place found.first);
      grown = omega arith;
      near = elim (cases_lt (front + window) to) [
        | inr less ↦ less
        | inl past ↦ absurd (elim (cases_lt (front + window) next) [
          | inl out ↦ none_is_not_some (get held next) found.first.there (so_far.beyond next (omega arith))
          | inr within ↦ none_is_not_some (get held (front + window)) (free.run (front + window) within past) (so_far.beyond (front + window) (omega arith))
        ])
      ];
      beyond = so_far.beyond;
      lost_is = append_assoc lost (record { from = ends; to = next } ∷ []) (gaps_behind held acked to) ∙ ap (λ (gs : List Lost). lost ++ gs) (sym more) ∙ so_far.lost_is;
      left_is =
          append_assoc left (record { start = begins; bytes = bytes } ∷ []) (left_behind held next (gaps_behind held acked to))
          ∙ ap (λ (b : List ℕ). left ++ record { start = begins; bytes = b } ∷ left_behind held next (gaps_behind held acked to)) bytes_are
          ∙ ap (λ (gs : List Lost). left ++ left_behind held begins gs) (sym more) ∙ so_far.left_is;
      start_is = ap (start_past begins) (sym more) ∙ so_far.start_is;
      end_is = ap (λ (p : ℕ). end_past held p (gaps_behind held acked to)) same ∙ ap (end_past held ends) (sym more) ∙ so_far.end_is;
    }

-- the front end comes nearer to the acknowledged place
pub passing_nears : (held : Held) (acked ends next to : ℕ) → next_from (acked - ends) held (ends + 1) ≡ Some next → IsFreeFrom held next to → acked - to < acked - ends
passing_nears held acked ends next to e free =
    let found = next_is (acked - ends) held (ends + 1) next e in
    let order : ends + 1 ≤ next = found.first.order in
    let near : next < ends + 1 + (acked - ends) = found.near in
    let far : next ≤ to = free.order in
    omega arith

pub record IsPassed (held : Held) (start front acked : ℕ) (lost : List Lost) (left : List Stretch) (begins ends : ℕ) : Type 0 where
  pub lost_is : lost ≡ gaps_behind held acked front
  pub left_is : left ≡ left_behind held start (gaps_behind held acked front)
  pub start_is : begins ≡ start_past start (gaps_behind held acked front)
  pub end_is : ends ≡ end_past held front (gaps_behind held acked front)

pub passing_ends : (held : Held) (start front acked : ℕ) (lost : List Lost) (left : List Stretch) (begins ends : ℕ)
    → IsPassing held start front acked lost left begins ends → next_from (acked - ends) held (ends + 1) ≡ None → IsPassed held start front acked lost left begins ends
passing_ends held start front acked lost left begins ends so_far e =
    let none : gaps_behind held acked ends ≡ [] = gaps_none held acked ends e in
    record {
      lost_is = sym (append-nil lost) ∙ ap (λ (gs : List Lost). lost ++ gs) (sym none) ∙ so_far.lost_is;
      left_is = sym (append-nil left) ∙ ap (λ (gs : List Lost). left ++ left_behind held begins gs) (sym none) ∙ so_far.left_is;
      start_is = ap (start_past begins) (sym none) ∙ so_far.start_is;
      end_is = ap (end_past held ends) (sym none) ∙ so_far.end_is;
    }

pub near_room : (front ends : ℕ) → front < 2 ^ 61 → ends ≤ front + window → ends < 2 ^ 62
unfolding window
near_room front ends room near = omega arith

-- nothing is held just before the next held position
pub gap_before : (held : Held) (start front next : ℕ) → IsPlace held start front → IsFirstHeld held (front + 1) next → get held (next - 1) ≡ None
gap_before held start front next place first =
    let order : front + 1 ≤ next = first.order in
    elim (cases_lt (front + 1) next) [
      | inl past ↦ first.none (next - 1) (omega arith) (omega arith)
      | inr more ↦ let at : next - 1 ≡ front = omega arith in ap (get held) at ∙ place.free
    ]

pub begun_free : (j : Joined) (held : Held) (next : ℕ) → IsJoined j → j.held ≡ held → j.start ≡ next → IsFreeFrom held next (front_end j)
begun_free j held next joined same at = subst (λ (h : Held). IsFreeFrom h next (front_end j)) same (record {
  order = omega (arith, at);
  run = λ q a b. joined.order.run q (omega (arith, at)) b;
  free = joined.free;
})

-- what is found in the joined bytes, said of what was held
pub found_next : (held now : Held) (acked ends next : ℕ) (found : Option ℕ) → now ≡ held → found ≡ next_from (acked - ends) now (ends + 1) → found ≡ Some next
    → next_from (acked - ends) held (ends + 1) ≡ Some next
found_next held now acked ends next found same is some = ap (λ (h : Held). next_from (acked - ends) h (ends + 1)) (sym same) ∙ sym is ∙ some

pub next_past : (held : Held) (acked ends next : ℕ) → next_from (acked - ends) held (ends + 1) ≡ Some next → ends < next
next_past held acked ends next e =
    let order : ends + 1 ≤ next = (next_is (acked - ends) held (ends + 1) next e).first.order in
    omega arith

pub before_next : (held now : Held) (start acked ends next : ℕ) → now ≡ held → IsPlace held start ends → next_from (acked - ends) held (ends + 1) ≡ Some next → get now (next - 1) ≡ None
before_next held now start acked ends next same place e =
    ap (λ (h : Held). get h (next - 1)) same ∙ gap_before held start ends next place (next_is (acked - ends) held (ends + 1) next e).first

pub stretch_bytes : (j : Joined) (held : Held) → j.held ≡ held → j.front ≡ bytes_at j.held j.start (length j.front) → j.front ≡ bytes_at held j.start (front_end j - j.start)
stretch_bytes j held same bytes =
    let size : front_end j - j.start ≡ length j.front = omega arith in
    bytes ∙ ap (λ (h : Held). bytes_at h j.start (length j.front)) same ∙ ap (bytes_at held j.start) (sym size)
