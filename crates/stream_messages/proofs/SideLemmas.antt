-- Each message is shown once.
use Rattle.std.proofs.Common.{◌≡◌, ℕ, ◌+◌, ◌≤◌, Bool, true, false, not, List, [], ◌∷◌, ◌++◌, length, get_or, refl, sym, ap, subst, ◌∙◌, arith}
use Rattle.std.specs.Prelude.{if◌then◌else◌}
use Rattle.std.proofs.lemmas.Bool.{cond-true, cond-false, lt-ltb, le-ltb}
use Rattle.pk_base.specs.declared.stretch.Stretch.{Stretch}
use Rattle.stream_messages.specs.declared.framer.Framer.{Framer}
use Rattle.stream_messages.specs.declared.placed.Placed.{Placed}
use Rattle.stream_messages.specs.Messages.{Asked, of_front, above, AgreeBelow, answered, of_stretches, AreLonger}
use Rattle.stream_messages.specs.Sides.{Brought, Noted, same_side, end_behind, stretches_in, front_end, shown_in, heads_in, before_longer, asked_in, note_next, noted, AreInOrder, AllGrow, AskedLaw, HeadsLaw, ShownOnce, SideLaws}
use Rattle.stream_messages.proofs.MessageLemmas.{same_front}
use Rattle.stream_messages.proofs.StretchLemmas.{stretches_longer}

asked_more : AskedLaw
unfolding asked_in
asked_more side n ns at count low =
    ap (λ (xs : List Noted). get_or (heads_in (shown_in (not side) xs)) count false) (cond-true _ _ _ (lt-ltb at (front_end side (n ∷ ns)) low))

before_all : (side : Bool) (at : ℕ) (ns : List Noted) → front_end side ns ≤ at → before_longer side at ns ≡ ns
before_all side at [] past = refl
before_all side at (n ∷ ns) past = cond-false _ _ _ (le-ltb at (front_end side (n ∷ ns)) past)

asked_past : HeadsLaw
unfolding asked_in
asked_past side ns at count past = ap (λ (xs : List Noted). get_or (heads_in (shown_in (not side) xs)) count false) (before_all side at ns past)

-- ---- stretches in order

low_end : (low : ℕ) (ss : List Stretch) → AreInOrder low ss → low ≤ end_behind low ss
low_end low [] order = omega arith
low_end low (s ∷ ss) order = omega (arith, order.0, low_end (s.start + length s.bytes) ss order.1)

pub same_stretches : (framer : Framer) (asked later : Asked) (count low : ℕ) (ss : List Stretch) → AreInOrder low ss → AgreeBelow (end_behind low ss) asked later
    → of_stretches framer later count ss ≡ of_stretches framer asked count ss
same_stretches framer asked later count low [] order agree = refl
same_stretches framer asked later count low (s ∷ ss) order agree =
    let old : List Placed = of_front framer asked count s.start s.bytes in
    let high : s.start + length s.bytes ≤ end_behind (s.start + length s.bytes) ss = low_end (s.start + length s.bytes) ss order.1 in
    let same : of_front framer later count s.start s.bytes ≡ old = same_front framer asked later count s.start s.bytes (λ at n within. agree at n (omega (arith, within, high))) in
    ap (λ (ms : List Placed). ms ++ of_stretches framer later (answered count ms) ss) same
    ∙ ap (λ (ms : List Placed). old ++ ms) (same_stretches framer asked later (answered count old) (s.start + length s.bytes) ss order.1 agree)

pub in_order : (framer : Framer) (side : Bool) (bs : List Brought) → AllGrow framer bs → AreInOrder 0 (stretches_in side (noted framer bs))
in_order framer side [] grow = tt
in_order framer side (b ∷ bs) grow = either (same_side side b.side) b.stretches (stretches_in side (noted framer bs)) grow.1.0 (in_order framer side bs grow.1.1)
  where
    either : (t : Bool) (xs ys : List Stretch) → AreInOrder 0 xs → AreInOrder 0 ys → AreInOrder 0 (if t then xs else ys)
    either true xs ys x y = x
    either false xs ys x y = y

-- ---- once

is_same : (a b : Bool) → same_side a b ≡ true → b ≡ a
is_same true b e = e
is_same false true e = absurd (cc)
is_same false false e = refl

-- a segment of the direction
own_once : (framer : Framer) (side : Bool) (ns : List Noted) (ts : List Stretch) → AreLonger (front_end side ns) (stretches_in side ns) ts
    → shown_in side ns ≡ of_stretches framer (asked_in side ns) 0 (stretches_in side ns)
    → shown_in side ns ++ above (front_end side ns) (of_stretches framer (asked_in side ns) 0 ts) ≡ of_stretches framer (asked_in side ns) 0 ts
own_once framer side ns ts longer was =
    ap (λ (ms : List Placed). ms ++ above (front_end side ns) (of_stretches framer (asked_in side ns) 0 ts)) was
    ∙ sym (stretches_longer framer (asked_in side ns) (asked_in side ns) 0 (front_end side ns) (stretches_in side ns) ts longer (λ at n low. refl))

shown_more : (framer : Framer) (side : Bool) (b : Brought) (ns : List Noted) → (t : Bool) → same_side side b.side ≡ t → AreLonger (front_end b.side ns) (stretches_in b.side ns) b.stretches
    → shown_in side ns ≡ of_stretches framer (asked_in side ns) 0 (stretches_in side ns)
    → shown_in side (note_next framer ns b ∷ ns) ≡ of_stretches framer (asked_in side ns) 0 (stretches_in side (note_next framer ns b ∷ ns))
shown_more framer side b ns true own longer was =
    let same : b.side ≡ side = is_same side b.side own in
    let grown : AreLonger (front_end side ns) (stretches_in side ns) b.stretches =
    subst (λ (s : Bool). AreLonger (front_end s ns) (stretches_in s ns) b.stretches) same longer in
    cond-true _ _ _ own
    ∙ ap (λ (s : Bool). shown_in side ns ++ above (front_end s ns) (of_stretches framer (asked_in s ns) 0 b.stretches)) same
    ∙ own_once framer side ns b.stretches grown was
    ∙ ap (of_stretches framer (asked_in side ns) 0) (sym (cond-true _ _ _ own))
shown_more framer side b ns false own longer was =
    cond-false _ _ _ own ∙ was ∙ ap (of_stretches framer (asked_in side ns) 0) (sym (cond-false _ _ _ own))

shown_once : ShownOnce
shown_once framer side [] grow = refl
shown_once framer side (b ∷ bs) grow =
    shown_more framer side b (noted framer bs) (same_side side b.side) refl grow.0 (shown_once framer side bs grow.1.1)
    ∙ sym (same_stretches framer (asked_in side (noted framer bs)) (asked_in side (noted framer (b ∷ bs))) 0 0 (stretches_in side (noted framer (b ∷ bs)))
    (in_order framer side (b ∷ bs) grow) (asked_more side (note_next framer (noted framer bs) b) (noted framer bs)))

pub laws_of_sides : SideLaws
laws_of_sides = record { asked = asked_more; heads = asked_past; once = shown_once }
