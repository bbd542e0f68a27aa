-- The messages of stretches that grow.
use Rattle.std.proofs.Common.{◌≡◌, ℕ, ◌+◌, Bool, true, false, List, [], ◌∷◌, ◌++◌, length, refl, sym, ap, subst, ◌∙◌, arith, append_assoc}
use Rattle.std.specs.Prelude.{nat_lt, if◌then◌else◌}
use Rattle.std.proofs.lemmas.List.{append-nil}
use Rattle.pk_base.specs.declared.stretch.Stretch.{Stretch}
use Rattle.stream_messages.specs.declared.framer.Framer.{Framer}
use Rattle.stream_messages.specs.declared.placed.Placed.{Placed}
use Rattle.stream_messages.specs.Tellings.{answers}
use Rattle.stream_messages.specs.Messages.{Asked, of_front, end_at, above, AgreeBelow, answered, of_stretches, AllBefore, AllFrom, StretchLaw, NewLaws}
use Rattle.stream_messages.proofs.MessageLemmas.{all_above, all_below, prefixes, same_front}

one_kept : (t : Bool) (m : Placed) (xs ys all : List Placed) → all ≡ xs ++ ys → (if t then m ∷ all else all) ≡ (if t then m ∷ xs else xs) ++ ys
one_kept true m xs ys all e = ap (λ (ms : List Placed). m ∷ ms) e
one_kept false m xs ys all e = e

pub above-append : (before : ℕ) (ms ns : List Placed) → above before (ms ++ ns) ≡ above before ms ++ above before ns
above-append before [] ns = refl
above-append before (m ∷ ms) ns = one_kept (nat_lt before (end_at m)) m (above before ms) (above before ns) (above before (ms ++ ns)) (above-append before ms ns)

pub answered-append : (count : ℕ) (ms ns : List Placed) → answered count (ms ++ ns) ≡ answered (answered count ms) ns
answered-append count [] ns = refl
answered-append count (m ∷ ms) ns = answered-append (count + answers m.told) ms ns

stretches_above : (framer : Framer) (asked : Asked) (count end : ℕ) (ss : List Stretch) → AllFrom end ss → above end (of_stretches framer asked count ss) ≡ of_stretches framer asked count ss
stretches_above framer asked count end [] from = refl
stretches_above framer asked count end (s ∷ ss) from =
    let ms : List Placed = of_front framer asked count s.start s.bytes in
    above-append end ms (of_stretches framer asked (answered count ms) ss)
    ∙ ap (λ (xs : List Placed). xs ++ above end (of_stretches framer asked (answered count ms) ss)) (all_above framer asked end count s.start 0 s.bytes (omega (arith, from.0)))
    ∙ ap (λ (xs : List Placed). ms ++ xs) (stretches_above framer asked (answered count ms) end ss from.1)

-- the stretch that grows, and those behind it
last_longer : (end : ℕ) (old new rest : List Placed) → new ≡ old ++ above end new → above end rest ≡ rest → new ++ rest ≡ (old ++ []) ++ above end (new ++ rest)
last_longer end old new rest grown past =
    ap (λ (ms : List Placed). ms ++ rest) grown
    ∙ append_assoc old (above end new) rest
    ∙ ap (λ (ms : List Placed). ms ++ (above end new ++ rest)) (sym (append-nil old))
    ∙ ap (λ (ms : List Placed). (old ++ []) ++ (above end new ++ ms)) (sym past)
    ∙ ap (λ (ms : List Placed). (old ++ []) ++ ms) (sym (above-append end new rest))

-- a stretch that stays, and those behind it
first_stays_so : (end : ℕ) (old new : List Placed) (rest more : List Placed) → new ≡ old → above end new ≡ [] → more ≡ rest ++ above end more
    → new ++ more ≡ (old ++ rest) ++ above end (new ++ more)
first_stays_so end old new rest more same none grown =
    ap (λ (ms : List Placed). ms ++ more) same
    ∙ ap (λ (ms : List Placed). old ++ ms) grown
    ∙ sym (append_assoc old rest (above end more))
    ∙ ap (λ (ms : List Placed). (old ++ rest) ++ (ms ++ above end more)) (sym none)
    ∙ ap (λ (ms : List Placed). (old ++ rest) ++ ms) (sym (above-append end new more))

stretch_grows : (framer : Framer) (asked later : Asked) (count end : ℕ) (s t : Stretch) (more : List ℕ) → t.start ≡ s.start → t.bytes ≡ s.bytes ++ more
    → s.start + length s.bytes ≡ end → AgreeBelow end asked later
    → of_front framer later count t.start t.bytes ≡ of_front framer asked count s.start s.bytes ++ above end (of_front framer later count t.start t.bytes)
stretch_grows framer asked later count end s t more start bytes ends agree =
    let grown : of_front framer later count s.start (s.bytes ++ more) ≡ of_front framer asked count s.start s.bytes ++ above end (of_front framer later count s.start (s.bytes ++ more)) =
    subst (λ (e : ℕ). of_front framer later count s.start (s.bytes ++ more) ≡ of_front framer asked count s.start s.bytes ++ above e (of_front framer later count s.start (s.bytes ++ more))) ends
    (prefixes framer asked later count s.start s.bytes more (λ at n low. agree at n (omega (arith, low, ends)))) in
    let here : of_front framer later count t.start t.bytes ≡ of_front framer later count s.start (s.bytes ++ more) = λ i. of_front framer later count (start i) (bytes i) in
    here ∙ grown ∙ ap (λ (ms : List Placed). of_front framer asked count s.start s.bytes ++ above end ms) (sym here)

pub stretches_longer : StretchLaw
stretches_longer framer asked later count end [] ts are agree = sym (stretches_above framer later count end ts are)
stretches_longer framer asked later count end (s ∷ []) [] are agree = absurd are
stretches_longer framer asked later count end (s ∷ next ∷ ss) [] are agree = absurd are
stretches_longer framer asked later count end (s ∷ []) (t ∷ ts) are agree =
    let new : List Placed = of_front framer later count t.start t.bytes in
    last_longer end (of_front framer asked count s.start s.bytes) new (of_stretches framer later (answered count new) ts)
    (stretch_grows framer asked later count end s t are.1.0 are.0 are.1.1 are.2 agree)
    (stretches_above framer later (answered count new) end ts are.3)
stretches_longer framer asked later count end (s ∷ next ∷ ss) (t ∷ ts) are agree =
    let old : List Placed = of_front framer asked count s.start s.bytes in
    let new : List Placed = of_front framer later count t.start t.bytes in
    let here : new ≡ of_front framer later count s.start s.bytes = λ i. of_front framer later count (are.0 i).start (are.0 i).bytes in
    let same : new ≡ old = here ∙ same_front framer asked later count s.start s.bytes (λ at n low. agree at n (omega (arith, low, are.1))) in
    let none : above end new ≡ [] = ap (above end) here ∙ all_below framer later end count s.start 0 s.bytes are.1 in
    first_stays_so end old new (of_stretches framer asked (answered count old) (next ∷ ss)) (of_stretches framer later (answered count new) ts) same none
    (subst (λ (c : ℕ). of_stretches framer later c ts ≡ of_stretches framer asked (answered count old) (next ∷ ss) ++ above end (of_stretches framer later c ts)) (sym (ap (answered count) same))
    (stretches_longer framer asked later (answered count old) end (next ∷ ss) ts are.2 agree))

-- ---- what is new

pub of_stretches-append : (framer : Framer) (asked : Asked) (count : ℕ) (ss ts : List Stretch)
    → of_stretches framer asked count (ss ++ ts) ≡ of_stretches framer asked count ss ++ of_stretches framer asked (answered count (of_stretches framer asked count ss)) ts
of_stretches-append framer asked count [] ts = refl
of_stretches-append framer asked count (s ∷ ss) ts =
    let ms : List Placed = of_front framer asked count s.start s.bytes in
    let ns : List Placed = of_stretches framer asked (answered count ms) ss in
    ap (λ (xs : List Placed). ms ++ xs) (of_stretches-append framer asked (answered count ms) ss ts)
    ∙ sym (append_assoc ms ns (of_stretches framer asked (answered (answered count ms) ns) ts))
    ∙ ap (λ (n : ℕ). (ms ++ ns) ++ of_stretches framer asked n ts) (sym (answered-append count ms ns))

stretches_below : (framer : Framer) (asked : Asked) (count end : ℕ) (ss : List Stretch) → AllBefore end ss → above end (of_stretches framer asked count ss) ≡ []
stretches_below framer asked count end [] before = refl
stretches_below framer asked count end (s ∷ ss) before =
    let ms : List Placed = of_front framer asked count s.start s.bytes in
    above-append end ms (of_stretches framer asked (answered count ms) ss)
    ∙ ap (λ (xs : List Placed). xs ++ above end (of_stretches framer asked (answered count ms) ss)) (all_below framer asked end count s.start 0 s.bytes before.0)
    ∙ stretches_below framer asked (answered count ms) end ss before.1

only_new : (framer : Framer) (asked : Asked) (count end : ℕ) (ss ts : List Stretch) → AllBefore end ss
    → above end (of_stretches framer asked count (ss ++ ts)) ≡ above end (of_stretches framer asked (answered count (of_stretches framer asked count ss)) ts)
only_new framer asked count end ss ts before =
    let rest : List Placed = of_stretches framer asked (answered count (of_stretches framer asked count ss)) ts in
    ap (above end) (of_stretches-append framer asked count ss ts)
    ∙ above-append end (of_stretches framer asked count ss) rest
    ∙ ap (λ (xs : List Placed). xs ++ above end rest) (stretches_below framer asked count end ss before)

new_grown : (framer : Framer) (asked : Asked) (count end : ℕ) (ss : List Stretch) (t : Stretch) → AllBefore end ss
    → above end (of_stretches framer asked count (ss ++ t ∷ [])) ≡ above end (of_front framer asked (answered count (of_stretches framer asked count ss)) t.start t.bytes)
new_grown framer asked count end ss t before =
    only_new framer asked count end ss (t ∷ []) before ∙ ap (above end) (append-nil (of_front framer asked (answered count (of_stretches framer asked count ss)) t.start t.bytes))

new_begun : (framer : Framer) (asked : Asked) (count end : ℕ) (ss ts : List Stretch) → AllBefore end ss → AllFrom end ts
    → above end (of_stretches framer asked count (ss ++ ts)) ≡ of_stretches framer asked (answered count (of_stretches framer asked count ss)) ts
new_begun framer asked count end ss ts before from =
    only_new framer asked count end ss ts before ∙ stretches_above framer asked (answered count (of_stretches framer asked count ss)) end ts from

pub laws_of_new : NewLaws
laws_of_new = record { grown = new_grown; begun = new_begun }
