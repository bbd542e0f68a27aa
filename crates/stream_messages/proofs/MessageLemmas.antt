-- The messages of longer bytes.
use Rattle.std.proofs.Common.{◌≡◌, ℕ, zero, suc, ◌+◌, ◌-◌, ◌<◌, ◌≤◌, inl, inr, Bool, List, [], ◌∷◌, ◌++◌, length, drop, refl, sym, ap, subst, ◌∙◌, arith, Option, Some, None}
use Rattle.std.proofs.lemmas.Bool.{cond-true, cond-false, cases_lt, lt-ltb, le-ltb}
use Rattle.std.proofs.lemmas.List.{append-nil}
use Rattle.std.proofs.lemmas.Option.{none-some}
use Rattle.stream_messages.specs.declared.shape.Then.{Then}
use Rattle.stream_messages.specs.declared.shape.Then.TheVariants.{Follows, Opaque}
use Rattle.stream_messages.specs.declared.framer.Framer.{Framer}
use Rattle.stream_messages.specs.declared.told.Told.{Told}
use Rattle.stream_messages.specs.declared.placed.Placed.{Placed}
use Rattle.stream_messages.specs.Tellings.{first_of, end_of, then_of, passed, answers}
use Rattle.stream_messages.specs.Messages.{Asked, follow, with_first, messages, of_front, above, AgreeBelow, PrefixLaw}
use Rattle.stream_messages.proofs.FirstLemmas.{first_some, first_within, first_stays, first_shrinks}

-- passing over bytes is to begin behind them
pub from_skip : (framer : Framer) (asked : Asked) (count at skip : ℕ) (bytes : List ℕ) → messages framer asked count at skip bytes ≡ messages framer asked count (at + skip) 0 (drop skip bytes)
unfolding messages
from_skip framer asked count at zero bytes =
    let same : at ≡ at + 0 = omega arith in ap (λ (p : ℕ). messages framer asked count p 0 bytes) same
from_skip framer asked count at (suc skip) [] = refl
from_skip framer asked count at (suc skip) (b ∷ rest) =
    let same : suc at + skip ≡ at + suc skip = omega arith in
    from_skip framer asked count (suc at) skip rest ∙ ap (λ (p : ℕ). messages framer asked count p 0 (drop skip rest)) same

-- ---- all messages end past a place before them

follow_above : (before : ℕ) (next : Then) (ms : List Placed) → above before ms ≡ ms → above before (follow next ms) ≡ follow next ms
follow_above before (Follows n) ms e = e
follow_above before Opaque ms e = refl

first_above : (before at : ℕ) (o : Option Told) (more : Told → List Placed) → ((told : Told) → o ≡ Some told → before < at + end_of told)
    → ((told : Told) → o ≡ Some told → above before (more told) ≡ more told) → above before (with_first at o more) ≡ with_first at o more
first_above before at None more past rest = refl
first_above before at (Some told) more past rest =
    cond-true _ _ _ (lt-ltb before (at + end_of told) (past told refl))
    ∙ ap (λ (ms : List Placed). record { at = at; told = told } ∷ ms) (follow_above before (then_of told) (more told) (rest told refl))

pub all_above : (framer : Framer) (asked : Asked) (before count at skip : ℕ) (bytes : List ℕ) → before ≤ at + skip
    → above before (messages framer asked count at skip bytes) ≡ messages framer asked count at skip bytes
unfolding messages
all_above framer asked before count at skip [] low = refl
all_above framer asked before count at (suc skip) (b ∷ rest) low = all_above framer asked before count (suc at) skip rest (omega (arith, low))
all_above framer asked before count at zero (b ∷ rest) low =
    first_above before at (first_of framer (asked at count) (b ∷ rest))
    (λ (told : Told). messages framer asked (count + answers told) (suc at) (end_of told - 1 + passed (then_of told)) rest)
    (λ told e. omega (arith, low, first_some framer (asked at count) (b ∷ rest) told e))
    (λ told e. all_above framer asked before (count + answers told) (suc at) (end_of told - 1 + passed (then_of told)) rest (omega (arith, low)))

-- ---- no message ends past the bytes

follow_below : (end : ℕ) (next : Then) (ms : List Placed) → above end ms ≡ [] → above end (follow next ms) ≡ []
follow_below end (Follows n) ms e = e
follow_below end Opaque ms e = refl

first_below : (end at : ℕ) (o : Option Told) (more : Told → List Placed) → ((told : Told) → o ≡ Some told → at + end_of told ≤ end)
    → ((told : Told) → above end (more told) ≡ []) → above end (with_first at o more) ≡ []
first_below end at None more within rest = refl
first_below end at (Some told) more within rest =
    cond-false _ _ _ (le-ltb end (at + end_of told) (within told refl)) ∙ follow_below end (then_of told) (more told) (rest told)

pub all_below : (framer : Framer) (asked : Asked) (end count at skip : ℕ) (bytes : List ℕ) → at + length bytes ≤ end
    → above end (messages framer asked count at skip bytes) ≡ []
unfolding messages
all_below framer asked end count at skip [] high = refl
all_below framer asked end count at (suc skip) (b ∷ rest) high = all_below framer asked end count (suc at) skip rest (omega (arith, high))
all_below framer asked end count at zero (b ∷ rest) high =
    first_below end at (first_of framer (asked at count) (b ∷ rest))
    (λ (told : Told). messages framer asked (count + answers told) (suc at) (end_of told - 1 + passed (then_of told)) rest)
    (λ told e. omega (arith, high, first_within framer (asked at count) (b ∷ rest) told e))
    (λ told. all_below framer asked end (count + answers told) (suc at) (end_of told - 1 + passed (then_of told)) rest (omega (arith, high)))

-- ---- longer bytes

-- the first message of bytes, and of more of them: none in both, one in both, or one that ends in the new bytes
data IsKept (end at : ℕ) : Option Told → Option Told → Type 0 where
  neither : IsKept end at None None
  both : (told : Told) → at + end_of told ≤ end → IsKept end at (Some told) (Some told)
  late : (told : Told) → end < at + end_of told → IsKept end at None (Some told)

kept : (framer : Framer) (asked : Bool) (end at : ℕ) (bytes more : List ℕ) → end ≡ at + length bytes → IsKept end at (first_of framer asked bytes) (first_of framer asked (bytes ++ more))
kept framer asked end at bytes more is = by (first_of framer asked bytes) refl (first_of framer asked (bytes ++ more)) refl
  where
    by : (o : Option Told) → first_of framer asked bytes ≡ o → (whole : Option Told) → first_of framer asked (bytes ++ more) ≡ whole → IsKept end at o whole
    by None e None f = neither
    by (Some told) e whole f =
        subst (IsKept end at (Some told)) (sym (first_stays framer asked bytes more told e) ∙ f) (both told (omega (arith, is, first_within framer asked bytes told e)))
    by None e (Some told) f = elim (cases_lt end (at + end_of told)) [
      | inl past ↦ late told past
      | inr low ↦ absurd (none-some told (sym e ∙ first_shrinks framer asked bytes more told f (omega (arith, is, low))))
    ]

follow_longer : (end : ℕ) (next : Then) (old new : List Placed) → new ≡ old ++ above end new → follow next new ≡ follow next old ++ above end (follow next new)
follow_longer end (Follows n) old new e = e
follow_longer end Opaque old new e = refl

first_longer : (end at : ℕ) (o whole : Option Told) (f g : Told → List Placed) → IsKept end at o whole
    → ((told : Told) → g told ≡ f told ++ above end (g told)) → ((told : Told) → end < at + end_of told → above end (g told) ≡ g told)
    → with_first at whole g ≡ with_first at o f ++ above end (with_first at whole g)
first_longer end at _ _ f g neither longer past = refl
first_longer end at _ _ f g (both told low) longer past =
    let m : Placed = record { at = at; told = told } in
    let dropped : above end (m ∷ follow (then_of told) (g told)) ≡ above end (follow (then_of told) (g told)) = cond-false _ _ _ (le-ltb end (at + end_of told) low) in
    ap (λ (ms : List Placed). m ∷ ms) (follow_longer end (then_of told) (f told) (g told) (longer told))
    ∙ ap (λ (ms : List Placed). m ∷ follow (then_of told) (f told) ++ ms) (sym dropped)
first_longer end at _ _ f g (late told high) longer past =
    sym (cond-true _ _ _ (lt-ltb end (at + end_of told) high)
    ∙ ap (λ (ms : List Placed). record { at = at; told = told } ∷ ms) (follow_above end (then_of told) (g told) (past told high)))

pub longer : (framer : Framer) (asked later : Asked) (end count at skip : ℕ) (front more : List ℕ) → end ≡ at + length front → AgreeBelow end asked later
    → messages framer later count at skip (front ++ more) ≡ messages framer asked count at skip front ++ above end (messages framer later count at skip (front ++ more))
unfolding messages
longer framer asked later end count at skip [] more is agree = sym (all_above framer later end count at skip more (omega (arith, is)))
longer framer asked later end count at (suc skip) (b ∷ rest) more is agree = longer framer asked later end count (suc at) skip rest more (omega (arith, is)) agree
longer framer asked later end count at zero (b ∷ rest) more is agree =
    let same : later at count ≡ asked at count = agree at count (omega (arith, is)) in
    let first : IsKept end at (first_of framer (asked at count) (b ∷ rest)) (first_of framer (later at count) ((b ∷ rest) ++ more)) =
    subst (λ (a : Bool). IsKept end at (first_of framer (asked at count) (b ∷ rest)) (first_of framer a ((b ∷ rest) ++ more))) (sym same)
    (kept framer (asked at count) end at (b ∷ rest) more is) in
    first_longer end at (first_of framer (asked at count) (b ∷ rest)) (first_of framer (later at count) ((b ∷ rest) ++ more))
    (λ (told : Told). messages framer asked (count + answers told) (suc at) (end_of told - 1 + passed (then_of told)) rest)
    (λ (told : Told). messages framer later (count + answers told) (suc at) (end_of told - 1 + passed (then_of told)) (rest ++ more))
    first
    (λ told. longer framer asked later end (count + answers told) (suc at) (end_of told - 1 + passed (then_of told)) rest more (omega (arith, is)) agree)
    (λ told high. all_above framer later end (count + answers told) (suc at) (end_of told - 1 + passed (then_of told)) (rest ++ more) (omega (arith, high)))

pub prefixes : PrefixLaw
prefixes framer asked later count start front more agree = longer framer asked later (start + length front) count start 0 front more refl agree

-- what is asked further on doesn't matter
pub same_front : (framer : Framer) (asked later : Asked) (count start : ℕ) (front : List ℕ) → AgreeBelow (start + length front) asked later
    → of_front framer later count start front ≡ of_front framer asked count start front
same_front framer asked later count start front agree =
    let grown : of_front framer later count start (front ++ []) ≡ of_front framer asked count start front ++ above (start + length front) (of_front framer later count start (front ++ [])) =
    prefixes framer asked later count start front [] agree in
    let whole : of_front framer later count start front ≡ of_front framer asked count start front ++ above (start + length front) (of_front framer later count start front) =
    subst (λ (bytes : List ℕ). of_front framer later count start bytes ≡ of_front framer asked count start front ++ above (start + length front) (of_front framer later count start bytes)) (append-nil front) grown in
    whole ∙ ap (λ (ms : List Placed). of_front framer asked count start front ++ ms) (all_below framer later (start + length front) count start 0 front (omega arith))
    ∙ append-nil (of_front framer asked count start front)

-- ---- one message

pub steps : (framer : Framer) (asked : Asked) (count at : ℕ) (bytes : List ℕ) (told : Told) → first_of framer (asked at count) bytes ≡ Some told
    → messages framer asked count at 0 bytes ≡ record { at = at; told = told } ∷ follow (then_of told)
    (messages framer asked (count + answers told) (at + (end_of told + passed (then_of told))) 0 (drop (end_of told + passed (then_of told)) bytes))
unfolding messages
steps framer asked count at [] told e = absurd (omega (arith, first_some framer (asked at count) [] told e, first_within framer (asked at count) [] told e))
steps framer asked count at (b ∷ rest) told e =
    let some : 0 < end_of told = first_some framer (asked at count) (b ∷ rest) told e in
    let skip : ℕ = end_of told - 1 + passed (then_of told) in
    let place : suc at + skip ≡ at + (end_of told + passed (then_of told)) = omega (arith, some) in
    let size : suc skip ≡ end_of told + passed (then_of told) = omega (arith, some) in
    ap (λ (o : Option Told). with_first at o (λ (t : Told). messages framer asked (count + answers t) (suc at) (end_of t - 1 + passed (then_of t)) rest)) e
    ∙ ap (λ (ms : List Placed). record { at = at; told = told } ∷ follow (then_of told) ms)
    (from_skip framer asked (count + answers told) (suc at) skip rest
    ∙ ap (λ (p : ℕ). messages framer asked (count + answers told) p 0 (drop skip rest)) place
    ∙ ap (λ (k : ℕ). messages framer asked (count + answers told) (at + (end_of told + passed (then_of told))) 0 (drop k (b ∷ rest))) size)

pub none_left : (framer : Framer) (asked : Asked) (count at : ℕ) (bytes : List ℕ) → first_of framer (asked at count) bytes ≡ None → messages framer asked count at 0 bytes ≡ []
unfolding messages
none_left framer asked count at [] e = refl
none_left framer asked count at (b ∷ rest) e =
    ap (λ (o : Option Told). with_first at o (λ (t : Told). messages framer asked (count + answers t) (suc at) (end_of t - 1 + passed (then_of t)) rest)) e

pub no_messages : (framer : Framer) (asked : Asked) (count at : ℕ) → messages framer asked count at 0 [] ≡ []
unfolding messages
no_messages framer asked count at = refl
