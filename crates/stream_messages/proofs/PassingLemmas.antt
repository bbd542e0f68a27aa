-- The messages of stretches, one behind the other.
use Rattle.std.proofs.Common.{◌≡◌, ℕ, zero, suc, ◌+◌, ◌≤◌, Bool, List, [], ◌∷◌, ◌++◌, length, slice_get, Some, refl, sym, ap, subst, ◌∙◌, arith, length-append}
use Rattle.std.specs.Prelude.{All}
use Rattle.std.proofs.lemmas.List.Elements.{All-append, All-weaker}
use Rattle.std.proofs.lemmas.Option.{none-some}
use Rattle.std.proofs.lemmas.List.{append-nil}
use Rattle.pk_base.specs.declared.stretch.Stretch.{Stretch}
use Rattle.stream_messages.specs.declared.framer.Framer.{Framer}
use Rattle.stream_messages.specs.declared.placed.Placed.{Placed}
use Rattle.stream_messages.specs.declared.cursor.Cursor.{Cursor}
use Rattle.stream_messages.specs.declared.cutting.Shown.{Shown}
use Rattle.stream_messages.specs.Messages.{Asked, of_front, AgreeBelow, answered, of_stretches, AllFrom}
use Rattle.stream_messages.specs.Cursors.{begun, answers_before, counted, CountsFor, IsBehind, IsBehindAll, AsksBetween, AsksFrom, IsCut, IsWhole, IsWholeInOne, IsQuiet, AddsFew, bytes_in}
use Rattle.stream_messages.proofs.MessageLemmas.{all_above}
use Rattle.stream_messages.proofs.StretchLemmas.{of_stretches-append, answered-append}
use Rattle.stream_messages.proofs.CursorLemmas.{laws_of_cursors}

-- stretches that were cut, with what they showed and the cursor behind them
pub record IsPassed (framer : Framer) (heads : List Bool) (first c : Cursor) (ss : List Stretch) (ms : List Placed) : Type 0 where
  pub messages : (asked : Asked) (number from : ℕ) → CountsFor (answers_before first) number → AsksFrom from heads asked → AllFrom from ss → ms ≡ of_stretches framer asked number ss
  pub counts : (asked : Asked) (number from : ℕ) → CountsFor (answers_before first) number → AsksFrom from heads asked → AllFrom from ss
      → CountsFor (answers_before c) (answered number (of_stretches framer asked number ss))
  pub cursor : (asked : Asked) (number from : ℕ) → CountsFor (answers_before first) number → AsksFrom from heads asked → AllFrom from ss → IsBehindAll framer asked number first ss c

pub passed_first : (framer : Framer) (heads : List Bool) (c : Cursor) → IsPassed framer heads c c [] []
passed_first framer heads c = record { messages = λ asked number from counts asks all. refl; counts = λ asked number from counts asks all. counts; cursor = λ asked number from counts asks all. refl }

-- a stretch that is cut by itself
pub record IsOne (framer : Framer) (asked : Asked) (count : ℕ) (s : Stretch) (shown : Shown) : Type 0 where
  pub messages : shown.messages ≡ of_front framer asked count s.start s.bytes
  pub cursor : IsBehind framer asked count s.start shown.cursor s.bytes

abbrev pub CutsAll : Framer → List Bool → ℕ → Cursor → List ℕ → Shown → Type 0
CutsAll framer heads start c front shown =
    (asked later : Asked) (count : ℕ) (old new : List ℕ) → front ≡ old ++ new → AgreeBelow (start + length old) asked later
    → AsksBetween (start + length old) (start + length front) heads later → IsBehind framer asked count start c old → IsCut framer later count start old front shown

pub one_cut : (framer : Framer) (heads : List Bool) (number count : ℕ) (s : Stretch) (shown : Shown) → CutsAll framer heads s.start (begun number) s.bytes shown → CountsFor number count
    → (asked : Asked) (from : ℕ) → AsksFrom from heads asked → from ≤ s.start → IsOne framer asked count s shown
one_cut framer heads number count s shown cuts counts asked from asks low =
    let cut : IsCut framer asked count s.start [] s.bytes shown =
    cuts asked asked count [] s.bytes refl (λ at n below. refl) (λ at n above below. asks at n (omega (arith, low, above))) (laws_of_cursors.begins framer asked number count s.start counts) in
    record {
      messages = cut.messages ∙ all_above framer asked (s.start + 0) count s.start 0 s.bytes (omega arith);
      cursor = cut.cursor;
    }

from_before : (from : ℕ) (ss : List Stretch) (s : Stretch) → AllFrom from (ss ++ s ∷ []) → AllFrom from ss × (from ≤ s.start)
from_before from [] s all = (tt, all.0)
from_before from (t ∷ ss) s all = let rest = from_before from ss s all.1 in ((all.0, rest.0), rest.1)

behind_push : (framer : Framer) (asked : Asked) (count : ℕ) (first new : Cursor) (ss : List Stretch) (s : Stretch)
    → IsBehind framer asked (answered count (of_stretches framer asked count ss)) s.start new s.bytes → IsBehindAll framer asked count first (ss ++ s ∷ []) new
behind_push framer asked count first new [] s is = is
behind_push framer asked count first new (t ∷ []) s is =
    subst (λ (n : ℕ). IsBehind framer asked n s.start new s.bytes) (ap (answered count) (append-nil (of_front framer asked count t.start t.bytes))) is
behind_push framer asked count first new (t ∷ next ∷ ss) s is =
    let ms : List Placed = of_front framer asked count t.start t.bytes in
    behind_push framer asked (answered count ms) first new (next ∷ ss) s
    (subst (λ (n : ℕ). IsBehind framer asked n s.start new s.bytes) (answered-append count ms (of_stretches framer asked (answered count ms) (next ∷ ss))) is)

pub passed_more : (framer : Framer) (heads : List Bool) (first c : Cursor) (ss : List Stretch) (ms : List Placed) (s : Stretch) (shown : Shown) → IsPassed framer heads first c ss ms
    → CutsAll framer heads s.start (begun (answers_before c)) s.bytes shown → IsPassed framer heads first shown.cursor (ss ++ s ∷ []) (ms ++ shown.messages)
passed_more framer heads first c ss ms s shown passed cuts = record {
  messages = λ asked number from counts asks all.
      let split = from_before from ss s all in
      let one = at_count asked number from counts asks all in
      let here : shown.messages ≡ of_stretches framer asked (before asked number) (s ∷ []) = one.messages ∙ sym (append-nil (of_front framer asked (before asked number) s.start s.bytes)) in
      ap (λ (xs : List Placed). xs ++ shown.messages) (passed.messages asked number from counts asks split.0)
      ∙ ap (λ (xs : List Placed). of_stretches framer asked number ss ++ xs) here
      ∙ sym (of_stretches-append framer asked number ss (s ∷ []));
  counts = λ asked number from counts asks all.
      subst (CountsFor (answers_before shown.cursor)) (
      sym (
      ap (answered number) (
      of_stretches-append framer asked number ss (s ∷ [])
      ∙ ap (λ (xs : List Placed). of_stretches framer asked number ss ++ xs) (append-nil (of_front framer asked (before asked number) s.start s.bytes))
      )
      ∙ answered-append number (of_stretches framer asked number ss) (of_front framer asked (before asked number) s.start s.bytes)
      )
      ) (at_count asked number from counts asks all).cursor.counts;
  cursor = λ asked number from counts asks all. behind_push framer asked number first shown.cursor ss s (at_count asked number from counts asks all).cursor;
}
  where
    before : Asked → ℕ → ℕ
    before asked number = answered number (of_stretches framer asked number ss)

    at_count : (asked : Asked) (number from : ℕ) → CountsFor (answers_before first) number → AsksFrom from heads asked → AllFrom from (ss ++ s ∷ [])
        → IsOne framer asked (before asked number) s shown
    at_count asked number from counts asks all =
        let split = from_before from ss s all in
        one_cut framer heads (answers_before c) (before asked number) s shown cuts (passed.counts asked number from counts asks split.0) asked from asks split.1

-- ---- the stretch behind them

-- the answers behind stretches that were cut
counts_behind : (framer : Framer) (asked : Asked) (count : ℕ) (first new : Cursor) (ss : List Stretch) → CountsFor (answers_before first) count → IsBehindAll framer asked count first ss new
    → CountsFor (answers_before new) (answered count (of_stretches framer asked count ss))
counts_behind framer asked count first new [] counts same = ap (λ (c : Cursor). counted (answers_before c)) same ∙ counts
counts_behind framer asked count first new (s ∷ ss) counts behind = counts_from framer asked count first new s ss behind
  where
    counts_from : (framer : Framer) (asked : Asked) (count : ℕ) (first new : Cursor) (s : Stretch) (ss : List Stretch) → IsBehindAll framer asked count first (s ∷ ss) new
        → CountsFor (answers_before new) (answered count (of_stretches framer asked count (s ∷ ss)))
    counts_from framer asked count first new s [] behind =
        subst (CountsFor (answers_before new)) (ap (answered count) (sym (append-nil (of_front framer asked count s.start s.bytes)))) behind.counts
    counts_from framer asked count first new s (next ∷ ss) behind =
        let ms : List Placed = of_front framer asked count s.start s.bytes in
        subst (CountsFor (answers_before new)) (sym (answered-append count ms (of_stretches framer asked (answered count ms) (next ∷ ss))))
        (counts_from framer asked (answered count ms) first new next ss behind)

abbrev pub CutsStretches : Framer → List Bool → Cursor → List Stretch → Shown → Type 0
CutsStretches framer heads first ss shown = (asked : Asked) (number from : ℕ) → CountsFor (answers_before first) number → AsksFrom from heads asked → AllFrom from ss
    → shown.messages ≡ of_stretches framer asked number ss

abbrev pub BehindStretches : Framer → List Bool → Cursor → List Stretch → Shown → Type 0
BehindStretches framer heads first ss shown = (asked : Asked) (number from : ℕ) → CountsFor (answers_before first) number → AsksFrom from heads asked → AllFrom from ss
    → IsBehindAll framer asked number first ss shown.cursor

pub passed_by : (framer : Framer) (heads : List Bool) (first : Cursor) (ss : List Stretch) (shown : Shown) → CutsStretches framer heads first ss shown → BehindStretches framer heads first ss shown
    → IsPassed framer heads first shown.cursor ss shown.messages
passed_by framer heads first ss shown cuts behind = record {
  messages = cuts;
  counts = λ asked number from counts asks all. counts_behind framer asked number first shown.cursor ss counts (behind asked number from counts asks all);
  cursor = behind;
}

pub newest_behind : (framer : Framer) (heads : List Bool) (first : Cursor) (ss : List Stretch) (before : Shown) (s : Stretch) (shown : Shown) → CutsStretches framer heads first ss before
    → BehindStretches framer heads first ss before → CutsAll framer heads s.start (begun (answers_before before.cursor)) s.bytes shown
    → (asked : Asked) (number from : ℕ) → CountsFor (answers_before first) number → AsksFrom from heads asked → AllFrom from (ss ++ s ∷ [])
    → IsBehind framer asked (answered number (of_stretches framer asked number ss)) s.start shown.cursor s.bytes
newest_behind framer heads first ss before s shown cuts behind all asked number from counts asks laid =
    let split = from_before from ss s laid in
    (one_cut framer heads (answers_before before.cursor) (answered number (of_stretches framer asked number ss)) s shown all
    (counts_behind framer asked number first before.cursor ss counts (behind asked number from counts asks split.0)) asked from asks split.1).cursor

-- ---- each has a byte of its own

bytes_push : (ss : List Stretch) (s : Stretch) → bytes_in (ss ++ s ∷ []) ≡ bytes_in ss + length s.bytes
bytes_push [] s = omega arith
bytes_push (t ∷ ss) s = omega (arith, bytes_push ss s)

-- a stretch that is cut from its first byte on
pub few_begun : (framer : Framer) (number : ℕ) (c : Cursor) (front : List ℕ) (ms : List Placed) → c ≡ begun number → AddsFew framer c front ms → length ms ≤ length front
few_begun framer number c front ms is few = few [] front refl (subst (λ (d : Cursor). IsQuiet framer d []) (sym is) (omega arith))

pub few_push : (ss : List Stretch) (s : Stretch) (ms more : List Placed) → length ms ≤ bytes_in ss → length more ≤ length s.bytes → length (ms ++ more) ≤ bytes_in (ss ++ s ∷ [])
few_push ss s ms more few here = omega (arith, few, here, length-append ms more, bytes_push ss s)

-- ---- messages that lie in one of stretches

last_there : (ss : List Stretch) (s : Stretch) → slice_get (ss ++ s ∷ []) (length ss) ≡ Some s
last_there [] s = refl
last_there (x ∷ ss) s = last_there ss s

still_there : (ss : List Stretch) (s t : Stretch) (i : ℕ) → slice_get ss i ≡ Some t → slice_get (ss ++ s ∷ []) i ≡ Some t
still_there [] s t i = λ e. absurd (none-some t e)
still_there (x ∷ ss) s t zero = λ e. e
still_there (x ∷ ss) s t (suc i) = λ e. still_there ss s t i e

pub whole_in : (framer : Framer) (ss : List Stretch) (i : ℕ) (s : Stretch) (ms : List Placed) → slice_get ss i ≡ Some s → All (IsWhole framer s.start s.bytes) ms → All (IsWholeInOne framer ss) ms
whole_in framer ss i s ms there whole = All-weaker (IsWhole framer s.start s.bytes) (IsWholeInOne framer ss) (λ m is. (i, s, there, is)) ms whole

pub whole_with : (framer : Framer) (ss : List Stretch) (s : Stretch) (ms ns : List Placed) → All (IsWholeInOne framer ss) ms → All (IsWhole framer s.start s.bytes) ns
    → All (IsWholeInOne framer (ss ++ s ∷ [])) (ms ++ ns)
whole_with framer ss s ms ns before last =
    All-append (IsWholeInOne framer (ss ++ s ∷ [])) ms ns
    (All-weaker (IsWholeInOne framer ss) (IsWholeInOne framer (ss ++ s ∷ [])) (λ m is. (is.0, is.1, still_there ss s is.1 is.0 is.2, is.3)) ms before)
    (whole_in framer (ss ++ s ∷ []) (length ss) s ns (last_there ss s) last)
