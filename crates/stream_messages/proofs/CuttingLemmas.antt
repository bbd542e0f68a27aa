-- The messages that are cut one behind the other, and the cursor behind them.
use Rattle.std.proofs.Common.{◌≡◌, ℕ, ◌+◌, ◌-◌, ◌<◌, ◌≤◌, inl, inr, Bool, true, false, List, [], ◌∷◌, ◌++◌, length, drop, get_or, refl, sym, ap, subst, ◌∙◌, arith, append_assoc, length-append, length-drop, Some, None}
use Rattle.std.specs.Prelude.{◌⊎◌, if◌then◌else◌, nat_lt, All}
use Rattle.std.proofs.lemmas.Bool.{cond-true, lt-ltb, ltb-true, cases_lt}
use Rattle.std.proofs.lemmas.List.Elements.{All-push}
use Rattle.std.proofs.lemmas.Option.{cond_some, none-some}
use Rattle.std.proofs.lemmas.List.{append-nil, drop-append-le, drop-drop, drop_all, append_cancel_left}
use Rattle.stream_messages.specs.declared.shape.Then.{Then}
use Rattle.stream_messages.specs.declared.shape.Then.TheVariants.{Follows, Opaque}
use Rattle.stream_messages.specs.declared.framer.Framer.{Framer}
use Rattle.stream_messages.specs.declared.told.Told.{Told}
use Rattle.stream_messages.specs.declared.placed.Placed.{Placed}
use Rattle.stream_messages.specs.declared.cursor.Cursor.{Cursor}
use Rattle.stream_messages.specs.declared.cursor.Mark.{Mark}
use Rattle.stream_messages.specs.declared.cursor.Next.{Next}
use Rattle.stream_messages.specs.declared.cursor.Next.TheVariants.{Never, Awaited, Begun}
use Rattle.stream_messages.specs.declared.cutting.Cut.{Cut}
use Rattle.stream_messages.specs.declared.cutting.Cut.TheVariants.{Whole, Rest}
use Rattle.stream_messages.specs.declared.cutting.Shown.{Shown}
use Rattle.stream_messages.specs.Tellings.{first_of, end_of, then_of, passed, answers}
use Rattle.stream_messages.specs.Messages.{Asked, follow, messages, of_front, end_at, above, AgreeBelow, answered}
use Rattle.stream_messages.specs.Cursors.{answers_before, counted, CountsFor, next_at, next_behind, mark_behind, cursor_behind, goes, from_cursor, KnowsNext, IsBehind, IsSoundNext, IsSound, IsQuietNext, IsQuiet, AddsFew, AsksBetween, IsCut, IsWhole, IsAskedOf, IsNext, IsRest, IsCutFrom, IsLook}
use Rattle.stream_messages.proofs.FirstLemmas.{first_some, first_within, first_stays, first_shrinks}
use Rattle.stream_messages.proofs.MessageLemmas.{all_below, steps, none_left, no_messages, same_front}
use Rattle.stream_messages.proofs.StretchLemmas.{above-append, answered-append}
use Rattle.stream_messages.specs.Moved.{bytes_from, IsBehindFrom, IsCutOn}
use Rattle.stream_messages.proofs.CursorLemmas.{behind_same, known_same, sound_now}

-- what a cursor says by its mark and whether a message may come
abbrev from_mark : Framer → Asked → ℕ → ℕ → Bool → Mark → List ℕ → List Placed
from_mark framer asked start number may mark front = if may then of_front framer asked number (start + next_at mark) (drop (next_at mark) front) else []

-- bytes that have a message of their own have a byte
pub there_are : (framer : Framer) (asked : Bool) (at : ℕ) (front : List ℕ) (told : Told) → first_of framer asked (drop at front) ≡ Some told → at + end_of told ≤ length front
there_are framer asked at front told e =
    let within : end_of told ≤ length (drop at front) = first_within framer asked (drop at front) told e in
    let some : 0 < end_of told = first_some framer asked (drop at front) told e in
    omega (arith, within, some, length-drop at front)

-- where the next message begins, if a byte of it is there
pub place_is : (at len place : ℕ) → (if nat_lt at len then Some at else None) ≡ Some place → (at ≡ place) × (at < len)
place_is at len place e = let says = cond_some (nat_lt at len) at place e in (says.1, ltb-true at len says.0)

pub place_none : (at len : ℕ) → (if nat_lt at len then Some at else None) ≡ None → len ≤ at
place_none at len e = elim (cases_lt at len) [
  | inl within ↦ absurd (none-some at (sym e ∙ cond-true _ _ _ (lt-ltb at len within)))
  | inr past ↦ past
]

-- ---- the messages so far

-- from a place on where some messages are known, and all are what some bytes make of more behind them
pub record IsCuttingOf (framer : Framer) (asked : Asked) (base : List Placed) (all : Asked → List ℕ → List Placed) (count start : ℕ) (old front : List ℕ) (c : Cursor) (ms : List Placed) : Type 0 where
  -- the answers up to the cursor
  pub number : ℕ
  pub number_is : number ≡ answered count (base ++ ms)
  pub rest_is : (later : Asked) (more : List ℕ) → AgreeBelow (start + length front) asked later
      → all later more ≡ (base ++ ms) ++ from_cursor framer later start number c (front ++ more)
  pub counts : CountsFor (answers_before c) number
  pub known : KnowsNext framer (asked (start + next_at c.mark) number) (next_at c.mark) old c.next
  pub new : above (start + length old) ms ≡ ms
  pub quiet : from_cursor framer asked start number c old ≡ []

-- of a whole stretch
abbrev pub IsCutting : Framer → Asked → ℕ → ℕ → List ℕ → List ℕ → Cursor → List Placed → Type 0
IsCutting framer asked count start old front c ms =
    IsCuttingOf framer asked (of_front framer asked count start old) (λ later more. of_front framer later count start (front ++ more)) count start old front c ms

nothing_more : (xs ys : List Placed) → xs ≡ xs ++ ys → ys ≡ []
nothing_more xs ys e = append_cancel_left xs ys [] (sym e ∙ sym (append-nil xs))

behind_quiet : (framer : Framer) (asked : Asked) (count start : ℕ) (c : Cursor) (front : List ℕ) → IsBehind framer asked count start c front
    → from_cursor framer asked start (answered count (of_front framer asked count start front)) c front ≡ []
behind_quiet framer asked count start c front is =
    let number : ℕ = answered count (of_front framer asked count start front) in
    let same : of_front framer asked count start (front ++ []) ≡ of_front framer asked count start front ++ from_cursor framer asked start number c (front ++ []) = is.behind asked [] (λ at n low. refl) in
    nothing_more (of_front framer asked count start front) (from_cursor framer asked start number c front)
    (subst (λ (bytes : List ℕ). of_front framer asked count start bytes ≡ of_front framer asked count start front ++ from_cursor framer asked start number c bytes) (append-nil front) same)

pub cutting_first : (framer : Framer) (asked later : Asked) (count start : ℕ) (old new front : List ℕ) (c : Cursor) → front ≡ old ++ new → AgreeBelow (start + length old) asked later
    → IsBehind framer asked count start c old → IsCutting framer later count start old front c []
cutting_first framer asked later count start old new front c is agree behind =
    subst (λ (all : List ℕ). IsCutting framer later count start old all c []) (sym is) (record {
      number = answered count base;
      number_is = ap (answered count) (sym (append-nil base));
      rest_is = λ newer more also.
          ap (of_front framer newer count start) (append_assoc old new more)
          ∙ here.behind newer (new ++ more) (λ at n low. also at n (omega (arith, low, length-append old new)))
          ∙ ap (λ (ms : List Placed). ms ++ from_cursor framer newer start (answered count base) c (old ++ (new ++ more))) (sym (append-nil base))
          ∙ ap (λ (all : List ℕ). (base ++ []) ++ from_cursor framer newer start (answered count base) c all) (sym (append_assoc old new more));
      counts = here.counts;
      known = here.known;
      new = refl;
      quiet = behind_quiet framer later count start c old here;
    })
  where
    here : IsBehind framer later count start c old
    here = behind_same framer asked later count start c old agree behind

    base : List Placed
    base = of_front framer later count start old

-- what is found is asked of the right request
pub asks_right : (framer : Framer) (asked : Asked) (base : List Placed) (all : Asked → List ℕ → List Placed) (count start : ℕ) (old new front : List ℕ) (c : Cursor) (ms : List Placed) (heads : List Bool) → front ≡ old ++ new
    → AsksBetween (start + length old) (start + length front) heads asked → (cutting : IsCuttingOf framer asked base all count start old front c ms)
    → IsAskedOf framer (asked (start + next_at c.mark) cutting.number) heads cutting.number c.next (drop (next_at c.mark) front)
asks_right framer asked base all count start old new front c ms heads is asks cutting = by c.next cutting.known
  where
    by : (next : Next) → KnowsNext framer (asked (start + next_at c.mark) cutting.number) (next_at c.mark) old next
        → IsAskedOf framer (asked (start + next_at c.mark) cutting.number) heads cutting.number next (drop (next_at c.mark) front)
    by Never known = tt
    by Awaited known = λ some. asks (start + next_at c.mark) cutting.number (omega (arith, known)) (omega (arith, some, length-drop (next_at c.mark) front))
    by (Begun started) known = known.2

-- a message that is found ends in the new bytes
ends_late : (framer : Framer) (asked : Asked) (answers start at : ℕ) (old new : List ℕ) (told : Told) → of_front framer asked answers (start + at) (drop at old) ≡ []
    → first_of framer (asked (start + at) answers) (drop at (old ++ new)) ≡ Some told → length old < at + end_of told
ends_late framer asked answers start at old new told quiet e = elim (cases_lt (length old) (at + end_of told)) [
  | inl late ↦ late
  | inr early ↦
      let within : at ≤ length old = omega (arith, early) in
      let split : drop at (old ++ new) ≡ drop at old ++ new = drop-append-le at old new within in
      let there : first_of framer (asked (start + at) answers) (drop at old ++ new) ≡ Some told = ap (first_of framer (asked (start + at) answers)) (sym split) ∙ e in
      let was : first_of framer (asked (start + at) answers) (drop at old) ≡ Some told =
      first_shrinks framer (asked (start + at) answers) (drop at old) new told there (omega (arith, early, length-drop at old)) in
      absurd (some_none _ _ (sym (steps framer asked answers (start + at) (drop at old) told was) ∙ quiet))
]
  where
    some_none : (m : Placed) (ms : List Placed) → m ∷ ms ≡ [] → ⊥
    some_none m ms e = absurd (cc)

-- behind a message
follows : (framer : Framer) (asked : Asked) (start number : ℕ) (mark : Mark) (told : Told) (next : Then) (bytes : List ℕ)
    → follow next (messages framer asked (number + answers told) ((start + next_at mark) + (end_of told + passed next)) 0 (drop (end_of told + passed next) (drop (next_at mark) bytes)))
    ≡ (if goes (next_behind next) then of_front framer asked (number + answers told) (start + ((next_at mark + end_of told) + passed next)) (drop ((next_at mark + end_of told) + passed next) bytes) else [])
follows framer asked start number mark told Opaque bytes = refl
follows framer asked start number mark told (Follows n) bytes =
    let place : (start + next_at mark) + (end_of told + n) ≡ start + ((next_at mark + end_of told) + n) = omega arith in
    let size : next_at mark + (end_of told + n) ≡ (next_at mark + end_of told) + n = omega arith in
    ap (λ (p : ℕ). messages framer asked (number + answers told) p 0 (drop (end_of told + n) (drop (next_at mark) bytes))) place
    ∙ ap (messages framer asked (number + answers told) (start + ((next_at mark + end_of told) + n)) 0) (drop-drop (end_of told + n) (next_at mark) bytes ∙ ap (λ (k : ℕ). drop k bytes) size)

-- the message that comes next, and those behind it
one_more : (framer : Framer) (asked : Asked) (start number : ℕ) (c : Cursor) (told : Told) (bytes : List ℕ) → goes c.next ≡ true
    → first_of framer (asked (start + next_at c.mark) number) (drop (next_at c.mark) bytes) ≡ Some told
    → from_cursor framer asked start number c bytes ≡ record { at = start + next_at c.mark; told = told } ∷ from_cursor framer asked start (number + answers told) (cursor_behind c.mark told) bytes
one_more framer asked start number c told bytes may e =
    cond-true _ _ _ may
    ∙ steps framer asked number (start + next_at c.mark) (drop (next_at c.mark) bytes) told e
    ∙ ap (λ (ms : List Placed). record { at = start + next_at c.mark; told = told } ∷ ms) (follows framer asked start number c.mark told (then_of told) bytes)

-- a count that is raised stands for the raised number
count_more : (count number more : ℕ) → CountsFor count number → CountsFor (counted (count + more)) (number + more)
count_more count number more is = omega (arith, is)

pushed : (base ms : List Placed) (m : Placed) (rest : List Placed) → (base ++ ms) ++ m ∷ rest ≡ (base ++ (ms ++ m ∷ [])) ++ rest
pushed base ms m rest =
    append_assoc base ms (m ∷ rest) ∙ ap (λ (xs : List Placed). base ++ xs) (sym (append_assoc ms (m ∷ []) rest)) ∙ sym (append_assoc base (ms ++ m ∷ []) rest)

knows_behind : (framer : Framer) (asked : Bool) (at : ℕ) (front : List ℕ) (next : Then) → length front ≤ at → KnowsNext framer asked at front (next_behind next)
knows_behind framer asked at front (Follows n) past = past
knows_behind framer asked at front Opaque past = tt

if_none : (t : Bool) (xs : List Placed) → xs ≡ [] → (if t then xs else []) ≡ []
if_none true xs e = e
if_none false xs e = refl

quiet_past : (framer : Framer) (asked : Asked) (start number : ℕ) (c : Cursor) (front : List ℕ) → length front ≤ next_at c.mark → from_cursor framer asked start number c front ≡ []
quiet_past framer asked start number c front past =
    if_none (goes c.next) _ (ap (of_front framer asked number (start + next_at c.mark)) (drop_all (next_at c.mark) front past) ∙ no_messages framer asked number (start + next_at c.mark))

found_longer : (framer : Framer) (asked later : Asked) (start answers at : ℕ) (front more : List ℕ) (told : Told) → AgreeBelow (start + length front) asked later
    → first_of framer (asked (start + at) answers) (drop at front) ≡ Some told → first_of framer (later (start + at) answers) (drop at (front ++ more)) ≡ Some told
found_longer framer asked later start answers at front more told agree e =
    let there : at + end_of told ≤ length front = there_are framer (asked (start + at) answers) at front told e in
    let some : 0 < end_of told = first_some framer (asked (start + at) answers) (drop at front) told e in
    let same : later (start + at) answers ≡ asked (start + at) answers = agree (start + at) answers (omega (arith, there, some)) in
    ap (λ (a : Bool). first_of framer a (drop at (front ++ more))) same
    ∙ ap (first_of framer (asked (start + at) answers)) (drop-append-le at front more (omega (arith, there)))
    ∙ first_stays framer (asked (start + at) answers) (drop at front) more told e

cutting_step : (framer : Framer) (asked : Asked) (base : List Placed) (all : Asked → List ℕ → List Placed) (count start : ℕ) (old new front : List ℕ) (c : Cursor) (ms : List Placed) (told : Told) → front ≡ old ++ new
    → (cutting : IsCuttingOf framer asked base all count start old front c ms) → goes c.next ≡ true
    → first_of framer (asked (start + next_at c.mark) cutting.number) (drop (next_at c.mark) front) ≡ Some told
    → IsCuttingOf framer asked base all count start old front (cursor_behind c.mark told) (ms ++ record { at = start + next_at c.mark; told = told } ∷ [])
cutting_step framer asked base all count start old new front c ms told is cutting may e = record {
  number = number + answers told;
  number_is =
      ap (λ (n : ℕ). n + answers told) cutting.number_is
      ∙ sym (answered-append count (base ++ ms) (m ∷ []))
      ∙ ap (answered count) (append_assoc base ms (m ∷ []));
  rest_is = λ later more agree.
      cutting.rest_is later more agree
      ∙ ap (λ (xs : List Placed). (base ++ ms) ++ xs) (one_more framer later start number c told (front ++ more) may (found_longer framer asked later start number (next_at c.mark) front more told agree e))
      ∙ pushed base ms m (from_cursor framer later start (number + answers told) (cursor_behind c.mark told) (front ++ more));
  counts = count_more (answers_before c) number (answers told) cutting.counts;
  known = knows_behind framer _ _ old (then_of told) (omega (arith, late));
  new =
      above-append (start + length old) ms (m ∷ [])
      ∙ ap (λ (xs : List Placed). xs ++ above (start + length old) (m ∷ [])) cutting.new
      ∙ ap (λ (xs : List Placed). ms ++ xs) (cond-true _ _ _ (lt-ltb (start + length old) (end_at m) (omega (arith, late))));
  quiet = quiet_past framer asked start (number + answers told) (cursor_behind c.mark told) old (omega (arith, late));
}
  where
    number : ℕ
    number = cutting.number

    m : Placed
    m = record { at = start + next_at c.mark; told = told }

    was : of_front framer asked number (start + next_at c.mark) (drop (next_at c.mark) old) ≡ []
    was = sym (cond-true _ _ _ may) ∙ cutting.quiet

    late : length old < next_at c.mark + end_of told
    late = ends_late framer asked number start (next_at c.mark) old new told was
        (subst (λ (bytes : List ℕ). first_of framer (asked (start + next_at c.mark) number) (drop (next_at c.mark) bytes) ≡ Some told) is e)

pub cutting_more : (framer : Framer) (asked : Asked) (base : List Placed) (all : Asked → List ℕ → List Placed) (count start : ℕ) (old new front : List ℕ) (c : Cursor) (ms : List Placed) (m : Placed) (behind : Cursor) → front ≡ old ++ new
    → (cutting : IsCuttingOf framer asked base all count start old front c ms) → goes c.next ≡ true → IsNext framer (asked (start + next_at c.mark) cutting.number) start front c.mark m behind
    → IsCuttingOf framer asked base all count start old front behind (ms ++ m ∷ [])
cutting_more framer asked base all count start old new front c ms m behind is cutting may next =
    let placed : record { at = start + next_at c.mark; told = m.told } ≡ m = λ i. record { at = sym next.at i; told = m.told } in
    let here : IsCuttingOf framer asked base all count start old front (cursor_behind c.mark m.told) (ms ++ record { at = start + next_at c.mark; told = m.told } ∷ []) =
    cutting_step framer asked base all count start old new front c ms m.told is cutting may next.first in
    let moved : IsCuttingOf framer asked base all count start old front behind (ms ++ record { at = start + next_at c.mark; told = m.told } ∷ []) =
    subst (λ (d : Cursor). IsCuttingOf framer asked base all count start old front d (ms ++ record { at = start + next_at c.mark; told = m.told } ∷ [])) (sym next.cursor) here in
    subst (λ (x : Placed). IsCuttingOf framer asked base all count start old front behind (ms ++ x ∷ [])) placed moved

-- ---- nothing more

rest_quiet : (framer : Framer) (asked : Asked) (start number : ℕ) (front : List ℕ) (c new : Cursor) → IsRest framer (asked (start + next_at c.mark) number) front c new
    → from_cursor framer asked start number c front ≡ []
rest_quiet framer asked start number front c new rest = by (goes c.next) refl
  where
    by : (t : Bool) → goes c.next ≡ t → (if t then of_front framer asked number (start + next_at c.mark) (drop (next_at c.mark) front) else []) ≡ []
    by true may = none_left framer asked number (start + next_at c.mark) (drop (next_at c.mark) front) (rest.none may)
    by false may = refl

-- all messages are cut
pub record AreCut (framer : Framer) (asked : Asked) (base : List Placed) (all : Asked → List ℕ → List Placed) (count start : ℕ) (old front : List ℕ) (shown : Shown) : Type 0 where
  pub now : all asked [] ≡ base ++ shown.messages
  pub rest_is : (later : Asked) (more : List ℕ) → AgreeBelow (start + length front) asked later
      → all later more ≡ all asked [] ++ from_cursor framer later start (answered count (all asked [])) shown.cursor (front ++ more)
  pub counts : CountsFor (answers_before shown.cursor) (answered count (all asked []))
  pub known : KnowsNext framer (asked (start + next_at shown.cursor.mark) (answered count (all asked []))) (next_at shown.cursor.mark) front shown.cursor.next
  pub new : above (start + length old) shown.messages ≡ shown.messages

pub cutting_last : (framer : Framer) (asked : Asked) (base : List Placed) (all : Asked → List ℕ → List Placed) (count start : ℕ) (old front : List ℕ) (c : Cursor) (ms : List Placed) (shown : Shown)
    → (cutting : IsCuttingOf framer asked base all count start old front c ms) → IsRest framer (asked (start + next_at c.mark) cutting.number) front c shown.cursor → shown.messages ≡ ms
    → AreCut framer asked base all count start old front shown
cutting_last framer asked base all count start old front c ms shown cutting rest is = record {
  now = now ∙ ap (λ (xs : List Placed). base ++ xs) (sym is);
  rest_is = λ later more agree.
      cutting.rest_is later more agree
      ∙ ap (λ (xs : List Placed). xs ++ from_cursor framer later start cutting.number c (front ++ more)) (sym now)
      ∙ ap (λ (xs : List Placed). all asked [] ++ xs) (
      sym (ap (λ (k : Mark). from_mark framer later start cutting.number (goes shown.cursor.next) k (front ++ more)) rest.mark ∙ ap (λ (t : Bool). from_mark framer later start cutting.number t c.mark (front ++ more)) rest.goes_is)
      ∙ ap (λ (n : ℕ). from_cursor framer later start n shown.cursor (front ++ more)) number_is
      );
  counts = subst (CountsFor (answers_before shown.cursor)) number_is (ap (λ (k : Mark). counted k.answers) rest.mark ∙ cutting.counts);
  known = subst (λ (n : ℕ). KnowsNext framer (asked (start + next_at shown.cursor.mark) n) (next_at shown.cursor.mark) front shown.cursor.next) number_is
      (subst (λ (k : Mark). KnowsNext framer (asked (start + next_at k) cutting.number) (next_at k) front shown.cursor.next) (sym rest.mark) rest.known);
  new = ap (above (start + length old)) is ∙ cutting.new ∙ sym is;
}
  where
    now : all asked [] ≡ base ++ ms
    now =
        cutting.rest_is asked [] (λ at n low. refl)
        ∙ ap (λ (xs : List Placed). (base ++ ms) ++ xs) (ap (from_cursor framer asked start cutting.number c) (append-nil front) ∙ rest_quiet framer asked start cutting.number front c shown.cursor rest)
        ∙ append-nil (base ++ ms)

    number_is : cutting.number ≡ answered count (all asked [])
    number_is = cutting.number_is ∙ ap (answered count) (sym now)

-- of a whole stretch
whole_cut : (framer : Framer) (asked : Asked) (count start : ℕ) (old front : List ℕ) (shown : Shown)
    → AreCut framer asked (of_front framer asked count start old) (λ later more. of_front framer later count start (front ++ more)) count start old front shown
    → IsCut framer asked count start old front shown
whole_cut framer asked count start old front shown cut =
    let base : List Placed = of_front framer asked count start old in
    let all : of_front framer asked count start (front ++ []) ≡ of_front framer asked count start front = ap (of_front framer asked count start) (append-nil front) in
    record {
      messages = sym (
          ap (above (start + length old)) (sym all ∙ cut.now)
          ∙ above-append (start + length old) base shown.messages
          ∙ ap (λ (xs : List Placed). xs ++ above (start + length old) shown.messages) (all_below framer asked (start + length old) count start 0 old (omega arith))
          ∙ cut.new
          );
      cursor = record {
        behind = λ later more agree.
            cut.rest_is later more agree
            ∙ ap (λ (xs : List Placed). xs ++ from_cursor framer later start (answered count xs) shown.cursor (front ++ more)) all;
        counts = subst (CountsFor (answers_before shown.cursor)) (ap (answered count) all) cut.counts;
        known = subst (λ (n : ℕ). KnowsNext framer (asked (start + next_at shown.cursor.mark) n) (next_at shown.cursor.mark) front shown.cursor.next) (ap (answered count) all) cut.known;
      };
    }

-- ---- from a later position of the stretch on

-- a place of it, and how many bytes are left from there on
from_place : (first start : ℕ) (bytes : List ℕ) → first ≤ start → start ≤ first + length bytes → start + length (bytes_from first start bytes) ≡ first + length bytes
from_place first start bytes low high = omega (arith, low, high, length-drop (start - first) bytes)

from_append : (first start : ℕ) (bytes more : List ℕ) → first ≤ start → start ≤ first + length bytes → bytes_from first start (bytes ++ more) ≡ bytes_from first start bytes ++ more
from_append first start bytes more low high = drop-append-le (start - first) bytes more (omega (arith, low, high))

pub behind_from_same : (framer : Framer) (asked later : Asked) (count first start : ℕ) (c : Cursor) (front : List ℕ) → AgreeBelow (first + length front) asked later
    → IsBehindFrom framer asked count first start c front → IsBehindFrom framer later count first start c front
behind_from_same framer asked later count first start c front agree is =
    let same : of_front framer later count first front ≡ of_front framer asked count first front = same_front framer asked later count first front agree in
    let size : start + length (bytes_from first start front) ≡ first + length front = from_place first start front is.low is.high in
    record {
      low = is.low;
      high = is.high;
      behind = λ newer more also.
          is.behind newer more (λ at n low. also at n low ∙ agree at n low)
          ∙ ap (λ (ms : List Placed). ms ++ from_cursor framer newer start (answered count ms) c (bytes_from first start (front ++ more))) (sym same);
      counts = subst (CountsFor (answers_before c)) (ap (answered count) (sym same)) is.counts;
      known = subst (λ (n : ℕ). KnowsNext framer (later (start + next_at c.mark) n) (next_at c.mark) (bytes_from first start front) c.next) (ap (answered count) (sym same))
          (known_same framer asked later start (answered count (of_front framer asked count first front)) (next_at c.mark) (bytes_from first start front) c.next
          (subst (λ (n : ℕ). AgreeBelow n asked later) (sym size) agree) is.known);
    }

from_quiet : (framer : Framer) (asked : Asked) (count first start : ℕ) (c : Cursor) (front : List ℕ) → IsBehindFrom framer asked count first start c front
    → from_cursor framer asked start (answered count (of_front framer asked count first front)) c (bytes_from first start front) ≡ []
from_quiet framer asked count first start c front is =
    let number : ℕ = answered count (of_front framer asked count first front) in
    let same : of_front framer asked count first (front ++ []) ≡ of_front framer asked count first front ++ from_cursor framer asked start number c (bytes_from first start (front ++ [])) =
    is.behind asked [] (λ at n low. refl) in
    nothing_more (of_front framer asked count first front) (from_cursor framer asked start number c (bytes_from first start front))
    (subst (λ (bytes : List ℕ). of_front framer asked count first bytes ≡ of_front framer asked count first front ++ from_cursor framer asked start number c (bytes_from first start bytes)) (append-nil front) same)

-- all messages of the stretch
abbrev all_of : Framer → ℕ → ℕ → List ℕ → Asked → List ℕ → List Placed
all_of framer count first whole later more = of_front framer later count first (whole ++ more)

from_first : (framer : Framer) (asked later : Asked) (count first start : ℕ) (old new front : List ℕ) (c : Cursor) → front ≡ bytes_from first start (old ++ new) → AgreeBelow (first + length old) asked later
    → IsBehindFrom framer asked count first start c old
    → IsCuttingOf framer later (of_front framer later count first old) (all_of framer count first (old ++ new)) count start (bytes_from first start old) front c []
from_first framer asked later count first start old new front c is agree behind = record {
  number = answered count base;
  number_is = ap (answered count) (sym (append-nil base));
  rest_is = λ newer more also.
      ap (of_front framer newer count first) (append_assoc old new more)
      ∙ here.behind newer (new ++ more) (λ at n low. also at n (omega (arith, low, size, split_size)))
      ∙ ap (λ (ms : List Placed). ms ++ from_cursor framer newer start (answered count base) c (bytes_from first start (old ++ (new ++ more)))) (sym (append-nil base))
      ∙ ap (λ (bytes : List ℕ). (base ++ []) ++ from_cursor framer newer start (answered count base) c bytes) (left more);
  counts = here.counts;
  known = here.known;
  new = refl;
  quiet = from_quiet framer later count first start c old here;
}
  where
    here : IsBehindFrom framer later count first start c old
    here = behind_from_same framer asked later count first start c old agree behind

    base : List Placed
    base = of_front framer later count first old

    split : front ≡ bytes_from first start old ++ new
    split = is ∙ from_append first start old new behind.low behind.high

    split_size : length front ≡ length (bytes_from first start old) + length new
    split_size = ap length split ∙ length-append (bytes_from first start old) new

    size : start + length (bytes_from first start old) ≡ first + length old
    size = from_place first start old behind.low behind.high

    left : (more : List ℕ) → bytes_from first start (old ++ (new ++ more)) ≡ front ++ more
    left more =
        from_append first start old (new ++ more) behind.low behind.high ∙ sym (append_assoc (bytes_from first start old) new more) ∙ ap (λ (bytes : List ℕ). bytes ++ more) (sym split)

from_cut : (framer : Framer) (asked : Asked) (count first start : ℕ) (old new front : List ℕ) (shown : Shown) → first ≤ start → start ≤ first + length old → front ≡ bytes_from first start (old ++ new)
    → AreCut framer asked (of_front framer asked count first old) (all_of framer count first (old ++ new)) count start (bytes_from first start old) front shown
    → IsCutOn framer asked count first start old (old ++ new) shown
from_cut framer asked count first start old new front shown low high is cut =
    let whole : List ℕ = old ++ new in
    let base : List Placed = of_front framer asked count first old in
    let longer : length whole ≡ length old + length new = length-append old new in
    let high_all : start ≤ first + length whole = omega (arith, high, longer) in
    let size : start + length (bytes_from first start old) ≡ first + length old = from_place first start old low high in
    let size_all : start + length front ≡ first + length whole = ap (λ (bytes : List ℕ). start + length bytes) is ∙ from_place first start whole low high_all in
    let all : of_front framer asked count first (whole ++ []) ≡ of_front framer asked count first whole = ap (of_front framer asked count first) (append-nil whole) in
    let later_is : (more : List ℕ) → front ++ more ≡ bytes_from first start (whole ++ more) = λ more. ap (λ (bytes : List ℕ). bytes ++ more) is ∙ sym (from_append first start whole more low high_all) in
    record {
      messages = sym (
          ap (above (first + length old)) (sym all ∙ cut.now)
          ∙ above-append (first + length old) base shown.messages
          ∙ ap (λ (xs : List Placed). xs ++ above (first + length old) shown.messages) (all_below framer asked (first + length old) count first 0 old (omega arith))
          ∙ ap (λ (n : ℕ). above n shown.messages) (sym size)
          ∙ cut.new
          );
      cursor = record {
        low = low;
        high = high_all;
        behind = λ later more agree.
            cut.rest_is later more (subst (λ (n : ℕ). AgreeBelow n asked later) (sym size_all) agree)
            ∙ ap (λ (xs : List Placed). xs ++ from_cursor framer later start (answered count xs) shown.cursor (front ++ more)) all
            ∙ ap (λ (bytes : List ℕ). of_front framer asked count first whole ++ from_cursor framer later start (answered count (of_front framer asked count first whole)) shown.cursor bytes) (later_is more);
        counts = subst (CountsFor (answers_before shown.cursor)) (ap (answered count) all) cut.counts;
        known = subst (λ (bytes : List ℕ). KnowsNext framer (asked (start + next_at shown.cursor.mark) (answered count (of_front framer asked count first whole))) (next_at shown.cursor.mark) bytes shown.cursor.next) is
            (subst (λ (n : ℕ). KnowsNext framer (asked (start + next_at shown.cursor.mark) n) (next_at shown.cursor.mark) front shown.cursor.next) (ap (answered count) all) cut.known);
      };
    }

-- ---- whatever the cursor

-- some request is the one that a sound cursor is asked of
pub some_asked : (framer : Framer) (heads : List Bool) (count at : ℕ) (front : List ℕ) (next : Next) → IsSoundNext framer at front next
    → (asked : Bool) × IsAskedOf framer asked heads count next (drop at front)
some_asked framer heads count at front Never sound = (false, tt)
some_asked framer heads count at front Awaited sound = (get_or heads count false, λ some. refl)
some_asked framer heads count at front (Begun started) sound = (started.asked, refl)

pub next_whole : (framer : Framer) (asked : Bool) (start : ℕ) (front : List ℕ) (mark : Mark) (m : Placed) (c : Cursor) → IsNext framer asked start front mark m c → IsWhole framer start front m
next_whole framer asked start front mark m c next =
    let there : next_at mark + end_of m.told ≤ length front = there_are framer asked (next_at mark) front m.told next.first in
    let place : next_at mark ≡ m.at - start = omega (arith, next.at) in
    record {
      from = omega (arith, next.at);
      within = omega (arith, next.at, there);
      first = (asked, subst (λ (k : ℕ). first_of framer asked (drop k front) ≡ Some m.told) place next.first);
    }

sound_behind : (framer : Framer) (at : ℕ) (front : List ℕ) (next : Then) → IsSoundNext framer at front (next_behind next)
sound_behind framer at front (Follows n) = tt
sound_behind framer at front Opaque = tt

pub next_sound : (framer : Framer) (asked : Bool) (start : ℕ) (front : List ℕ) (mark : Mark) (m : Placed) (c : Cursor) → IsNext framer asked start front mark m c → IsSound framer c front
next_sound framer asked start front mark m c next =
    subst (λ (d : Cursor). IsSound framer d front) (sym next.cursor) (sound_behind framer (next_at (mark_behind mark m.told)) front (then_of m.told))

pub next_nearer : (framer : Framer) (asked : Bool) (start : ℕ) (front : List ℕ) (mark : Mark) (m : Placed) (c : Cursor) → IsNext framer asked start front mark m c
    → length front - c.mark.end < length front - mark.end
next_nearer framer asked start front mark m c next =
    let there : next_at mark + end_of m.told ≤ length front = there_are framer asked (next_at mark) front m.told next.first in
    let some : 0 < end_of m.told = first_some framer asked (drop (next_at mark) front) m.told next.first in
    let end : c.mark.end ≡ next_at mark + end_of m.told = ap (λ (d : Cursor). d.mark.end) next.cursor in
    omega (arith, there, some, end)

pub rest_sound : (framer : Framer) (asked : Bool) (front : List ℕ) (old new : Cursor) → IsRest framer asked front old new → IsSound framer new front
rest_sound framer asked front old new rest =
    subst (λ (k : Mark). IsSoundNext framer (next_at k) front new.next) (sym rest.mark) (sound_now framer asked (next_at old.mark) front new.next rest.known)

-- ---- each has a new byte

-- a message that wasn't whole before ends in the new bytes
late_of : (framer : Framer) (asked : Bool) (at : ℕ) (old new : List ℕ) (told : Told) → first_of framer asked (drop at old) ≡ None → first_of framer asked (drop at (old ++ new)) ≡ Some told
    → length old < at + end_of told
late_of framer asked at old new told none e = elim (cases_lt (length old) (at + end_of told)) [
  | inl late ↦ late
  | inr early ↦
      let within : at ≤ length old = omega (arith, early) in
      let there : first_of framer asked (drop at old ++ new) ≡ Some told = ap (first_of framer asked) (sym (drop-append-le at old new within)) ∙ e in
      let was : first_of framer asked (drop at old) ≡ Some told = first_shrinks framer asked (drop at old) new told there (omega (arith, early, length-drop at old)) in
      absurd (none-some told (sym none ∙ was))
]

quiet_late : (framer : Framer) (asked : Bool) (heads : List Bool) (count at : ℕ) (old new front : List ℕ) (next : Next) (told : Told) → front ≡ old ++ new → goes next ≡ true
    → IsQuietNext framer at old next → IsAskedOf framer asked heads count next (drop at front) → first_of framer asked (drop at front) ≡ Some told → length old < at + end_of told
quiet_late framer asked heads count at old new front Never told is may quiet asks e = absurd (cc)
quiet_late framer asked heads count at old new front Awaited told is may quiet asks e = omega (arith, quiet, first_some framer asked (drop at front) told e)
quiet_late framer asked heads count at old new front (Begun started) told is may quiet asks e =
    late_of framer asked at old new told (subst (λ (a : Bool). first_of framer a (drop at old) ≡ None) asks quiet) (ap (λ (all : List ℕ). first_of framer asked (drop at all)) (sym is) ∙ e)

-- nothing was cut yet, or each message has a byte of its own past those before
abbrev pub IsFew : List ℕ → List ℕ → Cursor → Cursor → List Placed → Type 0
IsFew old front first c ms = ((c ≡ first) × (ms ≡ [])) ⊎ ((length old + length ms ≤ c.mark.end) × (c.mark.end ≤ length front))

few_more : (framer : Framer) (asked : Bool) (heads : List Bool) (start : ℕ) (old new front : List ℕ) (first c : Cursor) (ms : List Placed) (m : Placed) (behind : Cursor) → front ≡ old ++ new
    → IsQuiet framer first old → IsAskedOf framer asked heads (answers_before c) c.next (drop (next_at c.mark) front) → goes c.next ≡ true → IsNext framer asked start front c.mark m behind
    → IsFew old front first c ms → IsFew old front first behind (ms ++ m ∷ [])
few_more framer asked heads start old new front first c ms m behind is quiet asks may next (inl (same, none)) =
    let late : length old < next_at c.mark + end_of m.told =
    quiet_late framer asked heads (answers_before c) (next_at c.mark) old new front c.next m.told is may (subst (λ (d : Cursor). IsQuiet framer d old) (sym same) quiet) asks next.first in
    let there : next_at c.mark + end_of m.told ≤ length front = there_are framer asked (next_at c.mark) front m.told next.first in
    let end : behind.mark.end ≡ next_at c.mark + end_of m.told = ap (λ (d : Cursor). d.mark.end) next.cursor in
    let size : length (ms ++ m ∷ []) ≡ 1 = ap (λ (xs : List Placed). length (xs ++ m ∷ [])) none in
    inr (omega (arith, late, end, size), omega (arith, there, end))
few_more framer asked heads start old new front first c ms m behind is quiet asks may next (inr (far, within)) =
    let some : 0 < end_of m.told = first_some framer asked (drop (next_at c.mark) front) m.told next.first in
    let there : next_at c.mark + end_of m.told ≤ length front = there_are framer asked (next_at c.mark) front m.told next.first in
    let end : behind.mark.end ≡ next_at c.mark + end_of m.told = ap (λ (d : Cursor). d.mark.end) next.cursor in
    let size : length (ms ++ m ∷ []) ≡ length ms + 1 = length-append ms (m ∷ []) in
    inr (omega (arith, far, some, end, size), omega (arith, there, end))

-- and none is left
rest_left : (framer : Framer) (asked : Bool) (front : List ℕ) (old new : Cursor) → IsRest framer asked front old new → IsQuiet framer new front
rest_left framer asked front old new rest = subst (λ (k : Mark). IsQuietNext framer (next_at k) front new.next) (sym rest.mark) (by new.next rest.goes_is rest.known)
  where
    by : (next : Next) → goes next ≡ goes old.next → KnowsNext framer asked (next_at old.mark) front next → IsQuietNext framer (next_at old.mark) front next
    by Never goes_is known = tt
    by Awaited goes_is known = known
    by (Begun started) goes_is known = subst (λ (a : Bool). first_of framer a (drop (next_at old.mark) front) ≡ None) (sym known.2) (rest.none (sym goes_is))

-- ---- all messages

pub record IsLoop (framer : Framer) (start : ℕ) (front : List ℕ) (heads : List Bool) (first c : Cursor) (ms : List Placed) : Type 0 where
  pub cutting : (asked : Asked) (base : List Placed) (all : Asked → List ℕ → List Placed) (count : ℕ) (old new : List ℕ) → front ≡ old ++ new
      → AsksBetween (start + length old) (start + length front) heads asked → IsCuttingOf framer asked base all count start old front first [] → IsCuttingOf framer asked base all count start old front c ms
  pub whole : All (IsWhole framer start front) ms
  pub few : (old new : List ℕ) → front ≡ old ++ new → IsQuiet framer first old → IsFew old front first c ms
  pub sound : IsSound framer c front

pub loop_first : (framer : Framer) (start : ℕ) (front : List ℕ) (heads : List Bool) (c : Cursor) → IsSound framer c front → IsLoop framer start front heads c c []
loop_first framer start front heads c sound = record {
  cutting = λ asked base all count old new is asks cutting. cutting;
  whole = λ k m inside. absurd (omega (arith, inside));
  few = λ old new is quiet. inl (refl, refl);
  sound = sound;
}

-- the bit of one look, where the look is right for each
pub loop_asked : (framer : Framer) (start : ℕ) (front : List ℕ) (heads : List Bool) (c : Cursor) (cut : Cut) → IsSound framer c front
    → IsLook framer start front heads c cut
    → (asked : Bool) × IsAskedOf framer asked heads (answers_before c) c.next (drop (next_at c.mark) front) × IsCutFrom framer asked start front c cut
loop_asked framer start front heads c cut sound each =
    let some = some_asked framer heads (answers_before c) (next_at c.mark) front c.next sound in (some.0, some.1, each some.0 (answers_before c) refl some.1)

pub loop_more : (framer : Framer) (start : ℕ) (front : List ℕ) (heads : List Bool) (first c : Cursor) (ms : List Placed) (m : Placed) (behind : Cursor)
    → IsLoop framer start front heads first c ms
    → IsLook framer start front heads c (Whole m behind)
    → IsLoop framer start front heads first behind (ms ++ m ∷ [])
loop_more framer start front heads first c ms m behind loop each =
    let some = loop_asked framer start front heads c (Whole m behind) loop.sound each in
    record {
      cutting = λ asked base all count old new is asks from.
          let cutting : IsCuttingOf framer asked base all count start old front c ms = loop.cutting asked base all count old new is asks from in
          let here = each (asked (start + next_at c.mark) cutting.number) cutting.number cutting.counts (asks_right framer asked base all count start old new front c ms heads is asks cutting) in
          cutting_more framer asked base all count start old new front c ms m behind is cutting here.0 here.1;
      whole = All-push (IsWhole framer start front) ms m loop.whole (next_whole framer some.0 start front c.mark m behind some.2.1);
      few = λ old new is quiet. few_more framer some.0 heads start old new front first c ms m behind is quiet some.1 some.2.0 some.2.1 (loop.few old new is quiet);
      sound = next_sound framer some.0 start front c.mark m behind some.2.1;
    }

pub loop_nearer : (framer : Framer) (start : ℕ) (front : List ℕ) (heads : List Bool) (c : Cursor) (m : Placed) (behind : Cursor) → IsSound framer c front
    → IsLook framer start front heads c (Whole m behind)
    → length front - behind.mark.end < length front - c.mark.end
loop_nearer framer start front heads c m behind sound each =
    let some = loop_asked framer start front heads c (Whole m behind) sound each in
    next_nearer framer some.0 start front c.mark m behind some.2.1

pub loop_sound : (framer : Framer) (start : ℕ) (front : List ℕ) (heads : List Bool) (c new : Cursor) → IsSound framer c front
    → IsLook framer start front heads c (Rest new)
    → IsSound framer new front
loop_sound framer start front heads c new sound each =
    let some = loop_asked framer start front heads c (Rest new) sound each in rest_sound framer some.0 front c new some.2

pub loop_quiet : (framer : Framer) (start : ℕ) (front : List ℕ) (heads : List Bool) (c new : Cursor) → IsSound framer c front
    → IsLook framer start front heads c (Rest new)
    → IsQuiet framer new front
loop_quiet framer start front heads c new sound each =
    let some = loop_asked framer start front heads c (Rest new) sound each in rest_left framer some.0 front c new some.2

pub loop_few : (framer : Framer) (start : ℕ) (front : List ℕ) (heads : List Bool) (first c : Cursor) (ms shown : List Placed) → IsLoop framer start front heads first c ms → shown ≡ ms → AddsFew framer first front shown
loop_few framer start front heads first c ms shown loop same old new is quiet = by (loop.few old new is quiet)
  where
    size : length front ≡ length old + length new
    size = ap length is ∙ length-append old new

    count : length shown ≡ length ms
    count = ap length same

    by : IsFew old front first c ms → length shown ≤ length new
    by (inl (begins, none)) = let nothing : length ms ≡ 0 = ap length none in omega (arith, nothing, count)
    by (inr (far, within)) = omega (arith, far, within, size, count)

loop_last : (framer : Framer) (start : ℕ) (front : List ℕ) (heads : List Bool) (first c : Cursor) (ms : List Placed) (shown : Shown)
    → IsLoop framer start front heads first c ms → IsLook framer start front heads c (Rest shown.cursor) → shown.messages ≡ ms
    → (asked : Asked) (base : List Placed) (all : Asked → List ℕ → List Placed) (count : ℕ) (old new : List ℕ) → front ≡ old ++ new
    → AsksBetween (start + length old) (start + length front) heads asked → IsCuttingOf framer asked base all count start old front first [] → AreCut framer asked base all count start old front shown
loop_last framer start front heads first c ms shown loop each same asked base all count old new is asks from =
    let cutting : IsCuttingOf framer asked base all count start old front c ms = loop.cutting asked base all count old new is asks from in
    cutting_last framer asked base all count start old front c ms shown cutting
    (each (asked (start + next_at c.mark) cutting.number) cutting.number cutting.counts (asks_right framer asked base all count start old new front c ms heads is asks cutting)) same

pub loop_cut : (framer : Framer) (start : ℕ) (front : List ℕ) (heads : List Bool) (first c : Cursor) (ms : List Placed) (shown : Shown)
    → IsLoop framer start front heads first c ms
    → IsLook framer start front heads c (Rest shown.cursor)
    → shown.messages ≡ ms → (asked later : Asked) (count : ℕ) (old new : List ℕ) → front ≡ old ++ new → AgreeBelow (start + length old) asked later
    → AsksBetween (start + length old) (start + length front) heads later → IsBehind framer asked count start first old → IsCut framer later count start old front shown
loop_cut framer start front heads first c ms shown loop each same asked later count old new is agree asks from =
    whole_cut framer later count start old front shown
    (loop_last framer start front heads first c ms shown loop each same later (of_front framer later count start old) (λ newer more. of_front framer newer count start (front ++ more)) count old new is asks
    (cutting_first framer asked later count start old new front first is agree from))

pub loop_from : (framer : Framer) (start : ℕ) (front : List ℕ) (heads : List Bool) (mark c : Cursor) (ms : List Placed) (shown : Shown)
    → IsLoop framer start front heads mark c ms
    → IsLook framer start front heads c (Rest shown.cursor)
    → shown.messages ≡ ms → (asked later : Asked) (count first : ℕ) (old new : List ℕ) → front ≡ bytes_from first start (old ++ new) → AgreeBelow (first + length old) asked later
    → AsksBetween (first + length old) (first + length (old ++ new)) heads later → IsBehindFrom framer asked count first start mark old → IsCutOn framer later count first start old (old ++ new) shown
loop_from framer start front heads mark c ms shown loop each same asked later count first old new is agree asks from =
    let size : start + length (bytes_from first start old) ≡ first + length old = from_place first start old from.low from.high in
    let longer : length (old ++ new) ≡ length old + length new = length-append old new in
    let split : front ≡ bytes_from first start old ++ new = is ∙ from_append first start old new from.low from.high in
    let size_all : start + length front ≡ first + length (old ++ new) =
    omega (arith, ap length split, length-append (bytes_from first start old) new, size, longer) in
    from_cut framer later count first start old new front shown from.low from.high is
    (loop_last framer start front heads mark c ms shown loop each same later (of_front framer later count first old) (all_of framer count first (old ++ new)) count (bytes_from first start old) new split
    (subst (λ (n : ℕ). AsksBetween (start + length (bytes_from first start old)) n heads later) (sym size_all) (subst (λ (n : ℕ). AsksBetween n (first + length (old ++ new)) heads later) (sym size) asks))
    (from_first framer asked later count first start old new front mark is agree from))
