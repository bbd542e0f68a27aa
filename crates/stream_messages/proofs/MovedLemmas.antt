-- Cursors of stretches of which bytes are let go.
use Rattle.std.proofs.Common.{◌≡◌, ℕ, ◌+◌, ◌-◌, ◌<◌, ◌≤◌, inl, inr, Bool, true, cond, List, [], ◌++◌, length, drop, refl, sym, ap, subst, ◌∙◌, arith, length-drop, None}
use Rattle.std.proofs.lemmas.Bool.{false≢true, cases_Bool}
use Rattle.std.proofs.lemmas.List.{drop-append-le, drop-drop}
use Rattle.stream_messages.specs.declared.framer.Framer.{Framer}
use Rattle.stream_messages.specs.declared.placed.Placed.{Placed}
use Rattle.stream_messages.specs.declared.cursor.Cursor.{Cursor}
use Rattle.stream_messages.specs.declared.cursor.Mark.{Mark}
use Rattle.stream_messages.specs.declared.cursor.Next.{Next}
use Rattle.stream_messages.specs.declared.cursor.Next.TheVariants.{Never, Awaited, Begun}
use Rattle.stream_messages.specs.declared.part.Part.{Part}
use Rattle.stream_messages.specs.declared.part.Part.TheVariants as parts
use Rattle.stream_messages.specs.declared.progress.Progress.TheVariants as progresses
use Rattle.stream_messages.specs.HttpMessages.{resumed}
use Rattle.stream_messages.specs.Tellings.{first_of}
use Rattle.stream_messages.specs.Messages.{Asked, of_front, AgreeBelow, answered}
use Rattle.stream_messages.specs.Cursors.{resumed_part, answers_before, CountsFor, next_at, goes, from_cursor, IsKnown, KnowsNext, IsSoundNext, IsQuietNext}
use Rattle.stream_messages.specs.Moved.{bytes_from, is_never, settled_next, IsMovedBy, StandsAlike}
use Rattle.stream_messages.proofs.MessageLemmas.{none_left}

-- ---- bytes that can't become a message

never_is : (part : Part) → is_never part ≡ true → part ≡ parts.Http progresses.Never
never_is (parts.Sized head at width) e = absurd (false≢true e)
never_is (parts.Http (progresses.InHead head)) e = absurd (false≢true e)
never_is (parts.Http (progresses.InBody shape)) e = absurd (false≢true e)
never_is (parts.Http (progresses.InChunks list)) e = absurd (false≢true e)
never_is (parts.Http progresses.Never) e = refl

never_found : (bytes : List ℕ) → resumed_part (parts.Http progresses.Never) bytes ≡ None
unfolding resumed
never_found bytes = refl

settle : (P : Next → Type 0) → P Never → (next : Next) → P next → P (settled_next next)
settle P never Never is = is
settle P never Awaited is = is
settle P never (Begun started) is = elim (cases_Bool (is_never started.part)) [
  | inl none ↦ rw none never
  | inr some ↦ rw some is
]

none_comes : (framer : Framer) (asked later : Asked) (start number at : ℕ) (front more : List ℕ) (to_head : Bool) (part : Part) → AgreeBelow (start + length front) asked later → at < length front
    → IsKnown framer to_head part (drop at front) → to_head ≡ asked (start + at) number → is_never part ≡ true
    → of_front framer later number (start + at) (drop at (front ++ more)) ≡ []
none_comes framer asked later start number at front more to_head part agree within known asks none =
    none_left framer later number (start + at) (drop at (front ++ more))
    (ap (λ (a : Bool). first_of framer a (drop at (front ++ more))) (agree (start + at) number (omega (arith, within)) ∙ sym asks)
    ∙ ap (first_of framer to_head) (drop-append-le at front more (omega (arith, within)))
    ∙ known more
    ∙ ap (λ (p : Part). resumed_part p (drop at front ++ more)) (never_is part none)
    ∙ never_found (drop at front ++ more))

settled_from : (framer : Framer) (asked later : Asked) (start number : ℕ) (mark : Mark) (next : Next) (front more : List ℕ) → AgreeBelow (start + length front) asked later
    → KnowsNext framer (asked (start + next_at mark) number) (next_at mark) front next
    → from_cursor framer later start number (record { mark = mark; next = next }) (front ++ more) ≡ from_cursor framer later start number (record { mark = mark; next = settled_next next }) (front ++ more)
settled_from framer asked later start number mark Never front more agree known = refl
settled_from framer asked later start number mark Awaited front more agree known = refl
settled_from framer asked later start number mark (Begun started) front more agree known = elim (cases_Bool (is_never started.part)) [
  | inl none ↦ rw none (none_comes framer asked later start number (next_at mark) front more started.asked started.part agree known.0 known.1 known.2 none)
  | inr some ↦ rw some refl
]

from_size : (first start : ℕ) (bytes : List ℕ) → first ≤ start → start ≤ first + length bytes → start + length (bytes_from first start bytes) ≡ first + length bytes
from_size first start bytes low high = omega (arith, low, high, length-drop (start - first) bytes)

pub settled_alike : (c : Cursor) → StandsAlike c (record { mark = c.mark; next = settled_next c.next })
settled_alike c = record {
  behind = λ framer asked count first start front is.
      let number : ℕ = answered count (of_front framer asked count first front) in
      let size : start + length (bytes_from first start front) ≡ first + length front = from_size first start front is.low is.high in
      record {
        low = is.low;
        high = is.high;
        behind = λ later more agree.
            let split : bytes_from first start (front ++ more) ≡ bytes_from first start front ++ more = drop-append-le (start - first) front more (let low = is.low in let high = is.high in omega arith) in
            is.behind later more agree
            ∙ ap (λ (ms : List Placed). of_front framer asked count first front ++ ms)
            (ap (from_cursor framer later start number c) split
            ∙ settled_from framer asked later start number c.mark c.next (bytes_from first start front) more (subst (λ (n : ℕ). AgreeBelow n asked later) (sym size) agree) is.known
            ∙ ap (from_cursor framer later start number (record { mark = c.mark; next = settled_next c.next })) (sym split));
        counts = is.counts;
        known = settle (λ (next : Next). KnowsNext framer (asked (start + next_at c.mark) number) (next_at c.mark) (bytes_from first start front) next) tt c.next is.known;
      };
  sound = λ framer front sound. settle (λ (next : Next). IsSoundNext framer (next_at c.mark) front next) tt c.next sound;
  quiet = λ framer front quiet. settle (λ (next : Next). IsQuietNext framer (next_at c.mark) front next) tt c.next quiet;
}

-- ---- bytes that are let go

moved_knows : (framer : Framer) (asked : Bool) (gone at old : ℕ) (bytes : List ℕ) (next : Next) → (goes next ≡ true → at + gone ≡ old) → KnowsNext framer asked old bytes next
    → KnowsNext framer asked at (drop gone bytes) next
moved_knows framer asked gone at old bytes Never place known = tt
moved_knows framer asked gone at old bytes Awaited place known = omega (arith, place refl, known, length-drop gone bytes)
moved_knows framer asked gone at old bytes (Begun started) place known =
    let sum : gone + at ≡ old = omega (arith, place refl) in (
      omega (arith, sum, known.0, length-drop gone bytes),
      subst (IsKnown framer started.asked started.part) (sym (drop-drop at gone bytes ∙ ap (λ (n : ℕ). drop n bytes) sum)) known.1,
      known.2,
    )

moved_sound : (framer : Framer) (gone at old : ℕ) (bytes : List ℕ) (next : Next) → (goes next ≡ true → at + gone ≡ old) → IsSoundNext framer old bytes next → IsSoundNext framer at (drop gone bytes) next
moved_sound framer gone at old bytes Never place sound = tt
moved_sound framer gone at old bytes Awaited place sound = tt
moved_sound framer gone at old bytes (Begun started) place sound =
    let sum : gone + at ≡ old = omega (arith, place refl) in (
      omega (arith, sum, sound.0, length-drop gone bytes),
      subst (IsKnown framer started.asked started.part) (sym (drop-drop at gone bytes ∙ ap (λ (n : ℕ). drop n bytes) sum)) sound.1,
    )

moved_quiet : (framer : Framer) (gone at old : ℕ) (bytes : List ℕ) (next : Next) → (goes next ≡ true → at + gone ≡ old) → IsQuietNext framer old bytes next → IsQuietNext framer at (drop gone bytes) next
moved_quiet framer gone at old bytes Never place quiet = tt
moved_quiet framer gone at old bytes Awaited place quiet = omega (arith, place refl, quiet, length-drop gone bytes)
moved_quiet framer gone at old bytes (Begun started) place quiet =
    let sum : gone + at ≡ old = omega (arith, place refl) in
    ap (first_of framer started.asked) (drop-drop at gone bytes ∙ ap (λ (n : ℕ). drop n bytes) sum) ∙ quiet

moved_from : (framer : Framer) (later : Asked) (first start gone number : ℕ) (old new : Cursor) (all : List ℕ) → first ≤ start → new.next ≡ old.next → (goes old.next ≡ true → next_at new.mark + gone ≡ next_at old.mark)
    → from_cursor framer later start number old (bytes_from first start all) ≡ from_cursor framer later (start + gone) number new (bytes_from first (start + gone) all)
moved_from framer later first start gone number old new all low same place =
    subst (λ (next : Next). from_cursor framer later start number old (bytes_from first start all)
    ≡ (cond (goes next) (of_front framer later number (start + gone + next_at new.mark) (drop (next_at new.mark) (bytes_from first (start + gone) all))) [])) (sym same)
    (elim (cases_Bool (goes old.next)) [
      | inl may ↦
          let sum : next_at new.mark + gone ≡ next_at old.mark = place may in
          let here : start + next_at old.mark ≡ start + gone + next_at new.mark = omega (arith, sum) in
          let count : (start - first) + next_at old.mark ≡ (start + gone - first) + next_at new.mark = omega (arith, sum, low) in
          let left : drop (next_at old.mark) (bytes_from first start all) ≡ drop (next_at new.mark) (bytes_from first (start + gone) all) =
          drop-drop (next_at old.mark) (start - first) all ∙ ap (λ (n : ℕ). drop n all) count ∙ sym (drop-drop (next_at new.mark) (start + gone - first) all) in
          rw may (ap (λ (p : ℕ). of_front framer later number p (drop (next_at old.mark) (bytes_from first start all))) here ∙ ap (of_front framer later number (start + gone + next_at new.mark)) left)
      | inr none ↦ rw none refl
    ])

pub moved_by : (gone : ℕ) (old new : Cursor) → answers_before new ≡ answers_before old → new.next ≡ old.next → (goes old.next ≡ true → next_at new.mark + gone ≡ next_at old.mark) → IsMovedBy gone old new
moved_by gone old new counts same place = record {
  behind = λ framer asked count first start front room is.
      let number : ℕ = answered count (of_front framer asked count first front) in
      let low : first ≤ start = is.low in
      let rest : drop gone (bytes_from first start front) ≡ bytes_from first (start + gone) front =
      drop-drop gone (start - first) front ∙ ap (λ (n : ℕ). drop n front) (let sum : (start - first) + gone ≡ start + gone - first = omega (arith, low) in sum) in
      record {
        low = omega (arith, low);
        high = room;
        behind = λ later more agree.
            is.behind later more agree
            ∙ ap (λ (ms : List Placed). of_front framer asked count first front ++ ms) (moved_from framer later first start gone number old new (front ++ more) low same place);
        counts = subst (λ (n : ℕ). CountsFor n number) (sym counts) is.counts;
        known = subst (λ (bytes : List ℕ). KnowsNext framer (asked (start + gone + next_at new.mark) number) (next_at new.mark) bytes new.next) rest
            (subst (λ (next : Next). KnowsNext framer (asked (start + gone + next_at new.mark) number) (next_at new.mark) (drop gone (bytes_from first start front)) next) (sym same)
            (asks_there framer asked number start (bytes_from first start front) is.known));
      };
  sound = λ framer front within sound.
      subst (λ (next : Next). IsSoundNext framer (next_at new.mark) (drop gone front) next) (sym same) (moved_sound framer gone (next_at new.mark) (next_at old.mark) front old.next place sound);
  quiet = λ framer front within quiet.
      subst (λ (next : Next). IsQuietNext framer (next_at new.mark) (drop gone front) next) (sym same) (moved_quiet framer gone (next_at new.mark) (next_at old.mark) front old.next place quiet);
}
  where
    -- where no message comes, nothing is asked
    asks_by : (framer : Framer) (a b : Bool) (at : ℕ) (bytes : List ℕ) (next : Next) → (goes next ≡ true → a ≡ b) → KnowsNext framer a at bytes next → KnowsNext framer b at bytes next
    asks_by framer a b at bytes Never is known = tt
    asks_by framer a b at bytes Awaited is known = known
    asks_by framer a b at bytes (Begun started) is known = (known.0, known.1, known.2 ∙ is refl)

    asks_there : (framer : Framer) (asked : Asked) (number start : ℕ) (bytes : List ℕ) → KnowsNext framer (asked (start + next_at old.mark) number) (next_at old.mark) bytes old.next
        → KnowsNext framer (asked (start + gone + next_at new.mark) number) (next_at new.mark) (drop gone bytes) old.next
    asks_there framer asked number start bytes known =
        asks_by framer (asked (start + next_at old.mark) number) (asked (start + gone + next_at new.mark) number) (next_at new.mark) (drop gone bytes) old.next
        (λ may. let sum = place may in ap (λ (p : ℕ). asked p number) (let here : start + next_at old.mark ≡ start + gone + next_at new.mark = omega (arith, sum) in here))
        (moved_knows framer (asked (start + next_at old.mark) number) gone (next_at new.mark) (next_at old.mark) bytes old.next place known)
