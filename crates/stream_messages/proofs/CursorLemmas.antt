-- How a cursor is kept.
use Rattle.std.proofs.Common.{◌≡◌, ℕ, ◌+◌, ◌<◌, ◌≤◌, Bool, true, List, [], ◌++◌, length, drop, refl, sym, ap, subst, ◌∙◌, arith, append_assoc, length-append, Some}
use Rattle.std.specs.Option.{option_map}
use Rattle.std.proofs.lemmas.List.{append-nil, drop-append-le, drop_all}
use Rattle.stream_messages.proofs.BeginLemmas.{begins as http_begins}
use Rattle.stream_messages.specs.declared.framer.Framer.{Framer}
use Rattle.stream_messages.specs.declared.framer.Framer.TheVariants as framers
use Rattle.stream_messages.specs.declared.told.Told.{Told}
use Rattle.stream_messages.specs.declared.told.Told.TheVariants.{Http}
use Rattle.stream_messages.specs.declared.part.Going.TheVariants.{Unfinished, Message}
use Rattle.stream_messages.specs.declared.cursor.Mark.{Mark}
use Rattle.stream_messages.specs.declared.cutting.Cut.{Cut}
use Rattle.stream_messages.specs.declared.cutting.Cut.TheVariants.{Whole, Rest}
use Rattle.stream_messages.specs.declared.part.Part.{Part}
use Rattle.stream_messages.specs.declared.placed.Placed.{Placed}
use Rattle.stream_messages.specs.declared.cursor.Cursor.{Cursor}
use Rattle.stream_messages.specs.declared.cursor.Next.{Next}
use Rattle.stream_messages.specs.declared.cursor.Next.TheVariants.{Never, Awaited, Begun}
use Rattle.stream_messages.specs.Tellings.{first_of, then_of}
use Rattle.stream_messages.specs.Messages.{Asked, messages, of_front, AgreeBelow, answered}
use Rattle.stream_messages.specs.Cursors.{resumed_part, part_begun, IsKnown, GoesOn, answers_before, CountsFor, next_at, next_behind, mark_behind, begun, goes, from_cursor, KnowsNext, IsBehind, IsSoundNext, IsSound, CursorLaws, IsNext, IsRest, IsPartRest, IsPartCut, IsCutFrom}
use Rattle.stream_messages.proofs.FirstLemmas.{first_nothing}
use Rattle.stream_messages.proofs.MessageLemmas.{same_front}

-- what is known is known of more bytes
pub known_longer : (framer : Framer) (asked : Bool) (part : Part) (bytes more : List ℕ) → IsKnown framer asked part bytes → IsKnown framer asked part (bytes ++ more)
known_longer framer asked part bytes more known further =
    subst (λ (all : List ℕ). first_of framer asked all ≡ resumed_part part all) (sym (append_assoc bytes more further)) (known (more ++ further))

pub known_front : (framer : Framer) (asked : Bool) (part : Part) (at : ℕ) (front more : List ℕ) → at < length front → IsKnown framer asked part (drop at front)
    → IsKnown framer asked part (drop at (front ++ more))
known_front framer asked part at front more within known =
    subst (IsKnown framer asked part) (sym (drop-append-le at front more (omega (arith, within)))) (known_longer framer asked part (drop at front) more known)

sound_next : (framer : Framer) (asked : Bool) (at : ℕ) (front more : List ℕ) (next : Next) → KnowsNext framer asked at front next → IsSoundNext framer at (front ++ more) next
sound_next framer asked at front more Never known = tt
sound_next framer asked at front more Awaited known = tt
sound_next framer asked at front more (Begun started) known =
    (omega (arith, known.0, length-append front more), known_front framer started.asked started.part at front more known.0 known.1)

pub sound_now : (framer : Framer) (asked : Bool) (at : ℕ) (front : List ℕ) (next : Next) → KnowsNext framer asked at front next → IsSoundNext framer at front next
sound_now framer asked at front Never known = tt
sound_now framer asked at front Awaited known = tt
sound_now framer asked at front (Begun started) known = (known.0, known.1)

pub behind_sound : (framer : Framer) (asked : Asked) (count start : ℕ) (c : Cursor) (front more : List ℕ) → IsBehind framer asked count start c front → IsSound framer c (front ++ more)
behind_sound framer asked count start c front more is =
    sound_next framer (asked (start + next_at c.mark) (answered count (of_front framer asked count start front))) (next_at c.mark) front more c.next is.known

begins : (framer : Framer) (asked : Asked) (number count start : ℕ) → CountsFor number count → IsBehind framer asked count start (begun number) []
unfolding messages
begins framer asked number count start counts =
    let same : start ≡ start + (0 + 0) = omega arith in
    record {
      behind = λ later more agree. ap (λ (p : ℕ). messages framer later count p 0 more) same;
      counts = counts;
      known = omega arith;
    }

-- what is known of a message below an end stays so where the same is asked below it
pub known_same : (framer : Framer) (asked later : Asked) (start answers at : ℕ) (front : List ℕ) (next : Next) → AgreeBelow (start + length front) asked later
    → KnowsNext framer (asked (start + at) answers) at front next → KnowsNext framer (later (start + at) answers) at front next
known_same framer asked later start answers at front Never agree known = tt
known_same framer asked later start answers at front Awaited agree known = known
known_same framer asked later start answers at front (Begun started) agree known =
    (known.0, known.1, known.2 ∙ sym (agree (start + at) answers (omega (arith, known.0))))

pub behind_same : (framer : Framer) (asked later : Asked) (count start : ℕ) (c : Cursor) (front : List ℕ) → AgreeBelow (start + length front) asked later
    → IsBehind framer asked count start c front → IsBehind framer later count start c front
behind_same framer asked later count start c front agree is =
    let same : of_front framer later count start front ≡ of_front framer asked count start front = same_front framer asked later count start front agree in
    record {
      behind = λ newer more also.
          is.behind newer more (λ at n low. also at n low ∙ agree at n low)
          ∙ ap (λ (ms : List Placed). ms ++ from_cursor framer newer start (answered count ms) c (front ++ more)) (sym same);
      counts = subst (CountsFor (answers_before c)) (ap (answered count) (sym same)) is.counts;
      known = subst (λ (n : ℕ). KnowsNext framer (later (start + next_at c.mark) n) (next_at c.mark) front c.next) (ap (answered count) (sym same))
          (known_same framer asked later start (answered count (of_front framer asked count start front)) (next_at c.mark) front c.next agree is.known);
    }

next_longer : (framer : Framer) (at : ℕ) (front more : List ℕ) (next : Next) → IsSoundNext framer at front next → IsSoundNext framer at (front ++ more) next
next_longer framer at front more Never sound = tt
next_longer framer at front more Awaited sound = tt
next_longer framer at front more (Begun started) sound =
    (omega (arith, sound.0, length-append front more), known_front framer started.asked started.part at front more sound.0 sound.1)

pub sound_longer : (framer : Framer) (c : Cursor) (front more : List ℕ) → IsSound framer c front → IsSound framer c (front ++ more)
sound_longer framer c front more sound = next_longer framer (next_at c.mark) front more c.next sound

pub laws_of_cursors : CursorLaws
laws_of_cursors = record { begins = begins; same = behind_same; sound = behind_sound; longer = sound_longer }

-- ---- a message that has begun

-- nothing of a message is known that isn't there
pub begun_known : (framer : Framer) (asked : Bool) (bytes : List ℕ) → IsKnown framer asked (part_begun framer asked) bytes
begun_known (framers.LengthPrefix head at width) asked bytes more = refl
begun_known framers.Http asked bytes more = ap (option_map Http) (sym (http_begins asked (bytes ++ more)))

pub known_now : (framer : Framer) (asked : Bool) (part : Part) (bytes : List ℕ) → IsKnown framer asked part bytes → first_of framer asked bytes ≡ resumed_part part bytes
known_now framer asked part bytes known = subst (λ (all : List ℕ). first_of framer asked all ≡ resumed_part part all) (append-nil bytes) (known [])

-- a message that is found is the first one
pub part_told : (framer : Framer) (asked : Bool) (part : Part) (bytes : List ℕ) (told : Told) → IsKnown framer asked part bytes → GoesOn part bytes (Message told)
    → first_of framer asked bytes ≡ Some told
part_told framer asked part bytes told known goes_on = known_now framer asked part bytes known ∙ sym goes_on.answer

pub part_rest : (framer : Framer) (asked : Bool) (front : List ℕ) (mark : Mark) (place : ℕ) (part new : Part) → place ≡ next_at mark → place < length front
    → IsKnown framer asked part (drop place front) → GoesOn part (drop place front) (Unfinished new) → IsPartRest framer asked front mark (record { mark = mark; next = Begun (record { asked = asked; part = new }) })
part_rest framer asked front mark place part new is within known goes_on = record {
  same = refl;
  goes_is = refl;
  none = ap (λ (k : ℕ). first_of framer asked (drop k front)) (sym is) ∙ known_now framer asked part (drop place front) known ∙ sym goes_on.answer;
  known = (omega (arith, is, within), subst (λ (k : ℕ). IsKnown framer asked new (drop k front)) is (λ more. known more ∙ goes_on.later more), refl);
}

pub part_next : (framer : Framer) (asked : Bool) (start : ℕ) (front : List ℕ) (mark behind : Mark) (place : ℕ) (part : Part) (told : Told) (next : Next) → place ≡ next_at mark
    → IsKnown framer asked part (drop place front) → GoesOn part (drop place front) (Message told) → behind ≡ mark_behind mark told → next ≡ next_behind (then_of told)
    → IsNext framer asked start front mark (record { at = start + place; told = told }) (record { mark = behind; next = next })
part_next framer asked start front mark behind place part told next is known goes_on marked then_is = record {
  first = ap (λ (k : ℕ). first_of framer asked (drop k front)) (sym is) ∙ part_told framer asked part (drop place front) told known goes_on;
  at = ap (λ (k : ℕ). start + k) is;
  cursor = λ i. record { mark = marked i; next = then_is i };
}

-- no byte is there
pub rest_none : (framer : Framer) (asked : Bool) (front : List ℕ) (c : Cursor) → length front ≤ next_at c.mark → IsSound framer c front → IsRest framer asked front c c
rest_none framer asked front c past sound = record {
  mark = refl;
  goes_is = refl;
  none = λ may. ap (first_of framer asked) (drop_all (next_at c.mark) front past) ∙ first_nothing framer asked;
  known = by c.next sound;
}
  where
    by : (next : Next) → IsSoundNext framer (next_at c.mark) front next → KnowsNext framer asked (next_at c.mark) front next
    by Never sound = tt
    by Awaited sound = past
    by (Begun started) sound = absurd (omega (arith, past, sound.0))

pub part_cut : (framer : Framer) (asked : Bool) (start : ℕ) (front : List ℕ) (c : Cursor) (cut : Cut) → goes c.next ≡ true → IsPartCut framer asked start front c.mark cut
    → IsCutFrom framer asked start front c cut
part_cut framer asked start front c (Whole m new) may is = (may, is)
part_cut framer asked start front c (Rest new) may is = record { mark = is.same; goes_is = is.goes_is ∙ sym may; none = λ _. is.none; known = is.known }
