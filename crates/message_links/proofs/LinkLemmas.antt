-- One message more among those that links are told by.
use Rattle.std.proofs.Common.{◌≡◌, ℕ, zero, suc, ◌+◌, ◌<◌, ◌≤◌, Bool, true, false, cond, if◌then◌else◌, List, [], ◌∷◌, ◌++◌, length, drop, take, Option, Some, refl, ◌∙◌, ap, arith, append_assoc, get_or}
use Rattle.std.specs.Prelude.{unwrap_or}
use Rattle.std.specs.Option.{option_map}
use Rattle.std.specs.Global.{Vec}
use Rattle.indexmap.specs.IndexMap.{IndexMap, get}
use Rattle.message_links.specs.declared.notes.Direction.{Direction}
use Rattle.message_links.specs.declared.notes.Note.{Note}
use Rattle.message_links.specs.declared.notes.Note.TheVariants.{Answer}
use Rattle.message_links.specs.Notes.{Noted, noted_on}
use Rattle.message_links.specs.Links.{answers_in, is_answer, link_of, links_from, links_of, same_direction}
use Rattle.message_links.specs.LinkTables.{counted}
use Rattle.message_links.proofs.LinkKeys.{direction_is}

pub cond_unwrap : (test : Bool) (n : ℕ) (o : Option ℕ) → unwrap_or (cond test (Some n) o) 0 ≡ cond test n (unwrap_or o 0)
cond_unwrap true n o = refl
cond_unwrap false n o = refl

-- the frames that are kept of a direction, where an entry is written
abbrev pub frames_in : Option (Vec ℕ) → List ℕ
frames_in o = unwrap_or (option_map (λ frames. frames.items) o) []

cond_frames : (test : Bool) (frames : Vec ℕ) (o : Option (Vec ℕ)) → frames_in (cond test (Some frames) o) ≡ cond test frames.items (frames_in o)
cond_frames true frames o = refl
cond_frames false frames o = refl

more_frames : (at other : Direction) (frame : ℕ) (one old : List ℕ) (test : Bool) → same_direction at other ≡ test → (test ≡ true → one ≡ old)
    → cond test (one ++ frame ∷ []) old ≡ (if test then old ++ frame ∷ [] else old)
more_frames at other frame one old true same is = ap (λ (xs : List ℕ). xs ++ frame ∷ []) (is refl)
more_frames at other frame one old false same is = refl

-- a direction's entry was written, with a frame more
pub frame_added : (old new : Direction → Option (Vec ℕ)) (at other : Direction) (frame : ℕ) (frames : Vec ℕ)
    → new other ≡ cond (same_direction at other) (Some frames) (old other) → frames.items ≡ frames_in (old at) ++ frame ∷ []
    → frames_in (new other) ≡ (if same_direction at other then frames_in (old other) ++ frame ∷ [] else frames_in (old other))
frame_added old new at other frame frames written are =
    ap frames_in written
    ∙ cond_frames (same_direction at other) frames (old other)
    ∙ ap (λ (xs : List ℕ). cond (same_direction at other) xs (frames_in (old other))) are
    ∙ more_frames at other frame (frames_in (old at)) (frames_in (old other)) (same_direction at other) refl
    (λ same. ap (λ (d : Direction). frames_in (old d)) (direction_is at other same))

pub same_get : {S : Type 0} (one other : IndexMap Direction (Vec ℕ) S) (d : Direction) → one ≡ other → get same_direction one d ≡ get same_direction other d
same_get {S} one other d is = ap (λ (m : IndexMap Direction (Vec ℕ) S). get same_direction m d) is

-- one more answer
pub answer_kept : (at other : Direction) (frame : ℕ) (ns : List Noted) (one old new : ℕ) → one ≡ counted (answers_in ns at) → old ≡ counted (answers_in ns other)
    → new ≡ (if same_direction at other then counted (one + 1) else old) → new ≡ counted (answers_in (record { frame = frame; at = at; note = Answer } ∷ ns) other)
answer_kept at other frame ns one old new one_is old_is new_is = new_is ∙ by (same_direction at other) refl
  where
    more : (exact : ℕ) → one ≡ counted exact → counted (one + 1) ≡ counted (exact + 1)
    more exact is = omega (arith, is)

    by : (test : Bool) → same_direction at other ≡ test → (if test then counted (one + 1) else old) ≡ counted (if test then answers_in ns other + 1 else answers_in ns other)
    by true same = more (answers_in ns other) (one_is ∙ ap (λ (d : Direction). counted (answers_in ns d)) (direction_is at other same))
    by false same = old_is

count_next : (test : Bool) (exact number next : ℕ) → number ≡ counted exact → next ≡ (if test then counted (number + 1) else number)
    → next ≡ counted (if test then exact + 1 else exact)
count_next true exact number next is next_is = omega (arith, is, next_is)
count_next false exact number next is next_is = next_is ∙ is

-- the links with one more
pub links_next : (ns : List Noted) (at : Direction) (notes : List Note) (i exact : ℕ) (d : Note) (links more : List (Option ℕ)) → i < length notes
    → more ≡ links ++ link_of ns at exact (get_or notes i d) ∷ []
    → more ++ links_from ns at (if is_answer (get_or notes i d) then exact + 1 else exact) (drop (suc i) notes) ≡ links ++ links_from ns at exact (drop i notes)
links_next ns at [] i exact d links more within more_is = absurd (omega (arith, within))
links_next ns at (first ∷ notes) zero exact d links more within more_is =
    ap (λ (xs : List (Option ℕ)). xs ++ links_from ns at (if is_answer first then exact + 1 else exact) notes) more_is
    ∙ append_assoc links (link_of ns at exact first ∷ []) (links_from ns at (if is_answer first then exact + 1 else exact) notes)
links_next ns at (first ∷ notes) (suc i) exact d links more within more_is =
    links_next ns at notes i exact d links more (omega (arith, within)) more_is

-- the links so far, and those of the other messages, where so many answers stand before these
abbrev pub AreLinksTo : List Noted → Direction → List Note → List Note → ℕ → List (Option ℕ) → Type 0
AreLinksTo ns at notes rest number links =
    (exact : ℕ) × (number ≡ counted exact) × (links ++ links_from ns at exact rest ≡ links_of ns at notes)

pub links_further : (ns : List Noted) (at : Direction) (notes : List Note) (i number next : ℕ) (d : Note) (links more : List (Option ℕ)) → i < length notes
    → AreLinksTo ns at notes (drop i notes) number links → next ≡ (if is_answer (get_or notes i d) then counted (number + 1) else number)
    → ((exact : ℕ) → number ≡ counted exact → more ≡ links ++ link_of ns at exact (get_or notes i d) ∷ [])
    → AreLinksTo ns at notes (drop (i + 1) notes) next more
links_further ns at notes i number next d links more within so_far next_is more_is =
    let one : i + 1 ≡ suc i = omega arith in
    let exact : ℕ = if is_answer (get_or notes i d) then so_far.0 + 1 else so_far.0 in (
      exact,
      count_next (is_answer (get_or notes i d)) so_far.0 number next so_far.1 next_is,
      ap (λ (n : ℕ). more ++ links_from ns at exact (drop n notes)) one
          ∙ links_next ns at notes i so_far.0 d links more within (more_is so_far.0 so_far.1) ∙ so_far.2,
    )

pub all_dropped : (ns : List Noted) (at : Direction) (number i : ℕ) (notes : List Note) → length notes ≤ i → links_from ns at number (drop i notes) ≡ []
all_dropped ns at number i [] past = ap (links_from ns at number) (drop_nil i)
  where
    drop_nil : (n : ℕ) → drop {A = Note} n [] ≡ []
    drop_nil zero = refl
    drop_nil (suc n) = refl
all_dropped ns at number zero (note ∷ notes) past = absurd (omega (arith, past))
all_dropped ns at number (suc i) (note ∷ notes) past = all_dropped ns at number i notes (omega (arith, past))

-- a frame's messages with one more
pub noted_next : (frame : ℕ) (at : Direction) (notes : List Note) (i : ℕ) (d : Note) (ns : List Noted) → i < length notes
    → noted_on frame at (take (suc i) notes) ns ≡ record { frame = frame; at = at; note = get_or notes i d } ∷ noted_on frame at (take i notes) ns
noted_next frame at [] i d ns within = absurd (omega (arith, within))
noted_next frame at (note ∷ notes) zero d ns within = refl
noted_next frame at (note ∷ notes) (suc i) d ns within =
    noted_next frame at notes i d (record { frame = frame; at = at; note = note } ∷ ns) (omega (arith, within))

pub all_taken : (i : ℕ) (notes : List Note) → length notes ≤ i → take i notes ≡ notes
all_taken zero [] past = refl
all_taken (suc i) [] past = refl
all_taken zero (note ∷ notes) past = absurd (omega (arith, past))
all_taken (suc i) (note ∷ notes) past = ap (λ (rest : List Note). note ∷ rest) (all_taken i notes (omega (arith, past)))
