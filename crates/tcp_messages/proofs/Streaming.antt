-- What the readers of all streams stand for with a segment more.
use Rattle.std.proofs.Common.{◌≡◌, ℕ, zero, suc, ◌<◌, Bool, true, not, eqb, List, [], ◌∷◌, ◌++◌, length, Option, None, Some, option_map, unwrap_or, slice_get, slice_set, refl, sym, ap, subst, ◌∙◌, inl, inr, arith}
use Rattle.std.specs.Prelude.{◌⊎◌}
use Rattle.std.proofs.lemmas.Bool.{cases_Bool}
use Rattle.std.proofs.lemmas.Bool.Decides.{eqb_tells}
use Rattle.std.proofs.lemmas.Option.{none-some, slice_get_within}
use Rattle.tcp_streams.specs.declared.segment.Segment.{Segment}
use Rattle.tcp_streams.specs.declared.segment.Taken.{Taken}
use Rattle.tcp_streams.specs.Conversations.{ends_of, same_ends}
use Rattle.tcp_streams.specs.Labels.{Label, latest, opened, goes_on, restarts, side_in, label_on, label_of, sided_of, way_of}
use Rattle.tcp_streams.specs.LetGo.{IsKeptOf}
use Rattle.tcp_streams.specs.Stands.{AllBelow}
use Rattle.tcp_streams.specs.Ways.{WayState, nothing, lost_in, own_step, way_step, same_side as is_own, IsWay}
use Rattle.tcp_streams.proofs.StandsLemmas.{none_new}
use Rattle.tcp_streams.proofs.WayLemmas.{after_is}
use Rattle.stream_messages.specs.declared.framer.Framer.{Framer}
use Rattle.stream_messages.specs.declared.placed.Placed.{Placed}
use Rattle.stream_messages.specs.declared.cursor.Cursor.{Cursor}
use Rattle.stream_messages.specs.Cursors.{begun}
use Rattle.stream_messages.specs.Moved.{IsBehindFrom}
use Rattle.stream_messages.specs.Sides.{asked_in, note_next, noted}
use Rattle.stream_messages.proofs.CursorLemmas.{laws_of_cursors}
use Rattle.tcp_messages.specs.declared.readers.Reader.{Reader}
use Rattle.tcp_messages.specs.declared.readers.Readers.{Readers}
use Rattle.tcp_messages.specs.Brought.{brought, brought_by}
use Rattle.tcp_messages.specs.Shown.{messages_at, messages_by}
use Rattle.tcp_messages.specs.Readers.{AllHave, IsBegun, IsOfEnds, ReadsStreamFrom, ReadsStreamsFrom, ReadsWayFrom, reader_of}
use Rattle.tcp_messages.specs.Reading.{AreListed, IsNew, IsOpenedAt, IsReadAt, IsRead, IsReadFrom, IsReadOn, side_of}
use Rattle.tcp_messages.proofs.Bridging.{behind_from}
use Rattle.tcp_messages.proofs.Growing.{brought_is}
use Rattle.tcp_messages.proofs.Sides.{AreReads, both_shown, both_reads}

-- ---- lists

pub get_push : {X : Type 0} (xs : List X) (x y : X) (j : ℕ) → slice_get (xs ++ x ∷ []) j ≡ Some y → (slice_get xs j ≡ Some y) ⊎ ((j ≡ length xs) × (x ≡ y))
get_push {X = X} [] x y zero = λ e. inr (refl, ap (λ (o : Option X). unwrap_or o x) e)
get_push [] x y (suc j) = λ e. inl e
get_push (z ∷ xs) x y zero = λ e. inl e
get_push (z ∷ xs) x y (suc j) = λ e. by (get_push xs x y j e)
  where
    by : (slice_get xs j ≡ Some y) ⊎ ((j ≡ length xs) × (x ≡ y)) → (slice_get xs j ≡ Some y) ⊎ ((suc j ≡ suc (length xs)) × (x ≡ y))
    by (inl there) = inl there
    by (inr last) = inr (ap suc last.0, last.1)

pub get_set : {X : Type 0} (xs : List X) (i j : ℕ) (x y : X) → slice_get (slice_set xs i x) j ≡ Some y → ((i ≡ j → ⊥) × (slice_get xs j ≡ Some y)) ⊎ ((i ≡ j) × (x ≡ y))
get_set [] i j x y = λ e. absurd (none-some y e)
get_set {X = X} (z ∷ xs) zero zero x y = λ e. inr (refl, ap (λ (o : Option X). unwrap_or o x) e)
get_set (z ∷ xs) zero (suc j) x y = λ e. inl (λ same. absurd (omega (arith, same)), e)
get_set (z ∷ xs) (suc i) zero x y = λ e. inl (λ same. absurd (omega (arith, same)), e)
get_set (z ∷ xs) (suc i) (suc j) x y = λ e. by (get_set xs i j x y e)
  where
    by : ((i ≡ j → ⊥) × (slice_get xs j ≡ Some y)) ⊎ ((i ≡ j) × (x ≡ y)) → ((suc i ≡ suc j → ⊥) × (slice_get xs j ≡ Some y)) ⊎ ((suc i ≡ suc j) × (x ≡ y))
    by (inl other) = inl (λ same. other.0 (omega (arith, same)), other.1)
    by (inr here) = inr (ap suc here.0, here.1)

abbrev IsThere : List (Option Readers) → ℕ → Type 0
IsThere xs i = (r : Option Readers) × (slice_get xs i ≡ Some r)

pub get_there : (xs : List (Option Readers)) (i : ℕ) → i < length xs → (r : Option Readers) × (slice_get xs i ≡ Some r)
get_there [] i low = absurd (omega (arith, low))
get_there (x ∷ xs) zero low = (x, refl)
get_there (x ∷ xs) (suc i) low = get_there xs i (omega (arith, low))

-- ---- how streams are framed

-- nothing was said of a stream that is new
none_have : (framer_of : Segment → Option Framer) (number : ℕ) (framer : Option Framer) (ls : List Label) → AllBelow number ls → AllHave framer_of number framer ls
none_have framer_of number framer [] below = tt
none_have framer_of number framer (l ∷ ls) below = (λ same. absurd (omega (arith, below.0, same)), none_have framer_of number framer ls below.1)

none_brought : (number : ℕ) (ls : List Label) → AllBelow number ls → brought number ls ≡ []
none_brought number [] below = refl
none_brought number (l ∷ ls) below = elim (eqb_tells l.stream number) [
  | inl same ↦ absurd (omega (arith, below.0, same.1))
  | inr other ↦ rw other.0 (none_brought number ls below.1)
]

-- a segment's conversation is framed as the segments before it
latest_has : (framer_of : Segment → Option Framer) (number : ℕ) (framer : Option Framer) (s : Segment) (found : Label) (ls : List Label) → IsOfEnds framer_of → found.stream ≡ number
    → latest s ls ≡ Some found → AllHave framer_of number framer ls → framer_of s ≡ framer
latest_has framer_of number framer s found [] of_ends at = λ e all. absurd (none-some found e)
latest_has framer_of number framer s found (l ∷ ls) of_ends at = elim (cases_Bool (same_ends (ends_of l.segment) (ends_of s))) [
  | inl same ↦ rw same (λ e all.
      let is : l.stream ≡ number = ap (λ (o : Option Label). (unwrap_or o l).stream) e ∙ at in
      sym (of_ends l.segment s same) ∙ all.0 is)
  | inr other ↦ rw other (λ e all. latest_has framer_of number framer s found ls of_ends at e all.1)
]

abbrev GoesAt : Option Label → ℕ → Type 0
GoesAt found number = (l : Label) × (found ≡ Some l) × (l.stream ≡ number)

goes_at : (found : Option Label) (s : Segment) (ls : List Label) (number : ℕ) → goes_on found s ls ≡ Some number → GoesAt found number
goes_at None s ls number = λ e. absurd (none-some number e)
goes_at (Some l) s ls number = elim (cases_Bool (restarts (way_of l.stream (side_in l.stream s ls) ls).origin s)) [
  | inl again ↦ rw again (λ e. absurd (none-some number e))
  | inr same ↦ rw same (λ e. (l, refl, ap (λ (o : Option ℕ). unwrap_or o number) e))
]

-- what is kept of the segment's stream is framed as it is
pub record IsOpening (framer : Option Framer) (s : Segment) (ls : List Label) (old new : List (Option Readers)) : Type 0 where
  pub listed : AreListed ls old
  pub is : IsOpenedAt framer (label_of s ls).stream old new

new_framer : (framer : Option Framer) (r : Option Readers) → IsNew framer r → option_map (λ (x : Readers). x.framer) r ≡ framer
new_framer None r new = ap (option_map (λ (x : Readers). x.framer)) new
new_framer (Some framer) None new = absurd new
new_framer (Some framer) (Some r) new = ap Some new.0

latest_within : (n : ℕ) (s : Segment) (ls : List Label) (l : Label) → AllBelow n ls → latest s ls ≡ Some l → l.stream < n
latest_within n s [] l below = λ e. absurd (none-some l e)
latest_within n s (m ∷ ls) l below = elim (cases_Bool (same_ends (ends_of m.segment) (ends_of s))) [
  | inl same ↦ rw same (λ e. subst (λ (k : ℕ). k < n) (ap (λ (o : Option Label). (unwrap_or o m).stream) e) below.0)
  | inr apart ↦ rw apart (λ e. latest_within n s ls l below.1 e)
]

pub framer_is : (framer_of : Segment → Option Framer) (framer : Option Framer) (s : Segment) (starts : ℕ → Bool → ℕ) (ls : List Label) (old new : List (Option Readers)) (r : Option Readers) → IsOfEnds framer_of → framer ≡ framer_of s
    → ReadsStreamsFrom framer_of starts ls old → IsOpening framer s ls old new → slice_get new (label_of s ls).stream ≡ Some r → framer_of s ≡ option_map (λ (x : Readers). x.framer) r
framer_is framer_of framer s starts ls old new r of_ends is reads opening =
    elim (goes_on (latest s ls) s ls) as (λ (o : Option ℕ). goes_on (latest s ls) s ls ≡ o → IsOpenedAt framer (label_on o s ls).stream old new → slice_get new (label_on o s ls).stream ≡ Some r → framer_of s ≡ option_map (λ (x : Readers). x.framer) r) [
      | Some number ↦ λ e at there.
          let goes = goes_at (latest s ls) s ls number e in
          let low : number < length old = omega (arith, latest_within (opened ls) s ls goes.0 opening.listed.below goes.1, goes.2, opening.listed.size) in
          let stays : new ≡ old = at.1 (λ same. omega (arith, low, same)) in
          let was : slice_get old number ≡ Some r = ap (λ (xs : List (Option Readers)). slice_get xs number) (sym stays) ∙ there in
          latest_has framer_of number (option_map (λ (x : Readers). x.framer) r) s goes.0 ls of_ends goes.2 goes.1 (reads.framers number r was)
      | None ↦ λ e at there.
          let last = at.0 (sym opening.listed.size) in
          let there : slice_get (old ++ last.0 ∷ []) (opened ls) ≡ Some r = ap (λ (xs : List (Option Readers)). slice_get xs (opened ls)) (sym last.2) ∙ there in
          let here : last.0 ≡ r = pushed (get_push old last.0 r (opened ls) there) in
          sym is ∙ sym (new_framer framer last.0 last.1) ∙ ap (option_map (λ (x : Readers). x.framer)) here
    ] refl opening.is
  where
    pushed : {x y : Option Readers} → (slice_get old (opened ls) ≡ Some y) ⊎ ((opened ls ≡ length old) × (x ≡ y)) → x ≡ y
    pushed {x} {y} (inl there) = absurd (omega (arith, slice_get_within old (opened ls) y there, opening.listed.size))
    pushed (inr last) = last.1

-- ---- a stream that is new

begun_reads : (framer : Framer) (reader : Reader) (side : Bool) → IsBegun reader → ReadsWayFrom framer [] side nothing 0 reader
begun_reads framer reader side is = record {
  cursor = subst (λ (c : Cursor). IsBehindFrom framer (asked_in side []) 0 0 0 c []) (sym is.cursor)
      (behind_from framer (asked_in side []) 0 0 (begun 0) [] (laws_of_cursors.begins framer (asked_in side []) 0 0 0 refl));
  heads = is.heads;
}

new_reads : (framer : Option Framer) (starts : Bool → ℕ) (number : ℕ) (ls : List Label) (r : Option Readers) → AllBelow number ls → ((side : Bool) → starts side ≡ 0) → IsNew framer r → ReadsStreamFrom starts ls number r
new_reads framer starts number ls None below begins new = tt
new_reads None starts number ls (Some r) below begins new = absurd (none-some r (sym new))
new_reads (Some framer) starts number ls (Some r) below begins new = λ side.
    rw (none_brought number ls below, none_new number ls below)
    (subst (λ (start : ℕ). ReadsWayFrom r.framer [] side nothing start (reader_of r side)) (sym (begins side)) (begun_reads r.framer (reader_of r side) side (new.1 side)))

pub opened_reads : (framer_of : Segment → Option Framer) (framer : Option Framer) (s : Segment) (starts : ℕ → Bool → ℕ) (ls : List Label) (old new : List (Option Readers)) → ReadsStreamsFrom framer_of starts ls old
    → ((side : Bool) → starts (length old) side ≡ 0) → IsOpening framer s ls old new → ReadsStreamsFrom framer_of starts ls new
opened_reads framer_of framer s starts ls old new reads begins opening = elim (eqb_tells (label_of s ls).stream (length old)) [
  | inr other ↦ subst (ReadsStreamsFrom framer_of starts ls) (sym (opening.is.1 other.1)) reads
  | inl here ↦
      let last = opening.is.0 here.1 in
      subst (ReadsStreamsFrom framer_of starts ls) (sym last.2) (record {
        framers = λ number r there. framers_at last.0 number r (get_push old last.0 r number there);
        each = λ number r there. each_at last.0 last.1 number r (get_push old last.0 r number there);
      })
]
  where
    below : (number : ℕ) → number ≡ length old → AllBelow number ls
    below number is = subst (λ (n : ℕ). AllBelow n ls) (sym (is ∙ opening.listed.size)) opening.listed.below

    framers_at : (x : Option Readers) (number : ℕ) (r : Option Readers) → (slice_get old number ≡ Some r) ⊎ ((number ≡ length old) × (x ≡ r)) → AllHave framer_of number (option_map (λ (x : Readers). x.framer) r) ls
    framers_at x number r (inl there) = reads.framers number r there
    framers_at x number r (inr last) = none_have framer_of number _ ls (below number last.0)

    each_at : (x : Option Readers) → IsNew framer x → (number : ℕ) (r : Option Readers) → (slice_get old number ≡ Some r) ⊎ ((number ≡ length old) × (x ≡ r)) → ReadsStreamFrom (starts number) ls number r
    each_at x new number r (inl there) = reads.each number r there
    each_at x new number r (inr last) =
        subst (ReadsStreamFrom (starts number) ls number) last.1
        (new_reads framer (starts number) number ls x (below number last.0) (λ side. ap (λ (n : ℕ). starts n side) last.0 ∙ begins side) new)

-- ---- a segment of a stream

-- other streams
skips : (starts later : Bool → ℕ) (number : ℕ) (l : Label) (ls : List Label) (r : Option Readers) → (l.stream ≡ number → ⊥) → ((side : Bool) → later side ≡ starts side)
    → ReadsStreamFrom starts ls number r → ReadsStreamFrom later (l ∷ ls) number r
skips starts later number l ls None apart same reads = tt
skips starts later number l ls (Some r) apart same reads = elim (eqb_tells l.stream number) [
  | inl here ↦ absurd (apart here.1)
  | inr other ↦ λ side. rw other.0
      (subst (λ (start : ℕ). ReadsWayFrom r.framer (noted r.framer (brought number ls)) side (way_of number side ls) start (reader_of r side)) (sym (same side)) (reads side))
]

-- what is known of the segment that was read: what is kept of its stream's directions before it, and of its own with it
pub record IsOf (l : Label) (ls : List Label) (u : Bool → WayState) (v : WayState) (taken : Taken) : Type 0 where
  pub stream : taken.stream ≡ l.stream
  pub side : side_of taken ≡ l.side
  pub ways : (side : Bool) → IsWay (u side)
  pub kept : (side : Bool) → IsKeptOf (way_of l.stream side ls) (u side)
  pub way : v ≡ own_step (u l.side) l.segment
  pub lost : taken.lost ≡ lost_in (u l.side)

-- its own
are_reads : (l : Label) (ls : List Label) (u : Bool → WayState) (v : WayState) (taken : Taken) (r : Readers) → IsOf l ls u v taken → ReadsStreamFrom (λ side. (u side).start) ls l.stream (Some r)
    → AreReads r.framer (noted r.framer (brought l.stream ls)) (λ side. way_of l.stream side ls) u r
are_reads l ls u v taken r of reads = record {
  ways = λ side. after_is side (sided_of l.stream ls);
  kept_ways = of.ways;
  kept = of.kept;
  found = λ side. brought_is r.framer l.stream side ls;
  reads = reads;
}

self : (n : ℕ) → eqb n n ≡ true
self n = elim (eqb_tells n n) [
  | inl same ↦ same.0
  | inr other ↦ absurd (other.1 refl)
]

-- where the newest stretches begin with the segment
abbrev pub next_starts : Label → (Bool → WayState) → Bool → ℕ
next_starts l u side = (way_step (is_own side l.side) (u side) l.segment).start

on_own : (l : Label) (ls : List Label) (u : Bool → WayState) (v : WayState) (taken : Taken) (old new : Readers) (messages : List Placed) → IsOf l ls u v taken
    → ReadsStreamFrom (λ side. (u side).start) ls l.stream (Some old) → IsReadOn v taken old new messages
    → (messages ≡ messages_at old.framer l ls) × ReadsStreamFrom (next_starts l u) (l ∷ ls) l.stream (Some new)
on_own l ls u v taken old new messages of reads on =
    let own = subst (λ (w : WayState). IsReadAtSide w l.side) of.way (subst (λ (b : Bool). IsReadAtSide v b) of.side on.own) in
    let kept : reader_of new (not l.side) ≡ reader_of old (not l.side) = subst (λ (b : Bool). reader_of new (not b) ≡ reader_of old (not b)) of.side on.other in
    let are = are_reads l ls u v taken old of reads in (
      both_shown old.framer (noted old.framer (brought l.stream ls)) (λ side. way_of l.stream side ls) u l.side l.segment taken.lost old new messages are own of.lost,
      λ side. rw (self l.stream) (subst (λ (a : Framer). ReadsWayFrom a (note_next a (noted a (brought l.stream ls)) (brought_by l ls) ∷ noted a (brought l.stream ls)) side (way_step (is_own side l.side) (way_of l.stream side ls) l.segment) (next_starts l u side) (reader_of new side)) (sym on.framer)
          (both_reads old.framer (noted old.framer (brought l.stream ls)) (λ b. way_of l.stream b ls) u l.side l.segment taken.lost old new messages are own of.lost kept side)),
    )
  where
    IsReadAtSide : WayState → Bool → Type 0
    IsReadAtSide w b = IsRead old.framer (reader_of old (not b)).heads.items w taken.lost (reader_of old b) (reader_of new b) messages

-- all streams, and where their newest stretches begin before the segment and with it
pub record IsReading (framer_of : Segment → Option Framer) (l : Label) (ls : List Label) (u : Bool → WayState) (v : WayState) (taken : Taken) (starts later : ℕ → Bool → ℕ) (mid : List (Option Readers)) : Type 0 where
  pub of : IsOf l ls u v taken
  pub low : l.stream < length mid
  pub reads : ReadsStreamsFrom framer_of starts ls mid
  pub knows : (r : Option Readers) → slice_get mid l.stream ≡ Some r → framer_of l.segment ≡ option_map (λ (x : Readers). x.framer) r
  pub here : (side : Bool) → starts l.stream side ≡ (u side).start
  pub next : (side : Bool) → later l.stream side ≡ next_starts l u side
  pub others : (number : ℕ) (side : Bool) → (l.stream ≡ number → ⊥) → later number side ≡ starts number side

abbrev Result : (Segment → Option Framer) → Label → List Label → (ℕ → Bool → ℕ) → List (Option Readers) → List Placed → Type 0
Result framer_of l ls later new messages = (messages ≡ messages_by (framer_of l.segment) l ls) × ReadsStreamsFrom framer_of later (l ∷ ls) new

same_some : {x y : Option Readers} → Some x ≡ Some y → x ≡ y
same_some {x} {y} e = ap (λ (o : Option (Option Readers)). unwrap_or o x) e

-- by other starts that are the same
starts_same : (starts later : Bool → ℕ) (number : ℕ) (ls : List Label) (r : Option Readers) → ((side : Bool) → later side ≡ starts side) → ReadsStreamFrom starts ls number r → ReadsStreamFrom later ls number r
starts_same starts later number ls None same reads = tt
starts_same starts later number ls (Some r) same reads = λ side.
    subst (λ (start : ℕ). ReadsWayFrom r.framer (noted r.framer (brought number ls)) side (way_of number side ls) start (reader_of r side)) (sym (same side)) (reads side)

read_none : (framer_of : Segment → Option Framer) (l : Label) (ls : List Label) (u : Bool → WayState) (v : WayState) (taken : Taken) (starts later : ℕ → Bool → ℕ) (mid new : List (Option Readers)) (messages : List Placed)
    → IsReading framer_of l ls u v taken starts later mid → slice_get mid l.stream ≡ Some None → new ≡ mid → messages ≡ [] → Result framer_of l ls later new messages
read_none framer_of l ls u v taken starts later mid new messages is there same none = (
  none ∙ ap (λ (a : Option Framer). messages_by a l ls) (sym (is.knows None there)),
  subst (ReadsStreamsFrom framer_of later (l ∷ ls)) (sym same) (record {
    framers = λ number r at. (λ here. is.knows r (ap (slice_get mid) here ∙ at), is.reads.framers number r at);
    each = each;
  }),
)
  where
    each : (number : ℕ) (r : Option Readers) → slice_get mid number ≡ Some r → ReadsStreamFrom (later number) (l ∷ ls) number r
    each number None at = tt
    each number (Some x) at =
        let apart : l.stream ≡ number → ⊥ = λ here. none-some x (same_some (sym there ∙ ap (slice_get mid) here ∙ at)) in
        skips (starts number) (later number) number l ls (Some x) apart (λ side. is.others number side apart) (is.reads.each number (Some x) at)

read_some : (framer_of : Segment → Option Framer) (l : Label) (ls : List Label) (u : Bool → WayState) (v : WayState) (taken : Taken) (starts later : ℕ → Bool → ℕ) (mid new : List (Option Readers)) (messages : List Placed) (x y : Readers)
    → IsReading framer_of l ls u v taken starts later mid → slice_get mid l.stream ≡ Some (Some x) → new ≡ slice_set mid l.stream (Some y) → IsReadOn v taken x y messages → Result framer_of l ls later new messages
read_some framer_of l ls u v taken starts later mid new messages x y is there set on = (
  own.0 ∙ ap (λ (a : Option Framer). messages_by a l ls) (sym (is.knows (Some x) there)),
  subst (ReadsStreamsFrom framer_of later (l ∷ ls)) (sym set) (record {
    framers = λ number r at. framers number r (get_set mid l.stream number (Some y) r at);
    each = λ number r at. each number r (get_set mid l.stream number (Some y) r at);
  }),
)
  where
    own : (messages ≡ messages_at x.framer l ls) × ReadsStreamFrom (next_starts l u) (l ∷ ls) l.stream (Some y)
    own = on_own l ls u v taken x y messages is.of (starts_same (starts l.stream) (λ side. (u side).start) l.stream ls (Some x) (λ side. sym (is.here side)) (is.reads.each l.stream (Some x) there)) on

    framers : (number : ℕ) (r : Option Readers) → ((l.stream ≡ number → ⊥) × (slice_get mid number ≡ Some r)) ⊎ ((l.stream ≡ number) × (Some y ≡ r))
        → AllHave framer_of number (option_map (λ (z : Readers). z.framer) r) (l ∷ ls)
    framers number r (inl other) = (λ same. absurd (other.0 same), is.reads.framers number r other.1)
    framers number r (inr here) =
        let named : Some x.framer ≡ option_map (λ (z : Readers). z.framer) r = ap Some (sym on.framer) ∙ ap (option_map (λ (z : Readers). z.framer)) here.1 in
        (λ same. is.knows (Some x) there ∙ named, subst (λ (a : Option Framer). AllHave framer_of number a ls) named (is.reads.framers number (Some x) (ap (slice_get mid) (sym here.0) ∙ there)))

    each : (number : ℕ) (r : Option Readers) → ((l.stream ≡ number → ⊥) × (slice_get mid number ≡ Some r)) ⊎ ((l.stream ≡ number) × (Some y ≡ r)) → ReadsStreamFrom (later number) (l ∷ ls) number r
    each number r (inl other) = skips (starts number) (later number) number l ls r other.0 (λ side. is.others number side other.0) (is.reads.each number r other.1)
    each number r (inr here) =
        subst (λ (k : ℕ). ReadsStreamFrom (later k) (l ∷ ls) k r) here.0
        (subst (ReadsStreamFrom (later l.stream) (l ∷ ls) l.stream) here.1 (starts_same (next_starts l u) (later l.stream) l.stream (l ∷ ls) (Some y) is.next own.1))

pub read_reads : (framer_of : Segment → Option Framer) (l : Label) (ls : List Label) (u : Bool → WayState) (v : WayState) (taken : Taken) (starts later : ℕ → Bool → ℕ) (mid new : List (Option Readers)) (messages : List Placed)
    → IsReading framer_of l ls u v taken starts later mid → IsReadAt v taken mid new messages → (messages ≡ messages_by (framer_of l.segment) l ls) × ReadsStreamsFrom framer_of later (l ∷ ls) new
read_reads framer_of l ls u v taken starts later mid new messages is read = by at.0 at.1 (read at.0 (ap (slice_get mid) is.of.stream ∙ at.1))
  where
    at : (r : Option Readers) × (slice_get mid l.stream ≡ Some r)
    at = get_there mid l.stream is.low

    by : (r : Option Readers) → slice_get mid l.stream ≡ Some r → IsReadFrom v taken mid new messages r → Result framer_of l ls later new messages
    by None there from = read_none framer_of l ls u v taken starts later mid new messages is there from.0 from.1
    by (Some x) there from = read_some framer_of l ls u v taken starts later mid new messages x from.0 is there (from.1 ∙ ap (λ (k : ℕ). slice_set mid k (Some from.0)) is.of.stream) from.2
