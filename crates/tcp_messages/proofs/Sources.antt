-- Where the bytes of messages are.
use Rattle.std.proofs.Common.{◌≡◌, ℕ, zero, suc, ◌+◌, ◌-◌, ◌^◌, ◌<◌, ◌≤◌, nat_eq, List, [], ◌∷◌, ◌++◌, length, map, take, drop, slice_range, slice_get, Option, Some, None, unwrap_or, eqb, refl, sym, ap, subst, ◌∙◌, arith, length-drop, append_assoc, ℤ}
use Rattle.std.specs.List.{starts_with}
use Rattle.std.proofs.lemmas.Option.{none-some, cond_some}
use Rattle.std.proofs.lemmas.Bool.{false≢true}
use Rattle.std.proofs.lemmas.List.{take-append-drop, length-take-le}
use Rattle.std.specs.Cmp.Lexicographic.{bytes_decides}
use Rattle.pk_base.specs.declared.stretch.Stretch.{Stretch}
use Rattle.std.specs.Prelude.{All, IsSome}
use Rattle.std.specs.FinMap.{get}
use Rattle.range_bytes.specs.Held.{Held, HoldsAll, IsFreeFrom, put_numbers, put_number}
use Rattle.range_bytes.proofs.Ascending.{all_put}
use Rattle.tcp_streams.specs.declared.segment.Segment.{Segment}
use Rattle.tcp_streams.specs.Parts.{LiesIn, LiesInOne, IsPart}
use Rattle.tcp_streams.specs.declared.streams.Streams.{Streams}
use Rattle.tcp_streams.specs.Standing.{AreReady, bytes_so_far, way_in}
use Rattle.tcp_streams.specs.Ways.{WayState, stretches, end_of, IsWay, AreApart, AreShort}
use Rattle.stream_messages.specs.declared.framer.Framer.{Framer}
use Rattle.stream_messages.specs.declared.placed.Placed.{Placed}
use Rattle.stream_messages.specs.Tellings.{end_of as told_end, first_of}
use Rattle.stream_messages.specs.Messages.{end_at}
use Rattle.stream_messages.specs.Cursors.{IsWhole, IsWholeInOne}
use Rattle.stream_messages.proofs.FirstLemmas.{first_shrinks}
use Rattle.tcp_messages.specs.declared.met.Gathered.{Gathered}
use Rattle.tcp_messages.specs.declared.met.ShownMessage.{ShownMessage}
use Rattle.tcp_messages.specs.declared.met.Source.{Source}
use Rattle.tcp_messages.specs.declared.met.Source.TheVariants as sources
use Rattle.tcp_messages.specs.Shown.{AreFramedIn, IsFramedIn, IsMessage, IsMessageBy, IsWholeIn, located, frames_in, frames_told, place_of}
use Rattle.tcp_messages.specs.Reading.{AreWholeIn, IsSomeWhole}
use Rattle.tcp_messages.proofs.Growing.{apart_order}

-- ---- the frames of gathered messages

abbrev pub all_frames : List ShownMessage → List ℕ
all_frames [] = []
all_frames (m ∷ ms) = frames_in m.source ++ all_frames ms

put_append : (xs ys zs : List ℕ) → put_numbers (xs ++ ys) zs ≡ put_numbers xs (put_numbers ys zs)
put_append [] ys zs = refl
put_append (x ∷ xs) ys zs = ap (put_number x) (put_append xs ys zs)

pub all_told : (ms : List ShownMessage) → all_put (all_frames ms) ≡ frames_told ms
all_told [] = refl
all_told (m ∷ ms) = put_append (frames_in m.source) (all_frames ms) [] ∙ ap (put_numbers (frames_in m.source)) (all_told ms)

-- a run does not end before what is held
pub not_free : (held : Held) (from to at end : ℕ) → IsFreeFrom held from to → at ≤ to → to < end → HoldsAll held at end → ⊥
not_free held from to at end run low high all = some-none (get held to) run.free (all to low high)
  where
    some-none : {X : Type 0} (o : Option X) → o ≡ None → IsSome o → ⊥
    some-none None is some = false≢true some
    some-none (Some x) is some = none-some x (sym is)

-- ---- the bytes of a message

-- a stretch ends at or before the direction's end
ends_in : (low : ℕ) (xs : List Stretch) (last : Stretch) (i : ℕ) (x : Stretch) → AreApart low xs last.start → slice_get (xs ++ last ∷ []) i ≡ Some x
    → x.start + length x.bytes ≤ last.start + length last.bytes
ends_in low [] last zero x apart = λ e. subst (λ (s : Stretch). s.start + length s.bytes ≤ last.start + length last.bytes) (ap (λ (o : Option Stretch). unwrap_or o x) e) (omega arith)
ends_in low [] last (suc i) x apart = λ e. absurd (none-some x e)
ends_in low (y ∷ xs) last zero x apart = λ e.
    let order = apart_order (y.start + length y.bytes + 1) xs last.start apart.1 in
    subst (λ (s : Stretch). s.start + length s.bytes ≤ last.start + length last.bytes) (ap (λ (o : Option Stretch). unwrap_or o x) e) (omega (arith, order))
ends_in low (y ∷ xs) last (suc i) x apart = λ e. ends_in (y.start + length y.bytes + 1) xs last i x apart.1 e

pub ends_within : (v : WayState) (m : Placed) → IsWay v → IsSomeWhole (stretches v) m → end_at m ≤ end_of v
ends_within v m way some =
    let ends = ends_in 0 v.earlier (record { start = v.start; bytes = v.front }) some.1.0 some.1.1 way.apart some.1.2 in
    omega (arith, some.1.3.within, ends)

-- and has fewer than 2^32 bytes, as all segments have
short_at : (most : ℕ) (ss : List Stretch) (i : ℕ) (s : Stretch) → AreShort most ss → slice_get ss i ≡ Some s → length s.bytes ≤ most
short_at most [] i s short = λ e. absurd (none-some s e)
short_at most (x ∷ ss) zero s short = λ e. subst (λ (t : Stretch). length t.bytes ≤ most) (ap (λ (o : Option Stretch). unwrap_or o x) e) short.0
short_at most (x ∷ ss) (suc i) s short = λ e. short_at most ss i s short.1 e

pub is_short : (streams : Streams) (stream side : ℕ) (m : Placed) → AreReady streams → IsSomeWhole (stretches (way_in streams stream side)) m → told_end m.told < 2 ^ 32
is_short streams stream side m ready some =
    let long = short_at (bytes_so_far streams) (stretches (way_in streams stream side)) some.1.0 some.1.1 (ready.short stream (eqb side 1)) some.1.2 in
    omega (arith, long, ready.few, some.1.3.from, some.1.3.within)

pub lies_in_one : (ss : List Stretch) (m : Placed) (to : ℕ) → IsSomeWhole ss m → to ≡ end_at m → LiesInOne ss m.at to
lies_in_one ss m to some ends = (some.1.0, some.1.1, some.1.2, record { low = some.1.3.from; order = omega (arith, ends); high = omega (arith, ends, some.1.3.within) })

-- the bytes from a message's place on, as many as it has, are the message
pub part_by : (framer : Framer) (ss : List Stretch) (m : Placed) (to : ℕ) (bytes : List ℕ) → IsWholeInOne framer ss m → to ≡ end_at m → IsPart ss m.at to bytes → IsMessageBy framer m.told bytes × (length bytes ≡ told_end m.told)
unfolding lies_in_one
part_by framer ss m to bytes one ends part =
    let s : Stretch = one.1 in
    let whole : IsWhole framer s.start s.bytes m = one.3 in
    let lies : LiesIn s m.at to = (lies_in_one ss m to (framer, one) ends).3 in
    let rest : List ℕ = drop (m.at - s.start) s.bytes in
    let size : (to - s.start) - (m.at - s.start) ≡ told_end m.told = omega (arith, ends, whole.from) in
    let is : bytes ≡ take (told_end m.told) rest = part one.0 s one.2 lies ∙ ap (λ (n : ℕ). take n rest) size in
    let far : length rest ≡ length s.bytes - (m.at - s.start) = length-drop (m.at - s.start) s.bytes in
    let long : length (take (told_end m.told) rest) ≡ told_end m.told = length-take-le (told_end m.told) rest (omega (arith, far, whole.within, whole.from)) in
    let first : first_of framer whole.first.0 (take (told_end m.told) rest ++ drop (told_end m.told) rest) ≡ Some m.told =
    ap (first_of framer whole.first.0) (take-append-drop (told_end m.told) rest) ∙ whole.first.1 in
    let here : first_of framer whole.first.0 (take (told_end m.told) rest) ≡ Some m.told =
    first_shrinks framer whole.first.0 (take (told_end m.told) rest) (drop (told_end m.told) rest) m.told first (omega (arith, long)) in (
      subst (IsMessageBy framer m.told) (sym is) (whole.first.0, here, sym long),
      ap length is ∙ long,
    )

pub part_is : (ss : List Stretch) (m : Placed) (to : ℕ) (bytes : List ℕ) → IsSomeWhole ss m → to ≡ end_at m → IsPart ss m.at to bytes → IsMessage m.told bytes × (length bytes ≡ told_end m.told)
part_is ss m to bytes some ends part =
    let by = part_by some.0 ss m to bytes some.1 ends part in
    ((some.0, by.0.0, by.0.1, by.0.2), by.1)

-- where it is shown
pub gathered_whole : (payload : List ℕ) (m : Placed) (g : Gathered) (bytes : List ℕ) → g.bytes ≡ bytes → IsMessage m.told bytes × (length bytes ≡ told_end m.told) → told_end m.told < 2 ^ 32
    → IsWholeIn payload (record { message = m; source = sources.Gathered g })
gathered_whole payload m g bytes same is short = record { is = subst (IsMessage m.told) (sym same) is.0; short = short }

place_is : (payload bytes : List ℕ) (o : Option ℕ) (place : ℕ) → place_of payload bytes o ≡ Some place → take (length bytes) (drop place payload) ≡ bytes
place_is payload bytes None place = λ e. absurd (none-some place e)
place_is payload bytes (Some k) place = λ e.
    let says = cond_some (starts_with nat_eq (drop k payload) bytes) k place e in
    ap (λ (n : ℕ). take (length bytes) (drop n payload)) (sym says.1)
    ∙ sym ((bytes_decides bytes (take (length bytes) (drop k payload))).0 says.0)

in_segment : (payload part bytes : List ℕ) (len : ℕ) (o : Option ℕ) (place : ℕ) → part ≡ payload → place_of part bytes o ≡ Some place → length bytes ≡ len
    → slice_range payload place (place + len) ≡ bytes
in_segment payload part bytes len o place all e long =
    let size : (place + len) - place ≡ length bytes = omega (arith, long) in
    ap (λ (n : ℕ). take n (drop place payload)) size ∙ ap (λ (b : List ℕ). take (length bytes) (drop place b)) (sym all) ∙ place_is part bytes o place e

pub segment_whole : (payload part : List ℕ) (m : Placed) (bytes : List ℕ) (o : Option ℕ) (place : ℕ) → part ≡ payload → place_of part bytes o ≡ Some place → IsMessage m.told bytes × (length bytes ≡ told_end m.told)
    → told_end m.told < 2 ^ 32 → IsWholeIn payload (record { message = m; source = sources.Segment place })
segment_whole payload part m bytes o place all e is short =
    record { is = subst (IsMessage m.told) (sym (in_segment payload part bytes (told_end m.told) o place all e is.1)) is.0; short = short }

pub segment_framed : (framer : Framer) (payload part : List ℕ) (m : Placed) (bytes : List ℕ) (o : Option ℕ) (place : ℕ) → part ≡ payload → place_of part bytes o ≡ Some place
    → IsMessageBy framer m.told bytes × (length bytes ≡ told_end m.told) → IsFramedIn framer payload (record { message = m; source = sources.Segment place })
segment_framed framer payload part m bytes o place all e is =
    subst (IsMessageBy framer m.told) (sym (in_segment payload part bytes (told_end m.told) o place all e is.1)) is.0

-- messages of which all are framed so
pub framed_all : (framer : Option Framer) (payload : List ℕ) (ss : List Stretch) (ms : List Placed) (shown : List ShownMessage)
    → ((known : Framer) → All (IsWholeInOne known ss) ms → All (IsFramedIn known payload) shown) → (ms ≡ [] → shown ≡ [])
    → AreWholeIn framer ss ms → AreFramedIn framer payload shown
framed_all None payload ss ms shown some none whole = none whole
framed_all (Some framer) payload ss ms shown some none whole = some framer whole

pub none_of : (shown : List ShownMessage) → length shown ≡ 0 → shown ≡ []
none_of [] none = refl
none_of (m ∷ ms) none = absurd (omega (arith, none))

-- one message more
pub locate_more : (held : Held) (s : Segment) (position : ℤ) (shown : List ShownMessage) (m : Placed) (source : Source) (rest left : List Placed) (all : List ShownMessage) → rest ≡ m ∷ left
    → source ≡ (located held s position m).source → shown ++ map (located held s position) rest ≡ all
    → (shown ++ record { message = m; source = source } ∷ []) ++ map (located held s position) left ≡ all
locate_more held s position shown m source rest left all rest_is is was =
    append_assoc shown (record { message = m; source = source } ∷ []) (map (located held s position) left)
    ∙ ap (λ (x : Source). shown ++ record { message = m; source = x } ∷ map (located held s position) left) is
    ∙ ap (λ (xs : List Placed). shown ++ map (located held s position) xs) (sym rest_is)
    ∙ was
