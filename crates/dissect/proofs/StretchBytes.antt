-- The bytes of a direction's stretches are those that it holds, and so are those of each message in them.
use Rattle.std.proofs.Common.{◌≡◌, ℕ, zero, suc, ◌+◌, ◌-◌, ◌<◌, ◌≤◌, Bool, true, false, List, [], ◌∷◌, ◌++◌, length, map, take, drop, Option, Some, None, refl, sym, ap, ◌∙◌, arith}
use Rattle.std.specs.FinMap.{get}
use Rattle.std.proofs.lemmas.Bool.{cond-false, cond-true, le-ltb, lt-ltb}
use Rattle.std.proofs.lemmas.List.{map-append}
use Rattle.pk_base.specs.declared.stretch.Stretch.{Stretch}
use Rattle.range_bytes.specs.Held.{Held, HoldsAll, byte_of, bytes_at, put_run}
use Rattle.tcp_streams.specs.Gaps.{first_free, gaps, gaps_on, left_behind, next_from}
use Rattle.tcp_streams.specs.Labels.{Label, sided_of, way_of}
use Rattle.tcp_streams.specs.Numbers.{ahead, first_number, place, taken_bytes}
use Rattle.tcp_streams.specs.Ways.{AreApart, IsPlace, IsWay, Sided, WayState, end_of as end_in, front_for, lost_in, origin_for, other_step, own_step, same_side, start_for, stretches, way_after, way_step}
use Rattle.tcp_streams.specs.declared.segment.Segment.{Segment}
use Rattle.tcp_streams.proofs.Places.{length-bytes_at, next_is, place_jump, put_stays}
use Rattle.tcp_streams.proofs.WayLemmas.{after_is}
use Rattle.stream_messages.specs.declared.placed.Placed.{Placed}
use Rattle.stream_messages.specs.declared.shape.Then.{Then}
use Rattle.stream_messages.specs.declared.shape.Then.TheVariants.{Follows, Opaque}
use Rattle.stream_messages.specs.declared.framer.Framer.{Framer}
use Rattle.pk_fields.specs.declared.apps.App.{App}
use Rattle.stream_messages.specs.declared.told.Told.{Told}
use Rattle.stream_messages.specs.Messages.{Asked, answered, end_at, follow, messages, of_front, of_stretches, with_first}
use Rattle.stream_messages.specs.Tellings.{answers, end_of, first_of, passed, then_of}
use Rattle.stream_messages.proofs.FirstLemmas.{first_some, first_within}
use Rattle.dissect.specs.MessageLaws.{MessageShown, bytes_in, message_in}
use Rattle.dissect.proofs.MessagesFit.{message_held}
use Rattle.dissect.proofs.HeldBytes.{bytes_stay}

-- ---- stretches

-- a direction holds all the bytes of a stretch
pub record IsKept (held : Held) (s : Stretch) : Type 0 where
  pub run : HoldsAll held s.start (s.start + length s.bytes)
  pub bytes : s.bytes ≡ bytes_at held s.start (length s.bytes)

abbrev AreKept : Held → List Stretch → Type 0
AreKept held [] = Unit {0}
AreKept held (s ∷ ss) = IsKept held s × AreKept held ss

kept_append : (held : Held) (xs ys : List Stretch) → AreKept held xs → AreKept held ys → AreKept held (xs ++ ys)
kept_append held [] ys before after = after
kept_append held (x ∷ xs) ys before after = (before.0, kept_append held xs ys before.1 after)

kept_stay : (held : Held) (p : ℕ) (bytes : List ℕ) (frame : ℕ) (xs : List Stretch) → AreKept held xs → AreKept (put_run held p bytes frame) xs
kept_stay held p bytes frame [] all = tt
kept_stay held p bytes frame (x ∷ xs) all = (
  record {
    run = λ q low high. put_stays held p bytes frame q (all.0.run q low high);
    bytes = all.0.bytes ∙ sym (bytes_stay held p bytes frame x.start (length x.bytes) all.0.run);
  },
  kept_stay held p bytes frame xs all.1,
)

kept_part : (held : Held) (start front : ℕ) → IsPlace held start front → IsKept held (record { start = start; bytes = bytes_at held start (front - start) })
kept_part held start front place =
    let size : length (bytes_at held start (front - start)) ≡ front - start = length-bytes_at held start (front - start) in
    let order : start ≤ front = place.order in
    record {
      run = λ q low high. place.run q low (omega (arith, size, order, high));
      bytes = ap (bytes_at held start) (sym size);
    }

kept_past : (n : ℕ) (held : Held) (acked start front : ℕ) → IsPlace held start front → AreKept held (left_behind held start (gaps n held acked front))
kept_past zero held acked start front place = tt
kept_past (suc n) held acked start front place =
    elim (next_from (acked - front) held (front + 1)) as (λ o. next_from (acked - front) held (front + 1) ≡ o → AreKept held (left_behind held start (gaps_on (gaps n held acked) held front o))) [
      | None ↦ λ e. tt
      | Some next ↦ λ e. (
        kept_part held start front place,
        kept_past n held acked next (first_free held next) (place_jump held start front next place (next_is (acked - front) held (front + 1) next e).first),
      )
    ] refl

own_kept : (w : WayState) (s : Segment) → IsWay w → AreKept w.held w.earlier → AreKept (own_step w s).held (own_step w s).earlier
unfolding own_step
own_kept w s way all =
    let u = ahead (origin_for w s) (front_for w) (first_number s) in
    kept_stay w.held (place (start_for w) (front_for w) u) (taken_bytes (start_for w) (front_for w) u s.payload) s.frame (w.earlier ++ left_behind w.held w.start (lost_in w))
    (kept_append w.held w.earlier (left_behind w.held w.start (lost_in w)) all (kept_past (w.acked - end_in w) w.held w.acked w.start (end_in w) way.place))

other_kept : (w : WayState) (s : Segment) → AreKept w.held w.earlier → AreKept (other_step w s).held (other_step w s).earlier
unfolding other_step
other_kept w s all = all

step_kept : (own : Bool) (w : WayState) (s : Segment) → IsWay w → AreKept w.held w.earlier → AreKept (way_step own w s).held (way_step own w s).earlier
step_kept true w s way all = own_kept w s way all
step_kept false w s way all = other_kept w s all

after_kept : (side : Bool) (ls : List Sided) → AreKept (way_after side ls).held (way_after side ls).earlier
after_kept side [] = tt
after_kept side (l ∷ ls) = step_kept (same_side side l.side) (way_after side ls) l.segment (after_is side ls) (after_kept side ls)

-- they stand one behind the other
abbrev pub AreRuns : Held → ℕ → List Stretch → Type 0
AreRuns held low [] = Unit {0}
AreRuns held low (s ∷ ss) = (low ≤ s.start) × (s.bytes ≡ bytes_at held s.start (length s.bytes)) × AreRuns held (s.start + length s.bytes) ss

runs_are : (held : Held) (low lower : ℕ) (xs : List Stretch) (last : Stretch) → lower ≤ low → AreApart low xs last.start → AreKept held xs → last.bytes ≡ bytes_at held last.start (length last.bytes) → AreRuns held lower (xs ++ last ∷ [])
runs_are held low lower [] last less apart kept is = (omega (arith, less, apart), is, tt)
runs_are held low lower (x ∷ xs) last less apart kept is =
    (omega (arith, less, apart.0), kept.0.bytes, runs_are held (x.start + length x.bytes + 1) (x.start + length x.bytes) xs last (omega arith) apart.1 kept.1 is)

pub way_runs : (side : Bool) (ls : List Sided) → AreRuns (way_after side ls).held 0 (stretches (way_after side ls))
way_runs side ls =
    let w : WayState = way_after side ls in
    let way : IsWay w = after_is side ls in
    runs_are w.held 0 0 w.earlier (record { start = w.start; bytes = w.front }) (omega arith) way.apart (after_kept side ls) way.bytes

-- ---- messages

-- those that lie between two positions
abbrev pub AreWithin : ℕ → ℕ → List Placed → Type 0
AreWithin low high [] = Unit {0}
AreWithin low high (m ∷ ms) = (low ≤ m.at) × (m.at < high) × (end_at m ≤ high) × AreWithin low high ms

within_wider : (low lower high : ℕ) (ms : List Placed) → lower ≤ low → AreWithin low high ms → AreWithin lower high ms
within_wider low lower high [] less all = tt
within_wider low lower high (m ∷ ms) less all = (omega (arith, less, all.0), all.1, all.2, within_wider low lower high ms less all.3)

follow_within : (low high : ℕ) (next : Then) (ms : List Placed) → AreWithin low high ms → AreWithin low high (follow next ms)
follow_within low high (Follows count) ms all = all
follow_within low high Opaque ms all = tt

first_in : (low high : ℕ) (o : Option Told) (more : Told → List Placed) → ((told : Told) → o ≡ Some told → (0 < end_of told) × (low + end_of told ≤ high))
    → ((told : Told) → AreWithin low high (more told)) → AreWithin low high (with_first low o more)
first_in low high None more one rest = tt
first_in low high (Some told) more one rest =
    let here = one told refl in
    (omega arith, omega (arith, here.0, here.1), here.1, follow_within low high (then_of told) (more told) (rest told))

messages_within : (framer : Framer) (asked : Asked) (count at skip high : ℕ) (bytes : List ℕ) → high ≡ at + length bytes → AreWithin at high (messages framer asked count at skip bytes)
unfolding messages
messages_within framer asked count at skip high [] is = tt
messages_within framer asked count at (suc skip) high (b ∷ rest) is =
    within_wider (suc at) at high (messages framer asked count (suc at) skip rest) (omega arith) (messages_within framer asked count (suc at) skip high rest (omega (arith, is)))
messages_within framer asked count at zero high (b ∷ rest) is =
    first_in at high (first_of framer (asked at count) (b ∷ rest))
    (λ (told : Told). messages framer asked (count + answers told) (suc at) (end_of told - 1 + passed (then_of told)) rest)
    (λ told e. (first_some framer (asked at count) (b ∷ rest) told e, omega (arith, is, first_within framer (asked at count) (b ∷ rest) told e)))
    (λ told. within_wider (suc at) at high (messages framer asked (count + answers told) (suc at) (end_of told - 1 + passed (then_of told)) rest) (omega arith)
    (messages_within framer asked (count + answers told) (suc at) (end_of told - 1 + passed (then_of told)) high rest (omega (arith, is))))

-- so many bytes of what is held
first_part : (held : Held) (from n len : ℕ) → n ≤ len → take n (bytes_at held from len) ≡ bytes_at held from n
first_part held from zero len few = refl
first_part held from (suc n) zero few = absurd (omega (arith, few))
first_part held from (suc n) (suc len) few = ap (λ (rest : List ℕ). byte_of (get held from) ∷ rest) (first_part held (from + 1) n len (omega (arith, few)))

part_held : (held : Held) (from k n len : ℕ) → k + n ≤ len → take n (drop k (bytes_at held from len)) ≡ bytes_at held (from + k) n
part_held held from zero n len few = first_part held from n len (omega (arith, few)) ∙ ap (λ (p : ℕ). bytes_at held p n) (omega arith)
part_held held from (suc k) n zero few = absurd (omega (arith, few))
part_held held from (suc k) n (suc len) few =
    part_held held (from + 1) k n len (omega (arith, few)) ∙ ap (λ (p : ℕ). bytes_at held p n) (omega arith)

-- those of a stretch that comes first
own_bytes : (held : Held) (s : Stretch) (ss : List Stretch) (m : Placed) → s.bytes ≡ bytes_at held s.start (length s.bytes) → s.start ≤ m.at → m.at < s.start + length s.bytes → end_at m ≤ s.start + length s.bytes
    → bytes_in (s ∷ ss) m.at (end_of m.told) ≡ bytes_at held m.at (end_of m.told)
own_bytes held s ss m is low inside high =
    let n : ℕ = end_of m.told in
    let at : s.start + (m.at - s.start) ≡ m.at = omega (arith, low) in
    cond-true _ _ _ (lt-ltb m.at (s.start + length s.bytes) inside)
    ∙ ap (λ (bytes : List ℕ). take n (drop (m.at - s.start) bytes)) is
    ∙ part_held held s.start (m.at - s.start) n (length s.bytes) (omega (arith, low, high))
    ∙ ap (λ (p : ℕ). bytes_at held p n) at

own_messages : (app : App) (held : Held) (s : Stretch) (ss : List Stretch) (ms : List Placed) → s.bytes ≡ bytes_at held s.start (length s.bytes) → AreWithin s.start (s.start + length s.bytes) ms
    → map (message_in app (s ∷ ss)) ms ≡ map (message_held app held) ms
own_messages app held s ss [] is all = refl
own_messages app held s ss (m ∷ ms) is all =
    ap (λ (bytes : List ℕ). record { app = app; bytes = bytes } ∷ map (message_in app (s ∷ ss)) ms) (own_bytes held s ss m is all.0 all.1 all.2)
    ∙ ap (λ (rest : List MessageShown). message_held app held m ∷ rest) (own_messages app held s ss ms is all.3)

-- and those of the others
abbrev AreFrom : ℕ → List Placed → Type 0
AreFrom low [] = Unit {0}
AreFrom low (m ∷ ms) = (low ≤ m.at) × AreFrom low ms

from_append : (low : ℕ) (ms ns : List Placed) → AreFrom low ms → AreFrom low ns → AreFrom low (ms ++ ns)
from_append low [] ns before after = after
from_append low (m ∷ ms) ns before after = (before.0, from_append low ms ns before.1 after)

from_lower : (low lower : ℕ) (ms : List Placed) → lower ≤ low → AreFrom low ms → AreFrom lower ms
from_lower low lower [] less all = tt
from_lower low lower (m ∷ ms) less all = (omega (arith, less, all.0), from_lower low lower ms less all.1)

within_from : (low high : ℕ) (ms : List Placed) → AreWithin low high ms → AreFrom low ms
within_from low high [] all = tt
within_from low high (m ∷ ms) all = (all.0, within_from low high ms all.3)

front_within : (framer : Framer) (asked : Asked) (count : ℕ) (s : Stretch) → AreWithin s.start (s.start + length s.bytes) (of_front framer asked count s.start s.bytes)
front_within framer asked count s = messages_within framer asked count s.start 0 (s.start + length s.bytes) s.bytes refl

stretches_from : (framer : Framer) (asked : Asked) (held : Held) (count low : ℕ) (ss : List Stretch) → AreRuns held low ss → AreFrom low (of_stretches framer asked count ss)
stretches_from framer asked held count low [] runs = tt
stretches_from framer asked held count low (s ∷ ss) runs =
    let front : List Placed = of_front framer asked count s.start s.bytes in
    from_append low front _ (from_lower s.start low front runs.0 (within_from s.start (s.start + length s.bytes) front (front_within framer asked count s)))
    (from_lower (s.start + length s.bytes) low _ (omega (arith, runs.0)) (stretches_from framer asked held (answered count front) (s.start + length s.bytes) ss runs.2))

other_messages : (app : App) (s : Stretch) (ss : List Stretch) (ms : List Placed) → AreFrom (s.start + length s.bytes) ms → map (message_in app (s ∷ ss)) ms ≡ map (message_in app ss) ms
other_messages app s ss [] all = refl
other_messages app s ss (m ∷ ms) all =
    ap (λ (bytes : List ℕ). record { app = app; bytes = bytes } ∷ map (message_in app (s ∷ ss)) ms) (cond-false _ _ _ (le-ltb m.at (s.start + length s.bytes) all.0))
    ∙ ap (λ (rest : List MessageShown). message_in app ss m ∷ rest) (other_messages app s ss ms all.1)

all_held : (app : App) (framer : Framer) (asked : Asked) (held : Held) (count low : ℕ) (ss : List Stretch) → AreRuns held low ss
    → map (message_in app ss) (of_stretches framer asked count ss) ≡ map (message_held app held) (of_stretches framer asked count ss)
all_held app framer asked held count low [] runs = refl
all_held app framer asked held count low (s ∷ ss) runs =
    let front : List Placed = of_front framer asked count s.start s.bytes in
    let rest : List Placed = of_stretches framer asked (answered count front) ss in
    map-append (message_in app (s ∷ ss)) front rest
    ∙ ap (λ (ms : List MessageShown). ms ++ map (message_in app (s ∷ ss)) rest) (own_messages app held s ss front runs.1 (front_within framer asked count s))
    ∙ ap (λ (ms : List MessageShown). map (message_held app held) front ++ ms)
    (other_messages app s ss rest (stretches_from framer asked held (answered count front) (s.start + length s.bytes) ss runs.2) ∙ all_held app framer asked held (answered count front) (s.start + length s.bytes) ss runs.2)
    ∙ sym (map-append (message_held app held) front rest)

pub stretches_held : (app : App) (framer : Framer) (asked : Asked) (stream : ℕ) (side : Bool) (ls : List Label)
    → map (message_in app (stretches (way_of stream side ls))) (of_stretches framer asked 0 (stretches (way_of stream side ls)))
    ≡ map (message_held app (way_of stream side ls).held) (of_stretches framer asked 0 (stretches (way_of stream side ls)))
stretches_held app framer asked stream side ls =
    all_held app framer asked (way_of stream side ls).held 0 0 (stretches (way_of stream side ls)) (way_runs side (sided_of stream ls))
