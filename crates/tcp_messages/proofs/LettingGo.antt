-- Readers of streams of which bytes are let go.
use Rattle.std.proofs.Common.{◌≡◌, ℕ, ◌+◌, ◌-◌, ◌≤◌, min, Bool, true, not, List, length, drop, Option, None, Some, option_map, unwrap_or, slice_get, slice_set, sym, ap, subst, ◌∙◌, inl, inr, arith}
use Rattle.std.specs.Prelude.{◌⊎◌}
use Rattle.std.proofs.lemmas.Bool.{cond-true}
use Rattle.std.proofs.lemmas.Option.{none-some}
use Rattle.std.proofs.Math.ListN.{length-set}
use Rattle.tcp_streams.specs.declared.segment.Segment.{Segment}
use Rattle.tcp_streams.specs.declared.streams.Streams.{Streams}
use Rattle.tcp_streams.specs.Labels.{Label, labels, way_of}
use Rattle.tcp_streams.specs.LetGo.{IsLetGoTo, StandsFrom}
use Rattle.tcp_streams.specs.Ways.{WayState, end_of}
use Rattle.tcp_streams.specs.Standing.{streams_of, way_kept}
use Rattle.stream_messages.specs.declared.framer.Framer.{Framer}
use Rattle.stream_messages.specs.declared.cursor.Cursor.{Cursor}
use Rattle.stream_messages.specs.Cursors.{goes, next_at}
use Rattle.stream_messages.specs.Moved.{spare_of, IsMovedBy, StandsAlike}
use Rattle.stream_messages.specs.Sides.{Noted, asked_in, noted}
use Rattle.tcp_messages.specs.declared.readers.Reader.{Reader}
use Rattle.tcp_messages.specs.declared.readers.Readers.{Readers}
use Rattle.tcp_messages.specs.Brought.{brought}
use Rattle.tcp_messages.specs.LetGo.{gone_of, AreMovedOn, IsLetGoOf, IsMovedAt, IsMovedOn, IsSettled}
use Rattle.tcp_messages.specs.Readers.{AllHave, AreSound, IsRight, ReadsStreamFrom, ReadsStreamsFrom, ReadsWayFrom, reader_of, starts_of}
use Rattle.tcp_messages.proofs.Bridging.{kept_at}
use Rattle.tcp_messages.proofs.Keeping.{same_or}
use Rattle.tcp_messages.proofs.Streaming.{get_set}

-- ---- one reader

-- what may go lies before the next message
pub spare_low : (c : Cursor) (len gone : ℕ) → gone ≤ spare_of c len → goes c.next ≡ true → gone ≤ next_at c.mark
spare_low c len gone within may =
    let is : spare_of c len ≡ min (next_at c.mark) len = cond-true (goes c.next) _ _ may in
    omega (arith, within, is)

pub moved_alike : (gone : ℕ) (old mid new : Cursor) → StandsAlike old mid → IsMovedBy gone mid new → IsMovedBy gone old new
moved_alike gone old mid new alike moved = record {
  behind = λ framer asked count first start front room is. moved.behind framer asked count first start front room (alike.behind framer asked count first start front is);
  sound = λ framer front within sound. moved.sound framer front within (alike.sound framer front sound);
  quiet = λ framer front within quiet. moved.quiet framer front within (alike.quiet framer front quiet);
}

pub moved_on : (gone len spare : ℕ) (old mid new : Reader) → IsSettled old mid len spare → IsMovedOn gone mid new → IsMovedOn gone old new
moved_on gone len spare old mid new settled moved = record {
  cursor = moved_alike gone old.cursor mid.cursor new.cursor settled.alike moved.cursor;
  heads = moved.heads ∙ settled.heads;
}

-- ---- all readers

same_readers : (p r : Readers) → Some r ≡ Some p → p ≡ r
same_readers p r e = sym (ap (λ (o : Option Readers). unwrap_or o r) e)

-- what holds of each reader, where it holds of those that stay, and of the two of the stream
each_on : (P Q : Readers → ℕ → Bool → Type 0) (number : ℕ) (side : Bool) (gone : ℕ) (readers : List (Option Readers)) (was now : Option Readers)
    → slice_get readers number ≡ Some was → IsMovedAt side gone was now
    → ((r : Readers) (k : ℕ) (one : Bool) → (k ≡ number → ⊥) → P r k one → Q r k one)
    → ((q p : Readers) → AreMovedOn side gone q p → P q number side → Q p number side)
    → ((q p : Readers) → AreMovedOn side gone q p → P q number (not side) → Q p number (not side))
    → ((k : ℕ) (r : Readers) → slice_get readers k ≡ Some (Some r) → (one : Bool) → P r k one)
    → (k : ℕ) (r : Readers) → slice_get (slice_set readers number now) k ≡ Some (Some r) → (one : Bool) → Q r k one
each_on P Q number side gone readers was now there moved else own other all k r at one = by (get_set readers number k now (Some r) at)
  where
    own_by : (q p : Readers) → slice_get readers number ≡ Some (Some q) → AreMovedOn side gone q p → (one ≡ side) ⊎ (one ≡ not side) → Q p number one
    own_by q p at are (inl e) = subst (Q p number) (sym e) (own q p are (all number q at side))
    own_by q p at are (inr e) = subst (Q p number) (sym e) (other q p are (all number q at (not side)))

    here : (was : Option Readers) → slice_get readers number ≡ Some was → IsMovedAt side gone was (Some r) → Q r number one
    here None at moved = absurd (none-some r (sym moved))
    here (Some q) at moved = subst (λ (p : Readers). Q p number one) (same_readers moved.0 r moved.1) (own_by q moved.0 at moved.2 (same_or side one))

    by : ((number ≡ k → ⊥) × (slice_get readers k ≡ Some (Some r))) ⊎ ((number ≡ k) × (now ≡ Some r)) → Q r k one
    by (inl apart) = else r k one (λ e. apart.0 (sym e)) (all k r apart.1 one)
    by (inr same) = subst (λ (n : ℕ). Q r n one) same.0 (here was there (subst (IsMovedAt side gone was) same.1 moved))

-- ---- what is kept is right

right_on : (framer : Framer) (gone : ℕ) (old new : Cursor) (front : List ℕ) → gone ≤ length front → IsMovedBy gone old new → IsRight framer old front → IsRight framer new (drop gone front)
right_on framer gone old new front within moved right = record { sound = moved.sound framer front within right.sound; quiet = moved.quiet framer front within right.quiet }

right_own : (to : ℕ) (v w : WayState) (framer : Framer) (old new : Reader) → IsLetGoTo to v w → IsMovedOn (w.start - v.start) old new → IsRight framer old.cursor v.front → IsRight framer new.cursor w.front
right_own to v w framer old new go moved right =
    let low : v.start ≤ w.start = go.low in
    let end : end_of w ≡ end_of v = go.end in
    subst (IsRight framer new.cursor) (sym go.front) (right_on framer (w.start - v.start) old.cursor new.cursor v.front (omega (arith, low, end)) moved.cursor right)

pub let_go_sound : (number : ℕ) (side : Bool) (to : ℕ) (old new : Streams) (readers : List (Option Readers)) (was now : Option Readers) → slice_get readers number ≡ Some was → IsLetGoOf number side to old new
    → IsMovedAt side (gone_of number side old new) was now → AreSound old readers → AreSound new (slice_set readers number now)
let_go_sound number side to old new readers was now there go moved sound = record {
  fresh = go.ready.fresh;
  count = length-set readers number now ∙ sound.count ∙ sym go.ways.count;
  each = each_on Right_old Right_new number side (gone_of number side old new) readers was now there moved
      (λ r k one apart. subst (λ (w : WayState). IsRight r.framer (reader_of r one).cursor w.front) (sym (go.ways.rest k one apart)))
      (λ q p are right.
      subst (λ (a : Framer). IsRight a (reader_of p side).cursor (way_kept (slice_get (streams_of new) number) side).front) (sym are.framer)
      (right_own to (way_kept (slice_get (streams_of old) number) side) (way_kept (slice_get (streams_of new) number) side) q.framer (reader_of q side) (reader_of p side) go.ways.own are.own right))
      (λ q p are right.
      subst (λ (a : Framer). IsRight a (reader_of p (not side)).cursor (way_kept (slice_get (streams_of new) number) (not side)).front) (sym are.framer)
      (subst (λ (x : Reader). IsRight q.framer x.cursor (way_kept (slice_get (streams_of new) number) (not side)).front) (sym are.other)
      (subst (λ (w : WayState). IsRight q.framer (reader_of q (not side)).cursor w.front) (sym go.ways.other) right)))
      sound.each;
}
  where
    Right_old : Readers → ℕ → Bool → Type 0
    Right_old r k one = IsRight r.framer (reader_of r one).cursor (way_kept (slice_get (streams_of old) k) one).front

    Right_new : Readers → ℕ → Bool → Type 0
    Right_new r k one = IsRight r.framer (reader_of r one).cursor (way_kept (slice_get (streams_of new) k) one).front

-- ---- what is kept stands for the segments

moved_framer : (side : Bool) (gone : ℕ) (was now : Option Readers) → IsMovedAt side gone was now → option_map (λ (r : Readers). r.framer) now ≡ option_map (λ (r : Readers). r.framer) was
moved_framer side gone None now moved = ap (option_map (λ (r : Readers). r.framer)) moved
moved_framer side gone (Some q) now moved = ap (option_map (λ (r : Readers). r.framer)) moved.1 ∙ ap Some moved.2.framer

way_on : (framer : Framer) (ns : List Noted) (side : Bool) (w : WayState) (start gone : ℕ) (old new : Reader) → start + gone ≤ end_of w → IsMovedOn gone old new
    → ReadsWayFrom framer ns side w start old → ReadsWayFrom framer ns side w (start + gone) new
way_on framer ns side w start gone old new room moved reads = record {
  cursor = moved.cursor.behind framer (asked_in side ns) _ w.start start w.front room reads.cursor;
  heads = moved.heads ∙ reads.heads;
}

pub let_go_reads : (framer_of : Segment → Option Framer) (past : List Segment) (number : ℕ) (side : Bool) (to : ℕ) (old new : Streams) (readers : List (Option Readers)) (was now : Option Readers)
    → slice_get readers number ≡ Some was → IsLetGoOf number side to old new → IsMovedAt side (gone_of number side old new) was now → StandsFrom past old
    → ReadsStreamsFrom framer_of (starts_of (streams_of old)) (labels past) readers → ReadsStreamsFrom framer_of (starts_of (streams_of new)) (labels past) (slice_set readers number now)
let_go_reads framer_of past number side to old new readers was now there go moved stands reads = record {
  framers = λ k r at. framers_by k r (get_set readers number k now r at);
  each = each_by;
}
  where
    ls : List Label
    ls = labels past

    start : ℕ
    start = starts_of (streams_of old) number side

    start_new : ℕ
    start_new = starts_of (streams_of new) number side

    gone : ℕ
    gone = gone_of number side old new

    framers_by : (k : ℕ) (r : Option Readers) → ((number ≡ k → ⊥) × (slice_get readers k ≡ Some r)) ⊎ ((number ≡ k) × (now ≡ r)) → AllHave framer_of k (option_map (λ (x : Readers). x.framer) r) ls
    framers_by k r (inl apart) = reads.framers k r apart.1
    framers_by k r (inr same) =
        subst (λ (a : Option Framer). AllHave framer_of k a ls) (sym (moved_framer side gone was now moved) ∙ ap (option_map (λ (x : Readers). x.framer)) same.1)
        (reads.framers k was (ap (slice_get readers) (sym same.0) ∙ there))

    Reads_old : Readers → ℕ → Bool → Type 0
    Reads_old r k one = ReadsWayFrom r.framer (noted r.framer (brought k ls)) one (way_of k one ls) (starts_of (streams_of old) k one) (reader_of r one)

    Reads_new : Readers → ℕ → Bool → Type 0
    Reads_new r k one = ReadsWayFrom r.framer (noted r.framer (brought k ls)) one (way_of k one ls) (starts_of (streams_of new) k one) (reader_of r one)

    else_on : (r : Readers) (k : ℕ) (one : Bool) → (k ≡ number → ⊥) → Reads_old r k one → Reads_new r k one
    else_on r k one apart =
        subst (λ (start : ℕ). ReadsWayFrom r.framer (noted r.framer (brought k ls)) one (way_of k one ls) start (reader_of r one)) (sym (ap (λ (w : WayState). w.start) (go.ways.rest k one apart)))

    own_on : (q p : Readers) → AreMovedOn side gone q p → Reads_old q number side → Reads_new p number side
    own_on q p are old_reads =
        let own = go.ways.own in
        let low : start ≤ start_new = own.low in
        let end : end_of (way_kept (slice_get (streams_of new) number) side) ≡ end_of (way_kept (slice_get (streams_of old) number) side) = own.end in
        let kept_end : end_of (way_kept (slice_get (streams_of old) number) side) ≡ end_of (way_of number side ls) = (kept_at past old number side stands).end in
        let sum : start + gone ≡ start_new = omega (arith, low) in
        let room : start + gone ≤ end_of (way_of number side ls) = omega (arith, sum, end, kept_end) in
        subst (λ (a : Framer). ReadsWayFrom a (noted a (brought number ls)) side (way_of number side ls) start_new (reader_of p side)) (sym are.framer)
        (subst (λ (n : ℕ). ReadsWayFrom q.framer (noted q.framer (brought number ls)) side (way_of number side ls) n (reader_of p side)) sum
        (way_on q.framer (noted q.framer (brought number ls)) side (way_of number side ls) start gone (reader_of q side) (reader_of p side) room are.own old_reads))

    other_on : (q p : Readers) → AreMovedOn side gone q p → Reads_old q number (not side) → Reads_new p number (not side)
    other_on q p are old_reads =
        subst (λ (a : Framer). ReadsWayFrom a (noted a (brought number ls)) (not side) (way_of number (not side) ls) (starts_of (streams_of new) number (not side)) (reader_of p (not side))) (sym are.framer)
        (subst (λ (x : Reader). ReadsWayFrom q.framer (noted q.framer (brought number ls)) (not side) (way_of number (not side) ls) (starts_of (streams_of new) number (not side)) x) (sym are.other)
        (subst (λ (n : ℕ). ReadsWayFrom q.framer (noted q.framer (brought number ls)) (not side) (way_of number (not side) ls) n (reader_of q (not side))) (sym (ap (λ (w : WayState). w.start) go.ways.other)) old_reads))

    each_by : (k : ℕ) (r : Option Readers) → slice_get (slice_set readers number now) k ≡ Some r → ReadsStreamFrom (starts_of (streams_of new) k) ls k r
    each_by k None at = tt
    each_by k (Some r) at = each_on Reads_old Reads_new number side gone readers was now there moved else_on own_on other_on (λ j x here. reads.each j (Some x) here) k r at
