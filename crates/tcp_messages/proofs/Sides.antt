-- What the two readers of a stream stand for with a segment more.
use Rattle.std.proofs.Common.{◌≡◌, ℕ, ◌+◌, ◌≤◌, Bool, true, false, not, List, [], ◌∷◌, ◌++◌, length, refl, sym, ap, subst, ◌∙◌, inl, inr, arith, append_assoc}
use Rattle.std.proofs.lemmas.Bool.{cond-true, cond-false}
use Rattle.pk_base.specs.declared.lost.Lost.{Lost}
use Rattle.pk_base.specs.declared.stretch.Stretch.{Stretch}
use Rattle.tcp_streams.specs.declared.segment.Segment.{Segment}
use Rattle.tcp_streams.specs.Ways.{WayState, stretches, end_of, lost_in, own_step, other_step, way_step, same_side as is_own, IsWay, AreApart}
use Rattle.tcp_streams.specs.LetGo.{IsKeptOf}
use Rattle.tcp_streams.proofs.WayLemmas.{own_keeps}
use Rattle.stream_messages.specs.declared.framer.Framer.{Framer}
use Rattle.stream_messages.specs.declared.placed.Placed.{Placed}
use Rattle.stream_messages.specs.declared.cursor.Cursor.{Cursor}
use Rattle.stream_messages.specs.declared.cutting.Shown.{Shown}
use Rattle.stream_messages.specs.Messages.{Asked, AgreeBelow, above, answered, of_stretches}
use Rattle.stream_messages.specs.Cursors.{AsksFrom}
use Rattle.stream_messages.specs.Sides.{Noted, same_side, end_behind, stretches_in, front_end, shown_in, head_of, heads_in, asked_in, note_next, AreInOrder}
use Rattle.stream_messages.specs.Moved.{IsBehindFrom}
use Rattle.stream_messages.proofs.CuttingLemmas.{behind_from_same}
use Rattle.stream_messages.proofs.SideLemmas.{laws_of_sides, same_stretches}
use Rattle.tcp_messages.specs.declared.readers.Reader.{Reader}
use Rattle.tcp_messages.specs.declared.readers.Readers.{Readers}
use Rattle.tcp_messages.specs.Readers.{CutsWayFrom, IsBehindWayFrom, ReadsWayFrom, reader_of}
use Rattle.tcp_messages.specs.Reading.{IsRead}
use Rattle.tcp_messages.proofs.Growing.{IsBrought, end_is}

self_side : (side : Bool) → same_side side side ≡ true
self_side true = refl
self_side false = refl

-- the bytes that a direction had end where its stretches do
front_is : (side : Bool) (ns : List Noted) (w : WayState) → IsBrought (stretches_in side ns) (stretches w) → front_end side ns ≡ end_of w
front_is side ns w (inl same) = ap (end_behind 0) same ∙ end_is 0 w.earlier (record { start = w.start; bytes = w.front })
front_is side ns w (inr none) =
    ap (end_behind 0) none.0 ∙ sym (ap (end_behind 0) none.1) ∙ end_is 0 w.earlier (record { start = w.start; bytes = w.front })

heads_append : (xs ys : List Placed) → heads_in (xs ++ ys) ≡ heads_in xs ++ heads_in ys
heads_append [] ys = refl
heads_append (x ∷ xs) ys = ap (λ (hs : List Bool). head_of x.told ++ hs) (heads_append xs ys) ∙ sym (append_assoc (head_of x.told) (heads_in xs) (heads_in ys))

-- stretches before a place are in order
order_before : (low lower : ℕ) (xs : List Stretch) (next : ℕ) → lower ≤ low → AreApart low xs next → AreInOrder lower xs × (end_behind lower xs ≤ next)
order_before low lower [] next within apart = (tt, omega (arith, within, apart))
order_before low lower (x ∷ xs) next within apart =
    let rest = order_before (x.start + length x.bytes + 1) (x.start + length x.bytes) xs next (omega arith) apart.1 in
    ((omega (arith, within, apart.0), rest.0), rest.1)

-- a cursor serves what is asked further on
same_way : (framer : Framer) (asked later : Asked) (w : WayState) (start : ℕ) (c : Cursor) → IsWay w → AgreeBelow (end_of w) asked later → IsBehindWayFrom framer asked w start c → IsBehindWayFrom framer later w start c
same_way framer asked later w start c way agree behind =
    let order = order_before 0 0 w.earlier w.start (omega arith) way.apart in
    let same : of_stretches framer later 0 w.earlier ≡ of_stretches framer asked 0 w.earlier =
    same_stretches framer asked later 0 0 w.earlier order.0 (λ at n low. agree at n (omega (arith, low, order.1))) in
    subst (λ (n : ℕ). IsBehindFrom framer later n w.start start c w.front) (ap (answered 0) (sym same))
    (behind_from_same framer asked later (answered 0 (of_stretches framer asked 0 w.earlier)) w.start start c w.front agree behind)

-- the segment's direction
own_shown : (framer : Framer) (ns : List Noted) (side : Bool) (w v : WayState) (start : ℕ) (shown : Shown) → IsBrought (stretches_in side ns) (stretches w) → CutsWayFrom framer (asked_in side ns) (end_of w) v start shown
    → shown.messages ≡ (note_next framer ns (record { side = side; stretches = stretches v })).shown
own_shown framer ns side w v start shown found cuts =
    cuts.messages ∙ ap (λ (end : ℕ). above end (of_stretches framer (asked_in side ns) 0 (stretches v))) (sym (front_is side ns w found))

own_end : (side : Bool) (n : Noted) (ns : List Noted) (v : WayState) → n.side ≡ side → n.stretches ≡ stretches v → front_end side (n ∷ ns) ≡ end_of v
own_end side n ns v from is =
    ap (end_behind 0) (cond-true _ _ _ (ap (same_side side) from ∙ self_side side) ∙ is)
    ∙ end_is 0 v.earlier (record { start = v.start; bytes = v.front })

own_reads : (framer : Framer) (ns : List Noted) (side : Bool) (w v : WayState) (was_start start : ℕ) (old new : Reader) (messages : List Placed) → IsWay v → IsBrought (stretches_in side ns) (stretches w)
    → ReadsWayFrom framer ns side w was_start old → CutsWayFrom framer (asked_in side ns) (end_of w) v start (record { messages = messages; cursor = new.cursor })
    → new.heads.items ≡ old.heads.items ++ heads_in messages
    → ReadsWayFrom framer (note_next framer ns (record { side = side; stretches = stretches v }) ∷ ns) side v start new
own_reads framer ns side w v was_start start old new messages way found was cuts heads =
    let n : Noted = note_next framer ns (record { side = side; stretches = stretches v }) in
    let end : front_end side (n ∷ ns) ≡ end_of v = own_end side n ns v refl refl in
    let shown : messages ≡ n.shown = own_shown framer ns side w v start (record { messages = messages; cursor = new.cursor }) found cuts in
    record {
      cursor = same_way framer (asked_in side ns) (asked_in side (n ∷ ns)) v start new.cursor way (λ at k low. laws_of_sides.asked side n ns at k (omega (arith, low, end))) cuts.cursor;
      heads =
          heads
          ∙ ap (λ (hs : List Bool). hs ++ heads_in messages) was.heads
          ∙ ap (λ (ms : List Placed). heads_in (shown_in side ns) ++ heads_in ms) shown
          ∙ sym (heads_append (shown_in side ns) n.shown)
          ∙ ap heads_in (sym (cond-true _ _ _ (self_side side)));
    }

-- the other direction
other_behind : (framer : Framer) (asked : Asked) (w : WayState) (start : ℕ) (s : Segment) (c : Cursor) → IsBehindWayFrom framer asked w start c → IsBehindWayFrom framer asked (other_step w s) start c
unfolding other_step
other_behind framer asked w start s c behind = behind

other_reads : (framer : Framer) (ns : List Noted) (n : Noted) (side : Bool) (w : WayState) (start : ℕ) (s : Segment) (reader : Reader) → IsWay w → IsBrought (stretches_in side ns) (stretches w)
    → same_side side n.side ≡ false → ReadsWayFrom framer ns side w start reader → ReadsWayFrom framer (n ∷ ns) side (other_step w s) start reader
other_reads framer ns n side w start s reader way found other was =
    let end : front_end side (n ∷ ns) ≡ end_of w = ap (end_behind 0) (cond-false _ _ _ other) ∙ front_is side ns w found in
    record {
      cursor = other_behind framer (asked_in side (n ∷ ns)) w start s reader.cursor
          (same_way framer (asked_in side ns) (asked_in side (n ∷ ns)) w start reader.cursor way (λ at k low. laws_of_sides.asked side n ns at k (omega (arith, low, end))) was.cursor);
      heads = was.heads ∙ ap heads_in (sym (cond-false _ _ _ other));
    }

-- both: the directions, and what is kept of them
pub record AreReads (framer : Framer) (ns : List Noted) (way kept_way : Bool → WayState) (r : Readers) : Type 0 where
  pub ways : (side : Bool) → IsWay (way side)
  pub kept_ways : (side : Bool) → IsWay (kept_way side)
  pub kept : (side : Bool) → IsKeptOf (way side) (kept_way side)
  pub found : (side : Bool) → IsBrought (stretches_in side ns) (stretches (way side))
  pub reads : (side : Bool) → ReadsWayFrom framer ns side (way side) (kept_way side).start (reader_of r side)

cuts_own : (framer : Framer) (ns : List Noted) (way u : Bool → WayState) (from : Bool) (s : Segment) (lost : List Lost) (old new : Readers) (messages : List Placed)
    → AreReads framer ns way u old → IsRead framer (reader_of old (not from)).heads.items (own_step (u from) s) lost (reader_of old from) (reader_of new from) messages → lost ≡ lost_in (u from)
    → CutsWayFrom framer (asked_in from ns) (end_of (way from)) (own_step (way from) s) (own_step (u from) s).start (record { messages = messages; cursor = (reader_of new from).cursor })
cuts_own framer ns way u from s lost old new messages are read lost_is =
    let end = front_is from ns (way from) (are.found from) in
    read.cut (asked_in from ns) (way from) (u from) s (are.ways from) (are.kept_ways from) (are.kept from) refl lost_is
    (subst (λ (hs : List Bool). AsksFrom (end_of (way from)) hs (asked_in from ns)) (sym (are.reads (not from)).heads) (λ at k low. laws_of_sides.heads from ns at k (omega (arith, end, low))))
    (are.reads from).cursor

pub both_shown : (framer : Framer) (ns : List Noted) (way u : Bool → WayState) (from : Bool) (s : Segment) (lost : List Lost) (old new : Readers) (messages : List Placed)
    → AreReads framer ns way u old → IsRead framer (reader_of old (not from)).heads.items (own_step (u from) s) lost (reader_of old from) (reader_of new from) messages → lost ≡ lost_in (u from)
    → messages ≡ (note_next framer ns (record { side = from; stretches = stretches (own_step (way from) s) })).shown
both_shown framer ns way u from s lost old new messages are read lost_is =
    own_shown framer ns from (way from) (own_step (way from) s) (own_step (u from) s).start (record { messages = messages; cursor = (reader_of new from).cursor }) (are.found from)
    (cuts_own framer ns way u from s lost old new messages are read lost_is)

own_at : (framer : Framer) (ns : List Noted) (way u : Bool → WayState) (from : Bool) (s : Segment) (lost : List Lost) (old new : Readers) (messages : List Placed)
    → AreReads framer ns way u old → IsRead framer (reader_of old (not from)).heads.items (own_step (u from) s) lost (reader_of old from) (reader_of new from) messages → lost ≡ lost_in (u from)
    → ReadsWayFrom framer (note_next framer ns (record { side = from; stretches = stretches (own_step (way from) s) }) ∷ ns) from (own_step (way from) s) (own_step (u from) s).start (reader_of new from)
own_at framer ns way u from s lost old new messages are read lost_is =
    own_reads framer ns from (way from) (own_step (way from) s) (u from).start (own_step (u from) s).start (reader_of old from) (reader_of new from) messages (own_keeps (way from) s (are.ways from)) (are.found from) (are.reads from)
    (cuts_own framer ns way u from s lost old new messages are read lost_is) read.heads_are

other_start : (w : WayState) (s : Segment) → (other_step w s).start ≡ w.start
unfolding other_step
other_start w s = refl

other_at : (framer : Framer) (ns : List Noted) (n : Noted) (way u : Bool → WayState) (side : Bool) (s : Segment) (old new : Readers) → AreReads framer ns way u old → same_side side n.side ≡ false
    → reader_of new side ≡ reader_of old side → ReadsWayFrom framer (n ∷ ns) side (other_step (way side) s) (other_step (u side) s).start (reader_of new side)
other_at framer ns n way u side s old new are apart kept =
    subst (λ (r : Reader). ReadsWayFrom framer (n ∷ ns) side (other_step (way side) s) (other_step (u side) s).start r) (sym kept)
    (subst (λ (start : ℕ). ReadsWayFrom framer (n ∷ ns) side (other_step (way side) s) start (reader_of old side)) (sym (other_start (u side) s))
    (other_reads framer ns n side (way side) (u side).start s (reader_of old side) (are.ways side) (are.found side) apart (are.reads side)))

pub both_reads : (framer : Framer) (ns : List Noted) (way u : Bool → WayState) (from : Bool) (s : Segment) (lost : List Lost) (old new : Readers) (messages : List Placed)
    → AreReads framer ns way u old → IsRead framer (reader_of old (not from)).heads.items (own_step (u from) s) lost (reader_of old from) (reader_of new from) messages → lost ≡ lost_in (u from)
    → reader_of new (not from) ≡ reader_of old (not from) → (side : Bool)
    → ReadsWayFrom framer (note_next framer ns (record { side = from; stretches = stretches (own_step (way from) s) }) ∷ ns) side (way_step (is_own side from) (way side) s) (way_step (is_own side from) (u side) s).start (reader_of new side)
both_reads framer ns way u true s lost old new messages are read lost_is kept true = own_at framer ns way u true s lost old new messages are read lost_is
both_reads framer ns way u false s lost old new messages are read lost_is kept false = own_at framer ns way u false s lost old new messages are read lost_is
both_reads framer ns way u true s lost old new messages are read lost_is kept false =
    other_at framer ns (note_next framer ns (record { side = true; stretches = stretches (own_step (way true) s) })) way u false s old new are refl kept
both_reads framer ns way u false s lost old new messages are read lost_is kept true =
    other_at framer ns (note_next framer ns (record { side = false; stretches = stretches (own_step (way false) s) })) way u true s old new are refl kept
