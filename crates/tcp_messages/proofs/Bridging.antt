-- What is kept where nothing was let go, and where something was.
use Rattle.std.proofs.Common.{◌≡◌, ℕ, ◌+◌, ◌-◌, ◌<◌, Bool, true, false, List, ◌++◌, length, drop, Option, None, Some, slice_get, refl, sym, ap, subst, ◌∙◌, inl, inr, arith}
use Rattle.std.proofs.lemmas.Bool.{cases_lt}
use Rattle.std.proofs.lemmas.Option.{slice_get_within}
use Rattle.range_bytes.specs.Held.{HoldsAll}
use Rattle.tcp_streams.specs.declared.segment.Segment.{Segment}
use Rattle.tcp_streams.specs.declared.stream.Stream.{Stream}
use Rattle.tcp_streams.specs.declared.streams.Streams.{Streams}
use Rattle.tcp_streams.specs.Labels.{Label, labels, opened, way_of}
use Rattle.tcp_streams.specs.LetGo.{IsKeptOf, IsStreamKept, StandsFrom}
use Rattle.tcp_streams.specs.Parts.{LiesInOne}
use Rattle.tcp_streams.specs.Stands.{IsStreamOf}
use Rattle.tcp_streams.specs.Standing.{StandsFor, stream_count, streams_of, way_in, way_kept}
use Rattle.tcp_streams.specs.Ways.{WayState, Sided, nothing, stretches, way_after, IsWay}
use Rattle.tcp_streams.proofs.KeptLemmas.{kept_whole, parts_kept}
use Rattle.tcp_streams.proofs.KeptStands.{kept_way}
use Rattle.tcp_streams.proofs.PartLemmas.{held_at}
use Rattle.tcp_streams.proofs.StandsLemmas.{below_more, is_there, none_new}
use Rattle.tcp_messages.specs.declared.readers.Reader.{Reader}
use Rattle.tcp_messages.specs.declared.readers.Readers.{Readers}
use Rattle.tcp_messages.specs.Brought.{brought}
use Rattle.tcp_messages.specs.Readers.{ReadsStream, ReadsStreamFrom, ReadsStreams, ReadsStreamsFrom, ReadsWay, ReadsWayFrom, reader_of, starts_of}
use Rattle.stream_messages.specs.Sides.{Noted, asked_in, noted}
use Rattle.stream_messages.specs.declared.framer.Framer.{Framer}
use Rattle.stream_messages.specs.declared.cursor.Cursor.{Cursor}
use Rattle.stream_messages.specs.Messages.{Asked, answered, of_front}
use Rattle.stream_messages.specs.Cursors.{IsBehind, KnowsNext, from_cursor, next_at}
use Rattle.stream_messages.specs.Moved.{bytes_from, IsBehindFrom}

all_from_first : (first : ℕ) (bytes : List ℕ) → bytes_from first first bytes ≡ bytes
all_from_first first bytes = let none : first - first ≡ 0 = omega arith in ap (λ (n : ℕ). drop n bytes) none

pub behind_from : (framer : Framer) (asked : Asked) (count start : ℕ) (c : Cursor) (front : List ℕ) → IsBehind framer asked count start c front → IsBehindFrom framer asked count start start c front
behind_from framer asked count start c front is =
    let number : ℕ = answered count (of_front framer asked count start front) in
    record {
      low = omega arith;
      high = omega arith;
      behind = λ later more agree.
          is.behind later more agree
          ∙ ap (λ (bytes : List ℕ). of_front framer asked count start front ++ from_cursor framer later start number c bytes) (sym (all_from_first start (front ++ more)));
      counts = is.counts;
      known = subst (λ (bytes : List ℕ). KnowsNext framer (asked (start + next_at c.mark) number) (next_at c.mark) bytes c.next) (sym (all_from_first start front)) is.known;
    }

pub behind_whole : (framer : Framer) (asked : Asked) (count start : ℕ) (c : Cursor) (front : List ℕ) → IsBehindFrom framer asked count start start c front → IsBehind framer asked count start c front
behind_whole framer asked count start c front is =
    let number : ℕ = answered count (of_front framer asked count start front) in
    record {
      behind = λ later more agree.
          is.behind later more agree
          ∙ ap (λ (bytes : List ℕ). of_front framer asked count start front ++ from_cursor framer later start number c bytes) (all_from_first start (front ++ more));
      counts = is.counts;
      known = subst (λ (bytes : List ℕ). KnowsNext framer (asked (start + next_at c.mark) number) (next_at c.mark) bytes c.next) (all_from_first start front) is.known;
    }

-- ---- directions

-- what is kept of a direction, by its number
pub kept_at : (past : List Segment) (streams : Streams) (k : ℕ) (one : Bool) → StandsFrom past streams → IsKeptOf (way_of k one (labels past)) (way_kept (slice_get (streams_of streams) k) one)
unfolding StandsFrom
kept_at past streams k one stands =
    elim (slice_get (streams_of streams) k) as (λ (o : Option Stream). slice_get (streams_of streams) k ≡ o → IsKeptOf (way_of k one (labels past)) (way_kept o one)) [
      | Some stream ↦ λ there. by stream (stands.agrees.each k stream there) one
      | None ↦ λ none. elim (cases_lt k (length (streams_of streams))) [
        | inl low ↦ absurd (is_there (streams_of streams) k low none)
        | inr high ↦
            let count : length (streams_of streams) ≡ opened (labels past) = stands.agrees.count in
            let empty : way_of k one (labels past) ≡ nothing =
            ap (λ (ss : List Sided). way_after one ss) (none_new k (labels past) (below_more (opened (labels past)) k (labels past) (omega (arith, high, count)) stands.agrees.below)) in
            subst (λ (w : WayState). IsKeptOf w nothing) (sym empty) (kept_whole nothing nothing tt refl)
      ]
    ] refl
  where
    by : (stream : Stream) → IsStreamKept (labels past) k stream → (one : Bool) → IsKeptOf (way_of k one (labels past)) (way_kept (Some stream) one)
    by stream is true = is.one
    by stream is false = is.zero

-- all bytes of a part of what is kept are held
pub part_holds_from : (past : List Segment) (streams : Streams) (stream side from to : ℕ) → IsWay (way_in streams stream side) → StandsFrom past streams → stream < stream_count streams
    → LiesInOne (stretches (way_in streams stream side)) from to → HoldsAll (way_in streams stream side).held from to
part_holds_from past streams stream side from to way stands low lies =
    let v : WayState = way_in streams stream side in
    let held = held_at v.held (stretches v) lies.0 lies.1 (parts_kept _ v way (kept_way past streams stream side stands low)) lies.2 in
    let inside = lies.3 in
    let begins = inside.low in
    let ends = inside.high in
    λ q a b. held.run q (omega (arith, begins, a)) (omega (arith, ends, b))

-- where nothing was let go, what is kept begins where the direction does
pub starts_whole : (past : List Segment) (streams : Streams) (k : ℕ) (one : Bool) → StandsFor past streams → k < stream_count streams → starts_of (streams_of streams) k one ≡ (way_of k one (labels past)).start
unfolding StandsFor
starts_whole past streams k one stands low =
    elim (slice_get (streams_of streams) k) as (λ (o : Option Stream). slice_get (streams_of streams) k ≡ o → (way_kept o one).start ≡ (way_of k one (labels past)).start) [
      | Some stream ↦ λ there. by stream (stands.agrees.each k stream there) one
      | None ↦ λ none. absurd (is_there (streams_of streams) k low none)
    ] refl
  where
    by : (stream : Stream) → IsStreamOf (labels past) k stream → (one : Bool) → (way_kept (Some stream) one).start ≡ (way_of k one (labels past)).start
    by stream is true = ap (λ (w : WayState). w.start) is.one
    by stream is false = ap (λ (w : WayState). w.start) is.zero

-- ---- readers

way_from : (framer : Framer) (ns : List Noted) (side : Bool) (w : WayState) (start : ℕ) (reader : Reader) → start ≡ w.start → ReadsWay framer ns side w reader → ReadsWayFrom framer ns side w start reader
way_from framer ns side w start reader is reads = subst (λ (n : ℕ). ReadsWayFrom framer ns side w n reader) (sym is) (record {
  cursor = behind_from framer (asked_in side ns) _ w.start reader.cursor w.front reads.cursor;
  heads = reads.heads;
})

way_whole : (framer : Framer) (ns : List Noted) (side : Bool) (w : WayState) (start : ℕ) (reader : Reader) → start ≡ w.start → ReadsWayFrom framer ns side w start reader → ReadsWay framer ns side w reader
way_whole framer ns side w start reader is reads =
    let here = subst (λ (n : ℕ). ReadsWayFrom framer ns side w n reader) is reads in
    record { cursor = behind_whole framer (asked_in side ns) _ w.start reader.cursor w.front here.cursor; heads = here.heads }

stream_from : (starts : Bool → ℕ) (ls : List Label) (number : ℕ) (r : Option Readers) → ((one : Bool) → starts one ≡ (way_of number one ls).start) → ReadsStream ls number r → ReadsStreamFrom starts ls number r
stream_from starts ls number None same reads = tt
stream_from starts ls number (Some r) same reads = λ side. way_from r.framer (noted r.framer (brought number ls)) side (way_of number side ls) (starts side) (reader_of r side) (same side) (reads side)

stream_whole : (starts : Bool → ℕ) (ls : List Label) (number : ℕ) (r : Option Readers) → ((one : Bool) → starts one ≡ (way_of number one ls).start) → ReadsStreamFrom starts ls number r → ReadsStream ls number r
stream_whole starts ls number None same reads = tt
stream_whole starts ls number (Some r) same reads = λ side. way_whole r.framer (noted r.framer (brought number ls)) side (way_of number side ls) (starts side) (reader_of r side) (same side) (reads side)

pub reads_from : (framer_of : Segment → Option Framer) (past : List Segment) (streams : Streams) (readers : List (Option Readers)) → StandsFor past streams → length readers ≡ stream_count streams
    → ReadsStreams framer_of (labels past) readers → ReadsStreamsFrom framer_of (starts_of (streams_of streams)) (labels past) readers
reads_from framer_of past streams readers stands count reads = record {
  framers = reads.framers;
  each = λ number r there.
      stream_from (starts_of (streams_of streams) number) (labels past) number r
      (λ one. starts_whole past streams number one stands (omega (arith, slice_get_within readers number r there, count))) (reads.each number r there);
}

pub reads_whole : (framer_of : Segment → Option Framer) (past : List Segment) (streams : Streams) (readers : List (Option Readers)) → StandsFor past streams → length readers ≡ stream_count streams
    → ReadsStreamsFrom framer_of (starts_of (streams_of streams)) (labels past) readers → ReadsStreams framer_of (labels past) readers
reads_whole framer_of past streams readers stands count reads = record {
  framers = reads.framers;
  each = λ number r there.
      stream_whole (starts_of (streams_of streams) number) (labels past) number r
      (λ one. starts_whole past streams number one stands (omega (arith, slice_get_within readers number r there, count))) (reads.each number r there);
}
