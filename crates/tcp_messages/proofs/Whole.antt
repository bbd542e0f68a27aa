-- The streams and their readers, from the first segment on.
use Rattle.std.proofs.Common.{◌≡◌, ℕ, ◌+◌, ◌-◌, ◌^◌, ◌<◌, Bool, false, List, [], ◌∷◌, length, map, Option, Some, slice_get, sym, ap, ◌∙◌, arith}
use Rattle.std.proofs.lemmas.Option.{none-some}
use Rattle.tcp_streams.specs.declared.segment.Segment.{Segment}
use Rattle.tcp_streams.specs.declared.segment.Taken.{Taken}
use Rattle.tcp_streams.specs.declared.streams.Streams.{Streams}
use Rattle.tcp_streams.specs.Labels.{Label, label_of, labels, taken_after, way_of}
use Rattle.tcp_streams.specs.LetGo.{StandsFrom}
use Rattle.tcp_streams.specs.Ways.{WayState}
use Rattle.tcp_streams.specs.Standing.{AreReady, AreStepped, StandsFor, bytes_so_far, streams_of, taken_so_far, way_for}
use Rattle.tcp_streams.proofs.KeptStands.{stands_whole}
use Rattle.tcp_streams.proofs.Stepping.{are_ready}
use Rattle.stream_messages.specs.declared.framer.Framer.{Framer}
use Rattle.stream_messages.specs.declared.placed.Placed.{Placed}
use Rattle.tcp_messages.specs.declared.readers.Readers.{Readers}
use Rattle.tcp_messages.specs.declared.message_streams.MessageStreams.{MessageStreams}
use Rattle.tcp_messages.specs.declared.met.ShownMessage.{ShownMessage}
use Rattle.tcp_messages.specs.Brought.{way_with}
use Rattle.tcp_messages.specs.Shown.{located, messages_after, shown_after}
use Rattle.tcp_messages.specs.Readers.{AreSound, IsOfEnds}
use Rattle.tcp_messages.specs.Reading.{AreListed, IsBefore, side_of}
use Rattle.tcp_messages.specs.Standing.{ReadsFor, ReadsFrom, ReadsRight, streams_in}
use Rattle.tcp_messages.proofs.Bridging.{reads_from}
use Rattle.tcp_messages.proofs.Nexts.{taken_side, taken_stream, way_next}

pub fresh_streams : (past : List Segment) (streams : Streams) → StandsFor past streams → streams.kept.spent ≡ false
unfolding StandsFor
fresh_streams past streams stands = stands.fresh

pub listed : (past : List Segment) (streams : Streams) (readers : List (Option Readers)) → StandsFrom past streams → AreSound streams readers → AreListed (labels past) readers
unfolding StandsFrom
listed past streams readers stands sound = record { size = sound.count ∙ stands.agrees.count; below = stands.agrees.below }

-- nothing was taken
none_there : (readers : List (Option Readers)) (number : ℕ) (r : Option Readers) → readers ≡ [] → slice_get readers number ≡ Some r → ⊥
none_there readers number r none there = none-some r (sym (ap (λ (xs : List (Option Readers)). slice_get xs number) none) ∙ there)

pub new_sound : (streams : Streams) (readers : List (Option Readers)) → StandsFor [] streams → readers ≡ [] → AreSound streams readers
unfolding StandsFor
new_sound streams readers stands none = record {
  fresh = stands.fresh;
  count = ap length none ∙ sym stands.agrees.count;
  each = λ number r there. absurd (none_there readers number (Some r) none there);
}

pub new_reads : (framer_of : Segment → Option Framer) (m : MessageStreams) → StandsFor [] (streams_in m) → m.kept.spent ≡ false → m.kept.readers.items ≡ [] → ReadsRight framer_of [] m
new_reads framer_of m stands fresh none = record {
  streams = stands;
  fresh = fresh;
  readers = record {
    framers = λ number r there. absurd (none_there m.kept.readers.items number r none there);
    each = λ number r there. absurd (none_there m.kept.readers.items number r none there);
  };
}

-- where nothing was let go
pub kept_whole : (framer_of : Segment → Option Framer) (past : List Segment) (m : MessageStreams) → AreSound (streams_in m) m.kept.readers.items → ReadsFor framer_of past m → ReadsFrom framer_of past m
unfolding ReadsFor ReadsFrom
kept_whole framer_of past m sound reads = record {
  streams = stands_whole past (streams_in m) reads.streams;
  fresh = reads.fresh;
  readers = reads_from framer_of past (streams_in m) m.kept.readers.items reads.streams sound.count reads.readers;
}

-- what is known before a segment
pub ready_in : (m : MessageStreams) → AreSound (streams_in m) m.kept.readers.items → taken_so_far (streams_in m) < 2 ^ 32 → bytes_so_far (streams_in m) < 2 ^ 32 → AreReady (streams_in m)
ready_in m sound few small = are_ready (streams_in m) sound.fresh ((streams_in m).kept.sound sound.fresh) ((streams_in m).kept.filled sound.fresh) few small

pub ready_before : (m : MessageStreams) (s : Segment) → AreSound (streams_in m) m.kept.readers.items → taken_so_far (streams_in m) < 2 ^ 32 - 1 → bytes_so_far (streams_in m) + length s.payload < 2 ^ 32
    → AreReady (streams_in m)
ready_before m s sound few small = ready_in m sound (omega (arith, few)) (omega (arith, small))

pub before : (framer_of : Segment → Option Framer) (framer : Option Framer) (past : List Segment) (s : Segment) (taken : Taken) (m : MessageStreams) (new : Streams) → AreSound (streams_in m) m.kept.readers.items
    → taken_so_far (streams_in m) < 2 ^ 32 - 1 → bytes_so_far (streams_in m) + length s.payload < 2 ^ 32 → AreStepped s taken (streams_of (streams_in m)) (streams_of new) → ((past : List Segment) → StandsFrom past (streams_in m) → taken ≡ taken_after past s)
    → IsOfEnds framer_of → framer ≡ framer_of s → ReadsFrom framer_of past m → IsBefore framer_of framer past s taken (streams_in m) new m.kept.readers.items
unfolding ReadsFrom
before framer_of framer past s taken m new sound few small stepped told ends same reads = record {
  ends = ends;
  framer_is = same;
  stands = reads.streams;
  ready = ready_before m s sound few small;
  stepped = stepped;
  taken_is = told past reads.streams;
  listed = listed past (streams_in m) m.kept.readers.items reads.streams sound;
  count = sound.count;
  reads = reads.readers;
}

-- what is shown of a segment is what its direction holds
pub shown_is : (framer : Option Framer) (past : List Segment) (s : Segment) (taken : Taken) (messages : List Placed) (shown : List ShownMessage)
    → taken ≡ taken_after past s → messages ≡ messages_after framer past s
    → shown ≡ map (located (way_for (s ∷ past) taken.stream taken.side).held s taken.position) messages → shown ≡ shown_after framer past s
unfolding shown_after
shown_is framer past s taken messages shown is messages_are shown_are =
    let ls : List Label = labels past in
    let l : Label = label_of s ls in
    let way : way_for (s ∷ past) taken.stream taken.side ≡ way_with l ls =
    ap (λ (k : ℕ). way_of k (side_of taken) (l ∷ ls)) (taken_stream past s taken is) ∙ ap (λ (b : Bool). way_of l.stream b (l ∷ ls)) (taken_side past s taken is) ∙ way_next l ls in
    shown_are
    ∙ ap (λ (w : WayState). map (located w.held s taken.position) messages) way
    ∙ ap (λ (t : Taken). map (located (way_with l ls).held s t.position) messages) is
    ∙ ap (map (located (way_with l ls).held s (taken_after past s).position)) messages_are
