-- A segment's messages, given the segments before it.
use Rattle.std.proofs.Common.{◌≡◌, ◌⊎◌, inl, inr, ℕ, ◌<◌, Bool, not, List, ◌∷◌, length, slice_get, Option, None, Some, option_map, refl, sym, ap, subst, ◌∙◌}
use Rattle.tcp_streams.specs.declared.segment.Segment.{Segment}
use Rattle.tcp_streams.specs.declared.segment.Taken.{Taken}
use Rattle.tcp_streams.specs.declared.streams.Streams.{Streams}
use Rattle.tcp_streams.specs.Labels.{Label, goes_on, latest, label_on, label_of, labels, told, taken_after, way_of}
use Rattle.tcp_streams.specs.declared.stream.Stream.{Stream}
use Rattle.tcp_streams.specs.LetGo.{StandsFrom}
use Rattle.tcp_streams.specs.Ways.{WayState, lost_in, own_step, other_step, stretches}
use Rattle.tcp_streams.specs.Standing.{AreReady, AreStepped, stream_count, streams_of, way_in, way_kept}
use Rattle.stream_messages.specs.declared.framer.Framer.{Framer}
use Rattle.stream_messages.specs.declared.placed.Placed.{Placed}
use Rattle.tcp_messages.specs.declared.readers.Readers.{Readers}
use Rattle.tcp_messages.specs.Shown.{messages_after, messages_by}
use Rattle.tcp_messages.specs.Readers.{ReadsStreamsFrom, starts_of}
use Rattle.tcp_messages.specs.Reading.{AreWholeIn, IsBefore, IsOpenedAt, IsReadAt, side_of}
use Rattle.tcp_messages.proofs.Bridging.{kept_at}
use Rattle.tcp_messages.proofs.Keeping.{IsStep, get_past, same_or, step_by, told_side, own_way, other_way, read_framed, self_eqb}
use Rattle.tcp_messages.proofs.Streaming.{IsOf, IsOpening, framer_is, get_there, next_starts, opened_reads, read_reads}

pub segment_is : (s : Segment) (ls : List Label) → (label_of s ls).segment ≡ s
segment_is s ls = by (goes_on (latest s ls) s ls)
  where
    by : (o : Option ℕ) → (label_on o s ls).segment ≡ s
    by None = refl
    by (Some k) = refl

told_stream : (number : ℕ) (side : Bool) (own other : WayState) (s : Segment) (taken : Taken) → taken ≡ told number side own other s → taken.stream ≡ number
unfolding told
told_stream number side own other s taken is = ap (λ (t : Taken). t.stream) is

-- a segment's own direction, with it
pub way_next : (l : Label) (ls : List Label) → way_of l.stream l.side (l ∷ ls) ≡ own_step (way_of l.stream l.side ls) l.segment
way_next l ls = rw (self_eqb l.stream) (own_way l.side (way_of l.stream l.side ls) l.segment)

-- what was kept of a segment's directions before it
abbrev pub kept_of : Streams → Label → Bool → WayState
kept_of old l side = way_kept (slice_get (streams_of old) l.stream) side

pub taken_stream : (past : List Segment) (s : Segment) (taken : Taken) → taken ≡ taken_after past s → taken.stream ≡ (label_of s (labels past)).stream
taken_stream past s taken is =
    let ls : List Label = labels past in
    let l : Label = label_of s ls in
    told_stream l.stream l.side (way_of l.stream l.side ls) (way_of l.stream (not l.side) ls) l.segment taken is

pub taken_side : (past : List Segment) (s : Segment) (taken : Taken) → taken ≡ taken_after past s → side_of taken ≡ (label_of s (labels past)).side
taken_side past s taken is =
    let ls : List Label = labels past in
    let l : Label = label_of s ls in
    told_side l.stream l.side (way_of l.stream l.side ls) (way_of l.stream (not l.side) ls) l.segment taken is

pub is_of : (past : List Segment) (s : Segment) (taken : Taken) (old new : Streams) → StandsFrom past old → AreReady old → AreStepped s taken (streams_of old) (streams_of new) → taken ≡ taken_after past s
    → IsOf (label_of s (labels past)) (labels past) (kept_of old (label_of s (labels past))) (way_in new taken.stream taken.side) taken
is_of past s taken old new stands ready stepped is =
    let ls : List Label = labels past in
    let l : Label = label_of s ls in
    let step = step_by s taken (streams_of old) (streams_of new) stepped in
    let stream : taken.stream ≡ l.stream = taken_stream past s taken is in
    let side : side_of taken ≡ l.side = taken_side past s taken is in
    record {
      stream = stream;
      side = side;
      ways = λ one. ready.ways l.stream one;
      kept = λ one. kept_at past old l.stream one stands;
      way =
          step.own
          ∙ ap (λ (k : ℕ). own_step (way_kept (slice_get (streams_of old) k) (side_of taken)) s) stream
          ∙ ap (λ (b : Bool). own_step (way_kept (slice_get (streams_of old) l.stream) b) s) side
          ∙ ap (own_step (kept_of old l l.side)) (sym (segment_is s ls));
      lost =
          step.lost
          ∙ ap (λ (k : ℕ). lost_in (way_kept (slice_get (streams_of old) k) (side_of taken))) stream
          ∙ ap (λ (b : Bool). lost_in (way_kept (slice_get (streams_of old) l.stream) b)) side;
    }

-- where the newest stretches begin with a segment
starts_next : (past : List Segment) (s : Segment) (taken : Taken) (old new : Streams) → AreStepped s taken (streams_of old) (streams_of new) → taken ≡ taken_after past s
    → (side : Bool) → starts_of (streams_of new) (label_of s (labels past)).stream side ≡ next_starts (label_of s (labels past)) (kept_of old (label_of s (labels past))) side
starts_next past s taken old new stepped is side = by (same_or l.side side)
  where
    l : Label
    l = label_of s (labels past)

    step : IsStep s taken l.side (streams_of old) (streams_of new)
    step = subst (λ (b : Bool). IsStep s taken b (streams_of old) (streams_of new)) (taken_side past s taken is) (step_by s taken (streams_of old) (streams_of new) stepped)

    stream : taken.stream ≡ l.stream
    stream = taken_stream past s taken is

    by : (side ≡ l.side) ⊎ (side ≡ not l.side) → starts_of (streams_of new) l.stream side ≡ next_starts l (kept_of old l) side
    by (inl e) =
        let own : way_kept (slice_get (streams_of new) l.stream) l.side ≡ own_step (kept_of old l l.side) s =
        subst (λ (k : ℕ). way_kept (slice_get (streams_of new) k) l.side ≡ own_step (way_kept (slice_get (streams_of old) k) l.side) s) stream step.own in
        subst (λ (b : Bool). starts_of (streams_of new) l.stream b ≡ next_starts l (kept_of old l) b) (sym e)
        (ap (λ (w : WayState). w.start) (own ∙ ap (own_step (kept_of old l l.side)) (sym (segment_is s (labels past))) ∙ sym (own_way l.side (kept_of old l l.side) l.segment)))
    by (inr e) =
        let other : way_kept (slice_get (streams_of new) l.stream) (not l.side) ≡ other_step (kept_of old l (not l.side)) s =
        subst (λ (k : ℕ). way_kept (slice_get (streams_of new) k) (not l.side) ≡ other_step (way_kept (slice_get (streams_of old) k) (not l.side)) s) stream step.other in
        subst (λ (b : Bool). starts_of (streams_of new) l.stream b ≡ next_starts l (kept_of old l) b) (sym e)
        (ap (λ (w : WayState). w.start) (other ∙ ap (other_step (kept_of old l (not l.side))) (sym (segment_is s (labels past))) ∙ sym (other_way l.side (kept_of old l (not l.side)) l.segment)))

starts_else : (past : List Segment) (s : Segment) (taken : Taken) (old new : Streams) → AreStepped s taken (streams_of old) (streams_of new) → taken ≡ taken_after past s
    → (number : ℕ) (side : Bool) → ((label_of s (labels past)).stream ≡ number → ⊥) → starts_of (streams_of new) number side ≡ starts_of (streams_of old) number side
starts_else past s taken old new stepped is number side apart =
    ap (λ (w : WayState). w.start) ((step_by s taken (streams_of old) (streams_of new) stepped).else number side (λ same. apart (sym (same ∙ taken_stream past s taken is))))

-- a stream that is new has nothing
starts_new : (old : Streams) (readers : List (Option Readers)) → length readers ≡ stream_count old → (side : Bool) → starts_of (streams_of old) (length readers) side ≡ 0
starts_new old readers count side =
    ap (λ (o : Option Stream). (way_kept o side).start) (ap (slice_get (streams_of old)) count ∙ get_past (streams_of old))

pub next_reads : (framer_of : Segment → Option Framer) (framer : Option Framer) (past : List Segment) (s : Segment) (taken : Taken) (old streams : Streams) (readers mid left : List (Option Readers)) (messages : List Placed)
    → IsBefore framer_of framer past s taken old streams readers
    → taken.stream < length mid → IsOpenedAt framer taken.stream readers mid → IsReadAt (way_in streams taken.stream taken.side) taken mid left messages
    → (messages ≡ messages_after framer past s) × ReadsStreamsFrom framer_of (starts_of (streams_of streams)) (labels (s ∷ past)) left
    × AreWholeIn framer (stretches (way_in streams taken.stream taken.side)) messages
next_reads framer_of framer past s taken old streams readers mid left messages before within opened read =
    let ls : List Label = labels past in
    let l : Label = label_of s ls in
    let starts = starts_of (streams_of old) in
    let of = is_of past s taken old streams before.stands before.ready before.stepped before.taken_is in
    let opening : IsOpening framer s ls readers mid = record { listed = before.listed; is = subst (λ (k : ℕ). IsOpenedAt framer k readers mid) of.stream opened } in
    let segment : l.segment ≡ s = segment_is s ls in
    let result = read_reads framer_of l ls (kept_of old l) (way_in streams taken.stream taken.side) taken starts (starts_of (streams_of streams)) mid left messages (record {
      of = of;
      low = subst (λ (k : ℕ). k < length mid) of.stream within;
      reads = opened_reads framer_of framer s starts ls readers mid before.reads (starts_new old readers before.count) opening;
      knows = λ r there. ap framer_of segment ∙ framer_is framer_of framer s starts ls readers mid r before.ends before.framer_is before.reads opening there;
      here = λ side. refl;
      next = starts_next past s taken old streams before.stepped before.taken_is;
      others = starts_else past s taken old streams before.stepped before.taken_is;
    }) read in
    let at = get_there mid taken.stream within in
    let there : slice_get mid l.stream ≡ Some at.0 = ap (slice_get mid) (sym of.stream) ∙ at.1 in
    let known : framer ≡ option_map (λ (x : Readers). x.framer) at.0 = before.framer_is ∙ framer_is framer_of framer s starts ls readers mid at.0 before.ends before.framer_is before.reads opening there in (
      result.0 ∙ ap (λ (a : Option Framer). messages_by a l ls) (ap framer_of segment ∙ sym before.framer_is),
      result.1,
      subst (λ (a : Option Framer). AreWholeIn a (stretches (way_in streams taken.stream taken.side)) messages) (sym known)
          (read_framed (way_in streams taken.stream taken.side) taken mid left messages at.0 (read at.0 at.1)),
    )
