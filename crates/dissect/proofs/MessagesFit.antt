-- The messages that a segment's frame shows: each has a byte, and the bytes that its direction holds.
use Rattle.std.proofs.Common.{◌≡◌, ℕ, zero, suc, ◌+◌, ◌-◌, ◌<◌, Bool, true, false, nat_eq, nat_lt, List, [], ◌∷◌, ◌++◌, length, map, take, drop, Option, Some, None, refl, sym, ap, ◌∙◌, inl, inr, arith, ℤ}
use Rattle.std.specs.List.{starts_with}
use Rattle.std.specs.Prelude.{pos, ◌-ℤ◌, if◌then◌else◌}
use Rattle.std.specs.Cmp.Lexicographic.{bytes_decides, pointwise}
use Rattle.std.proofs.lemmas.Bool.{cases_Bool}
use Rattle.std.proofs.lemmas.Option.{cond_some, none-some}
use Rattle.pk_base.specs.declared.stretch.Stretch.{Stretch}
use Rattle.range_bytes.specs.Held.{Held, bytes_at}
use Rattle.tcp_streams.specs.declared.segment.Segment.{Segment}
use Rattle.tcp_streams.specs.Labels.{Label, label_of, labels, taken_after}
use Rattle.tcp_streams.proofs.Places.{length-bytes_at}
use Rattle.stream_messages.specs.declared.placed.Placed.{Placed}
use Rattle.stream_messages.specs.declared.shape.Then.{Then}
use Rattle.stream_messages.specs.declared.shape.Then.TheVariants.{Follows, Opaque}
use Rattle.stream_messages.specs.declared.framer.Framer.{Framer}
use Rattle.pk_fields.specs.declared.apps.App.{App}
use Rattle.app_layers.specs.declared.streamed.StreamApp.{StreamApp}
use Rattle.app_layers.specs.MessageLayers.{framing}
use Rattle.stream_messages.specs.declared.told.Told.{Told}
use Rattle.stream_messages.specs.Messages.{Asked, above, answered, end_at, follow, messages, of_front, of_stretches, with_first}
use Rattle.stream_messages.specs.Sides.{asked_in, front_end, noted}
use Rattle.stream_messages.specs.Tellings.{answers, end_of, first_of, passed, then_of}
use Rattle.stream_messages.proofs.FirstLemmas.{first_some}
use Rattle.tcp_messages.specs.Brought.{brought, brought_by, way_with}
use Rattle.tcp_messages.specs.Shown.{bytes_from, distance, gathered, located, messages_after, messages_by, place_of, shown_after, source_at}
use Rattle.tcp_messages.specs.declared.met.Gathered.{Gathered}
use Rattle.tcp_messages.specs.declared.met.Source.TheVariants as sources
use Rattle.dissect.specs.MessageLaws.{MessageShown, message_shown, messages_shown}
use Rattle.dissect.proofs.MessagesTold.{AreFit}

-- ---- each message has a byte

abbrev HaveBytes : List Placed → Type 0
HaveBytes [] = Unit {0}
HaveBytes (m ∷ ms) = (0 < end_of m.told) × HaveBytes ms

have_append : (ms ns : List Placed) → HaveBytes ms → HaveBytes ns → HaveBytes (ms ++ ns)
have_append [] ns before after = after
have_append (m ∷ ms) ns before after = (before.0, have_append ms ns before.1 after)

follow_have : (next : Then) (ms : List Placed) → HaveBytes ms → HaveBytes (follow next ms)
follow_have (Follows count) ms all = all
follow_have Opaque ms all = tt

first_have : (at : ℕ) (o : Option Told) (more : Told → List Placed) → ((told : Told) → o ≡ Some told → 0 < end_of told) → ((told : Told) → HaveBytes (more told)) → HaveBytes (with_first at o more)
first_have at None more some rest = tt
first_have at (Some told) more some rest = (some told refl, follow_have (then_of told) (more told) (rest told))

messages_have : (framer : Framer) (asked : Asked) (count at skip : ℕ) (bytes : List ℕ) → HaveBytes (messages framer asked count at skip bytes)
unfolding messages
messages_have framer asked count at skip [] = tt
messages_have framer asked count at (suc skip) (b ∷ rest) = messages_have framer asked count (suc at) skip rest
messages_have framer asked count at zero (b ∷ rest) =
    first_have at (first_of framer (asked at count) (b ∷ rest))
    (λ (told : Told). messages framer asked (count + answers told) (suc at) (end_of told - 1 + passed (then_of told)) rest)
    (λ told e. first_some framer (asked at count) (b ∷ rest) told e)
    (λ told. messages_have framer asked (count + answers told) (suc at) (end_of told - 1 + passed (then_of told)) rest)

stretches_have : (framer : Framer) (asked : Asked) (count : ℕ) (ss : List Stretch) → HaveBytes (of_stretches framer asked count ss)
stretches_have framer asked count [] = tt
stretches_have framer asked count (s ∷ ss) =
    have_append (of_front framer asked count s.start s.bytes) _ (messages_have framer asked count s.start 0 s.bytes)
    (stretches_have framer asked (answered count (of_front framer asked count s.start s.bytes)) ss)

above_have : (before : ℕ) (ms : List Placed) → HaveBytes ms → HaveBytes (above before ms)
above_have before [] all = tt
above_have before (m ∷ ms) all = elim (cases_Bool (nat_lt before (end_at m))) [
  | inl late ↦ rw late (all.0, above_have before ms all.1)
  | inr early ↦ rw early (above_have before ms all.1)
]

by_have : (framer : Option Framer) (l : Label) (ls : List Label) → HaveBytes (messages_by framer l ls)
by_have None l ls = tt
by_have (Some framer) l ls =
    above_have (front_end l.side (noted framer (brought l.stream ls)))
    (of_stretches framer (asked_in l.side (noted framer (brought l.stream ls))) 0 (brought_by l ls).stretches)
    (stretches_have framer (asked_in l.side (noted framer (brought l.stream ls))) 0 (brought_by l ls).stretches)

-- ---- those that are held

-- a message, by the bytes that its direction holds
abbrev pub message_held : App → Held → Placed → MessageShown
message_held app held m = record { app = app; bytes = bytes_at held m.at (end_of m.told) }

place_is : (payload bytes : List ℕ) (o : Option ℕ) (place : ℕ) → place_of payload bytes o ≡ Some place → take (length bytes) (drop place payload) ≡ bytes
place_is payload bytes None place = λ e. absurd (none-some place e)
place_is payload bytes (Some k) place = λ e.
    let says = cond_some (starts_with nat_eq (drop k payload) bytes) k place e in
    ap (λ (n : ℕ). take (length bytes) (drop n payload)) (sym says.1)
    ∙ sym ((bytes_decides bytes (take (length bytes) (drop k payload))).0 says.0)

at_bytes : (payload : List ℕ) (len : ℕ) (g : Gathered) (place : Option ℕ) → length g.bytes ≡ len → bytes_from payload len (source_at g (place_of payload g.bytes place)) ≡ g.bytes
at_bytes payload len g place size =
    elim (place_of payload g.bytes place) as (λ (o : Option ℕ). place_of payload g.bytes place ≡ o → bytes_from payload len (source_at g o) ≡ g.bytes) [
      | None ↦ λ e. refl
      | Some k ↦ λ e.
          let same : k + len - k ≡ length g.bytes = omega (arith, size) in
          ap (λ (n : ℕ). take n (drop k payload)) same ∙ place_is payload g.bytes place k e
    ] refl

source_bytes : (b : Bool) (payload : List ℕ) (len : ℕ) (g : Gathered) (place : Option ℕ) → length g.bytes ≡ len
    → bytes_from payload len (if b then source_at g (place_of payload g.bytes place) else sources.Gathered g) ≡ g.bytes
source_bytes true payload len g place size = at_bytes payload len g place size
source_bytes false payload len g place size = refl

pub located_bytes : (held : Held) (s : Segment) (position : ℤ) (m : Placed) → bytes_from s.payload (end_of m.told) (located held s position m).source ≡ bytes_at held m.at (end_of m.told)
located_bytes held s position m =
    source_bytes (pointwise nat_eq (gathered held m).frames (s.frame ∷ [])) s.payload (end_of m.told) (gathered held m) (distance (pos m.at -ℤ position)) (length-bytes_at held m.at (end_of m.told))

located_fit : (held : Held) (s : Segment) (position : ℤ) (ms : List Placed) → HaveBytes ms → AreFit s.payload (map (located held s position) ms)
located_fit held s position [] all = tt
located_fit held s position (m ∷ ms) all = (
  record {
    size = ap length (located_bytes held s position m) ∙ length-bytes_at held m.at (end_of m.told);
    some = all.0;
  },
  located_fit held s position ms all.1,
)

pub all_fit : (framer : Option Framer) (past : List Segment) (s : Segment) → AreFit s.payload (shown_after framer past s)
unfolding shown_after
all_fit framer past s =
    located_fit (way_with (label_of s (labels past)) (labels past)).held s (taken_after past s).position (messages_after framer past s) (by_have framer (label_of s (labels past)) (labels past))

-- so what is shown is what is held
located_held : (app : App) (held : Held) (s : Segment) (position : ℤ) (ms : List Placed) → map (message_shown app s.payload) (map (located held s position) ms) ≡ map (message_held app held) ms
located_held app held s position [] = refl
located_held app held s position (m ∷ ms) =
    ap (λ (bytes : List ℕ). record { app = app; bytes = bytes } ∷ map (message_shown app s.payload) (map (located held s position) ms)) (located_bytes held s position m)
    ∙ ap (λ (rest : List MessageShown). message_held app held m ∷ rest) (located_held app held s position ms)

-- by the application of the stream
abbrev pub all_held : Option StreamApp → Held → Label → List Label → List MessageShown
all_held None held l ls = []
all_held (Some app) held l ls = map (message_held app.app held) (messages_by (Some app.framer) l ls)

pub shown_held : (app : Option StreamApp) (past : List Segment) (s : Segment)
    → messages_shown app s.payload (shown_after (framing app) past s) ≡ all_held app (way_with (label_of s (labels past)) (labels past)).held (label_of s (labels past)) (labels past)
unfolding shown_after
shown_held None past s = refl
shown_held (Some app) past s =
    located_held app.app (way_with (label_of s (labels past)) (labels past)).held s (taken_after past s).position (messages_by (Some app.framer) (label_of s (labels past)) (labels past))
