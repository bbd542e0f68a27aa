-- Messages in a tree, one behind the other.
use Rattle.std.proofs.Common.{◌≡◌, ℕ, ◌+◌, ◌-◌, ◌*◌, ◌^◌, ◌<◌, ◌≤◌, Bool, true, List, [], ◌∷◌, ◌++◌, length, take, drop, Option, Some, None, option_map, refl, sym, ap, ◌∙◌, subst, arith, get_or, length-append}
use Rattle.std.specs.List.{slice_range}
use Rattle.std.proofs.lemmas.List.{get_or_push, drop_more}
use Rattle.pk_base.specs.declared.span.Span.{Span}
use Rattle.pk_tree.specs.Buffers.{IsInside, bytes_of, buffer_of}
use Rattle.pk_tree.proofs.Spans.{length-bytes_of, inside_part, bytes_of-part}
use Rattle.pk_fields.specs.Ids.{TCP_SEGMENT}
use Rattle.pk_base.specs.declared.heads.Mode.TheVariants.{Plain as PlainMode}
use Rattle.pk_tree.specs.Layouts.{within}
use Rattle.pk_tree.specs.Trees.{TreeShown, with_buffer}
use Rattle.dis_http.specs.Http.{IsShape}
use Rattle.pk_fields.specs.declared.apps.App.{App}
use Rattle.stream_messages.specs.declared.framer.Framer.{Framer}
use Rattle.stream_messages.specs.declared.framer.Framer.TheVariants as framers
use Rattle.stream_messages.specs.declared.shape.Shape.{Shape}
use Rattle.stream_messages.specs.Framers.{first_sized}
use Rattle.stream_messages.specs.HttpMessages.{first_message}
use Rattle.stream_messages.specs.declared.told.Told.{Told}
use Rattle.stream_messages.specs.declared.told.Told.TheVariants as tellings
use Rattle.stream_messages.specs.Tellings.{end_of, first_of}
use Rattle.tcp_messages.specs.declared.met.Gathered.{Gathered}
use Rattle.tcp_messages.specs.declared.met.ShownMessage.{ShownMessage}
use Rattle.tcp_messages.specs.declared.met.Source.{Source}
use Rattle.tcp_messages.specs.declared.met.Source.TheVariants as sources
use Rattle.tcp_messages.specs.Shown.{IsMessage, IsWholeIn, bytes_from}
use Rattle.tcp_messages.proofs.MessageBytes.{told_ends, segment_fits}
use Rattle.app_layers.specs.MessageLayers.{added_span, message_over, messages_over, sized_over, sourced_over, tells_length, told_over, with_segments}
use Rattle.app_layers.specs.Payloads.{with_number}
use Rattle.app_layers.proofs.MessageBuffers.{GrowsBy, grows_none, grows_one, grows_on, http_grows, if_same, layer_same}
use Rattle.app_layers.specs.Rows.{framer_of, layout_of, proto_of}

-- ---- the bytes of a message

pub segment_bytes : (buffers : List (List ℕ)) (span : Span) (told : Told) (place : ℕ) → IsInside buffers span → IsMessage told (slice_range (bytes_of buffers span) place (place + end_of told))
    → IsMessage told (bytes_of buffers (within span place (end_of told)))
segment_bytes buffers span told place inside is =
    let fits : place + end_of told ≤ length (bytes_of buffers span) = segment_fits (bytes_of buffers span) told place is in
    let size : place + end_of told - place ≡ end_of told = omega arith in
    let same : bytes_of buffers (within span place (end_of told)) ≡ slice_range (bytes_of buffers span) place (place + end_of told) =
    bytes_of-part buffers span place (end_of told) (omega (arith, fits, length-bytes_of buffers span inside))
    ∙ ap (λ (n : ℕ). take n (drop place (bytes_of buffers span))) (sym size) in
    subst (IsMessage told) (sym same) is

module _ (buffers : List (List ℕ)) (span : Span) (m : ShownMessage) (place len : ℕ) (inside : IsInside buffers span) (source : m.source ≡ sources.Segment place) (whole : IsWholeIn (bytes_of buffers span) m) (size : len ≡ end_of m.message.told) where
  segment_is : IsMessage m.message.told (slice_range (bytes_of buffers span) place (place + end_of m.message.told))
  segment_is = subst (λ (s : Source). IsMessage m.message.told (bytes_from (bytes_of buffers span) (end_of m.message.told) s)) source whole.is

  pub within_span : place + len ≤ span.len
  within_span = omega (arith, size, segment_fits (bytes_of buffers span) m.message.told place segment_is, length-bytes_of buffers span inside)

  pub part_inside : (part : Span) → part ≡ within span place len → IsInside buffers part
  part_inside part is = subst (IsInside buffers) (sym is) (inside_part buffers span place len inside within_span)

  pub part_message : (part : Span) → part ≡ within span place len → IsMessage m.message.told (bytes_of buffers part)
  part_message part is =
      subst (λ (s : Span). IsMessage m.message.told (bytes_of buffers s)) (sym (is ∙ ap (within span place) size))
      (segment_bytes buffers span m.message.told place inside segment_is)

-- ---- a buffer of its own

module _ (payload : List ℕ) (m : ShownMessage) (g : Gathered) (source : m.source ≡ sources.Gathered g) (whole : IsWholeIn payload m) where
  pub gathered_message : IsMessage m.message.told g.bytes
  gathered_message = subst (λ (s : Source). IsMessage m.message.told (bytes_from payload (end_of m.message.told) s)) source whole.is

  pub gathered_short : length g.bytes < 2 ^ 32
  gathered_short = omega (arith, whole.short, (told_ends m.message.told g.bytes gathered_message).0)

take_all : (xs : List ℕ) → take (length xs) xs ≡ xs
take_all [] = refl
take_all (x ∷ xs) = ap (λ (ys : List ℕ). x ∷ ys) (take_all xs)

pub added_inside : (t : TreeShown) (bytes : List ℕ) → IsInside (with_buffer t bytes).buffers (added_span t bytes)
unfolding with_buffer
added_inside t bytes =
    let same : buffer_of (t.buffers ++ bytes ∷ []) (length t.buffers) ≡ bytes = get_or_push t.buffers bytes [] (length t.buffers) refl in
    (omega (arith, length-append t.buffers (bytes ∷ [])), omega (arith, ap length same))

pub added_bytes : (t : TreeShown) (bytes : List ℕ) → bytes_of (with_buffer t bytes).buffers (added_span t bytes) ≡ bytes
unfolding with_buffer bytes_of
added_bytes t bytes =
    let same : buffer_of (t.buffers ++ bytes ∷ []) (length t.buffers) ≡ bytes = get_or_push t.buffers bytes [] (length t.buffers) refl in
    ap (λ (xs : List ℕ). take (length bytes) xs) same ∙ take_all bytes

-- ---- a message of HTTP, by its framing

sized_only : (o : Option ℕ) (shape : Shape) → option_map tellings.Sized o ≡ Some (tellings.Http shape) → ⊥
sized_only None shape e = absurd (cc)
sized_only (Some end) shape e = absurd (cc)

same_shape : (o : Option Shape) (shape : Shape) → option_map tellings.Http o ≡ Some (tellings.Http shape) → o ≡ Some shape
same_shape None shape e = absurd (cc)
same_shape (Some x) shape e = let same : x ≡ shape = cc in ap Some same

first_shape : (framer : Framer) (asked : Bool) (bytes : List ℕ) (shape : Shape) → first_of framer asked bytes ≡ Some (tellings.Http shape) → first_message asked bytes ≡ Some shape
first_shape (framers.LengthPrefix head at width) asked bytes shape e = absurd (sized_only (first_sized head at width bytes) shape e)
first_shape framers.Http asked bytes shape e = same_shape (first_message asked bytes) shape e

pub http_shape : (shape : Shape) (bytes : List ℕ) → IsMessage (tellings.Http shape) bytes → IsShape shape bytes
http_shape shape bytes is = (is.1, first_shape is.0 is.1 bytes shape is.2, is.3)

-- ---- what messages add to the buffers

sized_grows : (app : App) (cut : Bool) (t : TreeShown) (span : Span) → GrowsBy 1 t.buffers (sized_over app cut t span).buffers
sized_grows app cut t span =
    grows_none 1 _ _ (if_same (tells_length (framer_of app)) t _ (layer_same t (proto_of app) span (layout_of app true (bytes_of t.buffers span)) PlainMode cut))

told_grows : (app : App) (cut : Bool) (t : TreeShown) (span : Span) (told : Told) → GrowsBy 1 t.buffers (told_over app cut t span told).buffers
told_grows app cut t span (tellings.Sized end) = sized_grows app cut t span
told_grows app cut t span (tellings.Http shape) = http_grows t span shape

added_one : (t : TreeShown) (bytes : List ℕ) → GrowsBy 1 t.buffers (with_buffer t bytes).buffers
unfolding with_buffer
added_one t bytes = grows_one _ _ bytes refl

sourced_grows : (app : App) (cut : Bool) (span : Span) (t : TreeShown) (told : Told) (source : Source) → GrowsBy 2 t.buffers (sourced_over app cut span t told source).buffers
sourced_grows app cut span t told (sources.Segment place) =
    let one = told_grows app cut t (within span place (end_of told)) told in
    record { more = one.more; all = one.all; few = omega (arith, one.few) }
sourced_grows app cut span t told (sources.Gathered g) =
    grows_on 1 1 t.buffers (with_buffer t g.bytes).buffers _ (added_one t g.bytes) (told_grows app cut (with_buffer t g.bytes) (added_span t g.bytes) told)

pub message_grows : (app : App) (cut : Bool) (span : Span) (t : TreeShown) (m : ShownMessage) → GrowsBy 2 t.buffers (message_over app cut span t m).buffers
unfolding message_over
message_grows app cut span t m = sourced_grows app cut span t m.message.told m.source

-- ---- the loop over messages

pub messages_next : (app : App) (cut : Bool) (span : Span) (t new all : TreeShown) (ms : List ShownMessage) (i : ℕ) (m : ShownMessage) → i < length ms → m ≡ get_or ms i m
    → messages_over app cut span t (drop i ms) ≡ all → new ≡ message_over app cut span t m → messages_over app cut span new (drop (i + 1) ms) ≡ all
messages_next app cut span t new all ms i m inside is goes next =
    ap (λ (u : TreeShown). messages_over app cut span u (drop (i + 1) ms)) next
    ∙ sym (ap (messages_over app cut span t) (rw (← is) at (drop_more ms i m inside)))
    ∙ goes

pub grows_next : (i : ℕ) (old mid new : List (List ℕ)) → GrowsBy (2 * i) old mid → GrowsBy 2 mid new → GrowsBy (2 * (i + 1)) old new
grows_next i old mid new first next =
    let all = grows_on (2 * i) 2 old mid new first next in
    record { more = all.more; all = all.all; few = omega (arith, all.few) }

-- the frames that are told
pub segments_next : (t new all : TreeShown) (frames : List ℕ) (i frame : ℕ) → i < length frames → frame ≡ get_or frames i 0
    → with_segments t (drop i frames) ≡ all → new ≡ with_segments t (frame ∷ []) → with_segments new (drop (i + 1) frames) ≡ all
segments_next t new all frames i frame inside is goes next =
    ap (λ (u : TreeShown). with_segments u (drop (i + 1) frames)) next
    ∙ ap (λ (n : ℕ). with_segments (with_number t TCP_SEGMENT n) (drop (i + 1) frames)) is
    ∙ sym (ap (with_segments t) (drop_more frames i 0 inside))
    ∙ goes
