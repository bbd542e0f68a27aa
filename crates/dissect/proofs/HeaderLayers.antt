-- The layers of a plain frame's headers: none is a message, and none names another frame.
use Rattle.std.proofs.Common.{◌≡◌, ◌==◌, ℕ, ◌≤◌, Bool as Truth, true, false, true≢false, not, ◌&&◌, cond, if◌then◌else◌, Option, None, Some, List, [], ◌∷◌, ◌++◌, map, refl, ap, sym, subst, ◌∙◌, arith}
use Rattle.std.specs.List.{AllByRecursion as Each}
use Rattle.std.specs.Prelude.{ℤ}
use Rattle.std.proofs.lemmas.Bool.Decides.{nat_tests}
use Rattle.pk_base.specs.declared.span.Span.{Span}
use Rattle.std.specs.List.{slice_index_or}
use Rattle.pk_fields.specs.FieldSets.{is_in}
use Rattle.pk_fields.specs.Fields.{row_of}
use Rattle.pk_fields.specs.Ids.{DATA_LEN, DNS, FRAME_CAP_LEN, FRAME_LEN, FRAME_NUMBER, FRAME_TIME_DELTA, FRAME_TIME_EPOCH, FRAME_TIME_RELATIVE, HTTP, IP_FRAGMENT, IPV6_FRAGMENT, TCP, TCP_ACK, TCP_LEN, TCP_LOST, TCP_PAYLOAD, TCP_SEGMENT, TCP_SEQ, TCP_STREAM, UDP_PAYLOAD, UDP_STREAM}
use Rattle.pk_source.proofs.NoteLemmas.{outlined_kept}
use Rattle.pk_source.proofs.Placed.{told_field}
use Rattle.pk_source.specs.Outlines.{header_items, header_layer, notes_of as notes_in, outlined, rows_read, sizes_of, told_item, wanted_notes}
use Rattle.pk_source.specs.declared.header.Header.{Header}
use Rattle.pk_source.specs.declared.header.Note.{Note}
use Rattle.pk_tree.specs.Layouts.{step_items}
use Rattle.pk_tree.specs.Tables.{step_of}
use Rattle.pk_tree.specs.Trees.{TreeShown, kept, read_of}
use Rattle.pk_tree.specs.declared.item.Item.{Item}
use Rattle.pk_tree.specs.declared.table.Slot.{Slot}
use Rattle.pk_tree.specs.declared.table.Slot.TheVariants as slots
use Rattle.capture_read.specs.declared.frame.Frame.{Frame}
use Rattle.app_layers.specs.declared.times.Times.{Times}
use Rattle.dissect.specs.Carried.{ack_notes, bytes_notes, carrier_notes, conversation_notes, data_header, data_headers, data_notes, frame_notes, frame_notes_at, lost_notes, notes_of, place_notes, read_note, number_note}
use Rattle.dissect.specs.Heads.{HeadsShown, IsHeaderLayer, NamesNoFrame, are_quiet, is_quiet, names_none}
use Rattle.dissect.specs.Tables.{AreTables}
use Rattle.dissect.specs.Ways.{AreRead, IsReadBy}
use Rattle.dissect.specs.declared.carried.Carried.{Carried}
use Rattle.dissect.specs.declared.carried.Carrier.{Carrier}
use Rattle.dissect.specs.declared.carried.Carrier.TheVariants as carriers
use Rattle.dissect.specs.declared.carried.Place.{Place}
use Rattle.dissect.specs.declared.tables.Tables.{Tables}
use Rattle.dissect.proofs.PlainNotes.{each-append}

-- ---- fields

both_true : (a b : Truth) → (a && b) ≡ true → (a ≡ true) × (b ≡ true)
both_true true b is = (refl, is)
both_true false b is = absurd (true≢false (sym is))

is_not : (a : Truth) → not a ≡ true → a ≡ false
is_not true is = absurd (true≢false (sym is))
is_not false is = refl

pub quiet_names : (field : ℕ) → names_none field ≡ true → NamesNoFrame field
quiet_names field quiet =
    let one = both_true (not (field == IP_FRAGMENT)) (not (field == IPV6_FRAGMENT) && not (field == TCP_SEGMENT)) quiet in
    let two = both_true (not (field == IPV6_FRAGMENT)) (not (field == TCP_SEGMENT)) one.1 in
    record { part = is_not (field == IP_FRAGMENT) one.0; part6 = is_not (field == IPV6_FRAGMENT) two.0; segment = is_not (field == TCP_SEGMENT) two.1 }

IsQuietItem : Item → Type 0
IsQuietItem item = NamesNoFrame item.field

IsQuietNote : Note → Type 0
IsQuietNote note = NamesNoFrame note.field

-- ---- rows

items_both : (xs ys : List Item) → Each IsQuietItem xs → Each IsQuietItem ys → Each IsQuietItem (xs ++ ys)
items_both [] ys front back = back
items_both (x ∷ xs) ys front back = (front.0, items_both xs ys front.1 back)

one_quiet : (buffers : List (List ℕ)) (field : ℕ) (span : Span) → names_none field ≡ true → Each IsQuietItem (read_of buffers field span ∷ [])
unfolding IsQuietItem
one_quiet buffers field span quiet = (quiet_names field quiet, tt)

some_quiet : (test : Truth) (xs : List Item) → Each IsQuietItem xs → Each IsQuietItem (if test then [] else xs)
some_quiet true xs each = tt
some_quiet false xs each = each

slot_quiet : (buffers : List (List ℕ)) (span : Span) (sizes : List ℕ) (slot : Slot) → is_quiet slot ≡ true → Each IsQuietItem (step_items buffers span (step_of [] sizes slot))
unfolding step_items
slot_quiet buffers span sizes (slots.Row f at) quiet = one_quiet buffers f _ quiet
slot_quiet buffers span sizes (slots.Part f at size) quiet = some_quiet (slice_index_or sizes size 0 == 0) _ (one_quiet buffers f _ quiet)
slot_quiet buffers span sizes (slots.PartAt f at size) quiet = some_quiet (slice_index_or sizes size 0 == 0) _ (one_quiet buffers f _ quiet)
slot_quiet buffers span sizes (slots.Whole f at size) quiet = one_quiet buffers f _ quiet
slot_quiet buffers span sizes (slots.Check test) quiet = tt
slot_quiet buffers span sizes (slots.Room test) quiet = tt

rows_quiet : (buffers : List (List ℕ)) (span : Span) (sizes : List ℕ) (table : List Slot) → are_quiet table ≡ true → Each IsQuietItem (rows_read buffers span sizes table)
unfolding rows_read
rows_quiet buffers span sizes [] quiet = tt
rows_quiet buffers span sizes (slot ∷ table) quiet =
    let both = both_true (is_quiet slot) (are_quiet table) quiet in
    items_both (step_items buffers span (step_of [] sizes slot)) (rows_read buffers span sizes table) (slot_quiet buffers span sizes slot both.0) (rows_quiet buffers span sizes table both.1)

-- ---- what is told beside

told_quiet : (buffers : List (List ℕ)) (proto : ℕ) (notes : List Note) → Each IsQuietNote notes → Each IsQuietItem (map (λ (note : Note). told_item buffers note.field note.told) (notes_in proto notes))
unfolding notes_in IsQuietItem IsQuietNote
told_quiet buffers proto [] each = tt
told_quiet buffers proto (note ∷ notes) each = by_test ((row_of note.field).proto == proto) (told_quiet buffers proto notes each.1)
  where
    by_test : (test : Truth) → Each IsQuietItem (map (λ (n : Note). told_item buffers n.field n.told) (notes_in proto notes))
        → Each IsQuietItem (map (λ (n : Note). told_item buffers n.field n.told) (cond test (note ∷ notes_in proto notes) (notes_in proto notes)))
    by_test true rest = (subst NamesNoFrame (sym (told_field buffers note.field note.told)) each.0, rest)
    by_test false rest = rest

kept_quiet : (wanted : List ℕ) (items : List Item) → Each IsQuietItem items → Each IsQuietItem (kept wanted items)
unfolding kept
kept_quiet wanted [] each = tt
kept_quiet wanted (item ∷ items) each = by_test (is_in wanted item.field) (kept_quiet wanted items each.1)
  where
    by_test : (test : Truth) → Each IsQuietItem (kept wanted items) → Each IsQuietItem (cond test (item ∷ kept wanted items) (kept wanted items))
    by_test true rest = (each.0, rest)
    by_test false rest = rest

-- ---- layers

record IsAlone (h : Header) : Type 0 where
  pub dns : (h.proto == DNS) ≡ false
  pub http : (h.proto == HTTP) ≡ false
  pub quiet : are_quiet h.slots.now ≡ true

layer_alone : (buffers : List (List ℕ)) (wanted : List ℕ) (notes : List Note) (h : Header) → Each IsQuietNote notes → IsAlone h → IsHeaderLayer (header_layer buffers wanted notes h)
unfolding header_items IsQuietItem
layer_alone buffers wanted notes h quiet is = record {
  dns = is.dns;
  http = is.http;
  items = kept_quiet wanted (header_items buffers notes h)
      (items_both (rows_read buffers h.span (sizes_of h) h.slots.now) (map (λ (note : Note). told_item buffers note.field note.told) (notes_in h.proto notes))
      (rows_quiet buffers h.span (sizes_of h) h.slots.now is.quiet) (told_quiet buffers h.proto notes quiet));
}

layers_alone : (bytes wanted : List ℕ) (headers : List Header) (notes : List Note) → Each IsQuietNote notes → Each IsAlone headers → Each IsHeaderLayer (outlined bytes wanted headers notes).layers
unfolding outlined
layers_alone bytes wanted [] notes quiet each = tt
layers_alone bytes wanted (h ∷ headers) notes quiet each = (layer_alone (bytes ∷ []) wanted notes h quiet each.0, layers_alone bytes wanted headers notes quiet each.1)

read_alone : (buffers : List (List ℕ)) (headers : List Header) → Each (IsReadBy buffers) headers → Each (λ (h : Header). h.proto ≤ TCP) headers → Each IsAlone headers
read_alone buffers [] read lower = tt
read_alone buffers (h ∷ headers) read lower =
    let low : h.proto ≤ TCP = lower.0 in
    (record { dns = grind (arith, nat_tests, low); http = grind (arith, nat_tests, low); quiet = read.0.quiet }, read_alone buffers headers read.1 lower.1)

data_alone : (tables : Tables) (span : Span) → AreTables tables → IsAlone (data_header tables span)
data_alone tables span are = record { dns = refl; http = refl; quiet = ap are_quiet are.payload }

alone_both : (xs ys : List Header) → Each IsAlone xs → Each IsAlone ys → Each IsAlone (xs ++ ys)
alone_both [] ys front back = back
alone_both (x ∷ xs) ys front back = (front.0, alone_both xs ys front.1 back)

data_headers_alone : (tables : Tables) (free : Truth) (span : Span) → AreTables tables → Each IsAlone (data_headers tables free span)
data_headers_alone tables false span are = tt
data_headers_alone tables true span are = by_test (not (span.len == 0))
  where
    by_test : (test : Truth) → Each IsAlone (if test then data_header tables span ∷ [] else [])
    by_test true = (data_alone tables span are, tt)
    by_test false = tt

-- ---- what is told of a frame

quiet_if : (test : Truth) (xs : List Note) → Each IsQuietNote xs → Each IsQuietNote (if test then [] else xs)
quiet_if true xs each = tt
quiet_if false xs each = each

frame_quiet : (before : Times) (frame : Frame) (time : Option ℤ) → Each IsQuietNote (frame_notes_at before frame time)
unfolding IsQuietNote
frame_quiet before frame None = (quiet_names FRAME_NUMBER refl, (quiet_names FRAME_LEN refl, (quiet_names FRAME_CAP_LEN refl, tt)))
frame_quiet before frame (Some time) =
    (quiet_names FRAME_NUMBER refl, (quiet_names FRAME_TIME_EPOCH refl, (quiet_names FRAME_TIME_RELATIVE refl, (quiet_names FRAME_TIME_DELTA refl, (quiet_names FRAME_LEN refl, (quiet_names FRAME_CAP_LEN refl, tt))))))

ack_quiet : (ack : Option ℕ) → Each IsQuietNote (ack_notes ack)
unfolding IsQuietNote
ack_quiet None = tt
ack_quiet (Some ack) = (quiet_names TCP_ACK refl, tt)

place_quiet : (place : Option Place) → Each IsQuietNote (place_notes place)
unfolding place_notes IsQuietNote
place_quiet None = tt
place_quiet (Some place) = (quiet_names TCP_STREAM refl, (quiet_names TCP_SEQ refl, ack_quiet place.ack))

bytes_quiet : (span : Span) → Each IsQuietNote (bytes_notes span)
unfolding bytes_notes IsQuietNote
bytes_quiet span = (quiet_names TCP_LEN refl, quiet_if (span.len == 0) (read_note TCP_PAYLOAD span ∷ []) (quiet_names TCP_PAYLOAD refl, tt))

lost_quiet : (place : Option Place) → Each IsQuietNote (lost_notes place)
unfolding lost_notes IsQuietNote
lost_quiet None = tt
lost_quiet (Some place) = quiet_if (place.lost == 0) (number_note TCP_LOST place.lost ∷ []) (quiet_names TCP_LOST refl, tt)

conversation_quiet : (stream : ℕ) (span : Span) → Each IsQuietNote (conversation_notes stream span)
unfolding conversation_notes IsQuietNote
conversation_quiet stream span = (quiet_names UDP_STREAM refl, quiet_if (span.len == 0) (read_note UDP_PAYLOAD span ∷ []) (quiet_names UDP_PAYLOAD refl, tt))

carrier_quiet : (carrier : Carrier) (span : Span) → Each IsQuietNote (carrier_notes carrier span)
carrier_quiet (carriers.Segment place) span =
    each-append IsQuietNote (place_notes place) (bytes_notes span ++ lost_notes place) (place_quiet place) (each-append IsQuietNote (bytes_notes span) (lost_notes place) (bytes_quiet span) (lost_quiet place))
carrier_quiet (carriers.Datagram stream) span = conversation_quiet stream span

data_quiet : (free : Truth) (span : Span) → Each IsQuietNote (data_notes free span)
unfolding data_notes IsQuietNote
data_quiet false span = tt
data_quiet true span = by_test (not (span.len == 0))
  where
    by_test : (test : Truth) → Each IsQuietNote (if test then number_note DATA_LEN span.len ∷ [] else [])
    by_test true = (quiet_names DATA_LEN refl, tt)
    by_test false = tt

all_quiet : (before : Times) (frame : Frame) (c : Carried) → Each IsQuietNote (notes_of before frame c)
unfolding notes_of frame_notes
all_quiet before frame c =
    each-append IsQuietNote (frame_notes before frame) (carrier_notes c.carrier c.payload ++ data_notes c.free c.payload) (frame_quiet before frame frame.time)
    (each-append IsQuietNote (carrier_notes c.carrier c.payload) (data_notes c.free c.payload) (carrier_quiet c.carrier c.payload) (data_quiet c.free c.payload))

-- ---- all of them

pub heads_alone : (tables : Tables) (wanted : List ℕ) (before : Times) (frame : Frame) (c : Carried) (headers : List Header) (heads : HeadsShown) → AreTables tables → AreRead frame TCP headers
    → heads.headers ≡ headers ++ data_headers tables c.free c.payload → heads.notes ≡ wanted_notes wanted (notes_of before frame c)
    → Each IsHeaderLayer (outlined frame.bytes wanted heads.headers heads.notes).layers
heads_alone tables wanted before frame c headers heads are read headers_are notes_are =
    let all = headers ++ data_headers tables c.free c.payload in
    let notes = notes_of before frame c in
    let same : outlined frame.bytes wanted heads.headers heads.notes ≡ outlined frame.bytes wanted all notes =
    ap (λ (hs : List Header). outlined frame.bytes wanted hs heads.notes) headers_are ∙ ap (outlined frame.bytes wanted all) notes_are ∙ outlined_kept frame.bytes wanted all notes in
    subst (λ (t : TreeShown). Each IsHeaderLayer t.layers) (sym same)
    (layers_alone frame.bytes wanted all notes (all_quiet before frame c)
    (alone_both headers (data_headers tables c.free c.payload) (read_alone (frame.bytes ∷ []) headers read.whole read.lower) (data_headers_alone tables c.free c.payload are)))
