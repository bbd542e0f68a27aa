-- What is told of a plain frame: the notes of its parts, and the items that they are.
use Rattle.std.proofs.Common.{◌≡◌, ◌==◌, ℕ, Bool as Truth, true, false, if◌then◌else◌, inl, inr, Option, None, Some, List, [], ◌∷◌, ◌++◌, refl, ap, sym, ◌∙◌, append_assoc, append-nil, length, ◌<◌, ◌^◌, rules}
use Rattle.std.specs.List.{AllByRecursion as Each}
use Rattle.std.specs.Prelude.{ℤ}
use Rattle.std.proofs.lemmas.Bool.{cases_Bool}
use Rattle.std.proofs.lemmas.List.{map-append}
use Rattle.std.proofs.lemmas.List.Elements.{All-from_recursion, filter-append}
use Rattle.pk_base.specs.declared.span.Span.{Span}
use Rattle.pk_base.specs.declared.value.Value.TheVariants.{Uint}
use Rattle.pk_fields.specs.Fields.{row_of}
use Rattle.pk_fields.specs.FieldSets.{is_in}
use Rattle.pk_fields.specs.Ids.{DATA, FRAME, FRAME_CAP_LEN, FRAME_LEN, FRAME_NUMBER, TCP, TCP_ACK, TCP_LEN, TCP_LOST, TCP_PAYLOAD, TCP_SEQ, TCP_STREAM, UDP, UDP_PAYLOAD, UDP_STREAM}
use Rattle.pk_fields.specs.Table.{rows}
use Rattle.pk_source.specs.Laws.{IsUntold}
use Rattle.pk_source.specs.Outlines.{NoteFits, told_item, wanted_notes}
use Rattle.pk_source.specs.declared.header.Note.{Note}
use Rattle.pk_source.proofs.NoteLemmas.{items_told}
use Rattle.pk_tree.proofs.LayoutLemmas.{with_items-append}
use Rattle.pk_tree.specs.Buffers.{IsInside}
use Rattle.pk_tree.specs.Layouts.{items_read, reach, step_items, step_reach, with_items}
use Rattle.pk_tree.specs.Trees.{TreeShown, made_of, read_of, with_item, with_item_at, with_last}
use Rattle.pk_tree.specs.declared.item.Item.{Item}
use Rattle.pk_tree.specs.declared.layout.Reach.TheVariants.{All}
use Rattle.pk_tree.specs.declared.layout.Step.{Step}
use Rattle.pk_tree.specs.declared.layout.Step.TheVariants.{Made}
use Rattle.capture_read.specs.declared.frame.Frame.{Frame}
use Rattle.app_layers.specs.FrameLayer.{frame_layout, time_steps}
use Rattle.app_layers.specs.Payloads.{carried_told, datagram_told, with_ack, with_lost, with_number}
use Rattle.app_layers.specs.declared.times.Times.{Times}
use Rattle.dissect.specs.Carried.{ack_notes, bytes_notes, carrier_notes, carrier_proto, conversation_notes, frame_notes, frame_notes_at, lost_notes, number_note, place_notes, read_note, segment_by, segment_notes, time_notes, told_by}
use Rattle.dissect.specs.declared.carried.Carrier.{Carrier}
use Rattle.dissect.specs.declared.carried.Carrier.TheVariants as carriers
use Rattle.dissect.specs.declared.carried.Place.{Place}

pub wanted-append : (wanted : List ℕ) (xs ys : List Note) → wanted_notes wanted (xs ++ ys) ≡ wanted_notes wanted xs ++ wanted_notes wanted ys
unfolding wanted_notes
wanted-append wanted xs ys = filter-append (λ (note : Note). is_in wanted note.field) xs ys

-- two parts that were told one behind the other
pub two_told : (wanted : List ℕ) (old one new first second : List Note) → one ≡ old ++ wanted_notes wanted first → new ≡ one ++ wanted_notes wanted second → new ≡ old ++ wanted_notes wanted (first ++ second)
two_told wanted old one new first second a b =
    b ∙ ap (λ (front : List Note). front ++ wanted_notes wanted second) a
    ∙ append_assoc old (wanted_notes wanted first) (wanted_notes wanted second)
    ∙ ap (λ (back : List Note). old ++ back) (sym (wanted-append wanted first second))

-- nothing was told
pub none_told : (wanted : List ℕ) (old notes : List Note) → notes ≡ [] → old ≡ old ++ wanted_notes wanted notes
unfolding wanted_notes
none_told wanted old notes none = sym (append-nil old) ∙ ap (λ (ns : List Note). old ++ wanted_notes wanted ns) (sym none)

pub none_placed : place_notes None ≡ []
unfolding place_notes
none_placed = refl

pub none_lost : lost_notes None ≡ []
unfolding lost_notes
none_lost = refl

pub nothing_lost : (place : Place) → place.lost ≡ 0 → lost_notes (Some place) ≡ []
unfolding lost_notes
nothing_lost place zero = rw zero refl

-- three parts that were told one behind the other
pub three_told : (wanted : List ℕ) (old one two new first second third : List Note) → one ≡ old ++ wanted_notes wanted first → two ≡ one ++ wanted_notes wanted second → new ≡ two ++ wanted_notes wanted third
    → new ≡ old ++ wanted_notes wanted (first ++ (second ++ third))
three_told wanted old one two new first second third a b c =
    c ∙ ap (λ (front : List Note). front ++ wanted_notes wanted third) (b ∙ ap (λ (front : List Note). front ++ wanted_notes wanted second) a)
    ∙ append_assoc (old ++ wanted_notes wanted first) (wanted_notes wanted second) (wanted_notes wanted third)
    ∙ append_assoc old (wanted_notes wanted first) (wanted_notes wanted second ++ wanted_notes wanted third)
    ∙ ap (λ (back : List Note). old ++ (wanted_notes wanted first ++ back)) (sym (wanted-append wanted second third))
    ∙ ap (λ (back : List Note). old ++ back) (sym (wanted-append wanted first (second ++ third)))

pub each-append : (P : Note → Type 0) (xs ys : List Note) → Each P xs → Each P ys → Each P (xs ++ ys)
each-append P [] ys one other = other
each-append P (x ∷ xs) ys one other = (one.0, each-append P xs ys one.1 other)

-- ---- each is of its field's kind

number_fits : (buffers : List (List ℕ)) (frame : Frame) (n wire len : ℕ) → n < 2 ^ 32 → wire < 2 ^ 32 → len < 2 ^ 32
    → Each (NoteFits buffers) (number_note FRAME_NUMBER n ∷ []) × Each (NoteFits buffers) (number_note FRAME_LEN wire ∷ number_note FRAME_CAP_LEN len ∷ [])
unfolding row_of rows
number_fits buffers frame n wire len one two three = ((one, tt), (two, (three, tt)))

times_fit : (buffers : List (List ℕ)) (before : Times) (time : Option ℤ) → Each (NoteFits buffers) (time_notes before time)
unfolding row_of rows
times_fit buffers before None = tt
times_fit buffers before (Some time) = (tt, (tt, (tt, tt)))

pub frame_fits : (buffers : List (List ℕ)) (before : Times) (frame : Frame) → frame.number < 2 ^ 32 → frame.original < 2 ^ 32 → length frame.bytes < 2 ^ 32 → Each (NoteFits buffers) (frame_notes before frame)
unfolding frame_notes
frame_fits buffers before frame number wire len =
    let numbers = number_fits buffers frame frame.number frame.original (length frame.bytes) number wire len in
    each-append (NoteFits buffers) (number_note FRAME_NUMBER frame.number ∷ []) (time_notes before frame.time ++ number_note FRAME_LEN frame.original ∷ number_note FRAME_CAP_LEN (length frame.bytes) ∷ []) numbers.0
    (each-append (NoteFits buffers) (time_notes before frame.time) (number_note FRAME_LEN frame.original ∷ number_note FRAME_CAP_LEN (length frame.bytes) ∷ []) (times_fit buffers before frame.time) numbers.1)

each_if : (P : Note → Type 0) (test : Truth) (xs : List Note) → Each P xs → Each P (if test then [] else xs)
each_if P true xs each = tt
each_if P false xs each = each

payload_reads : (buffers : List (List ℕ)) (span : Span) → IsInside buffers span → NoteFits buffers (read_note TCP_PAYLOAD span) × NoteFits buffers (read_note UDP_PAYLOAD span)
unfolding row_of rows
payload_reads buffers span inside = search (rules, inside)

pub bytes_fit : (buffers : List (List ℕ)) (span : Span) → span.len < 2 ^ 32 → IsInside buffers span → Each (NoteFits buffers) (bytes_notes span)
unfolding bytes_notes row_of rows
bytes_fit buffers span small inside = (small, each_if (NoteFits buffers) (span.len == 0) (read_note TCP_PAYLOAD span ∷ []) ((payload_reads buffers span inside).0, tt))

pub conversation_fits : (buffers : List (List ℕ)) (stream : ℕ) (span : Span) → stream < 2 ^ 32 → IsInside buffers span → Each (NoteFits buffers) (conversation_notes stream span)
unfolding conversation_notes row_of rows
conversation_fits buffers stream span small inside = (small, each_if (NoteFits buffers) (span.len == 0) (read_note UDP_PAYLOAD span ∷ []) ((payload_reads buffers span inside).1, tt))

-- ---- whose notes they are

IsOf : ℕ → Note → Type 0
IsOf proto note = (row_of note.field).proto ≡ proto

untold : (p proto : ℕ) (notes : List Note) → Each (IsOf p) notes → (p == proto) ≡ false → Each (λ (note : Note). ((row_of note.field).proto == proto) ≡ false) notes
unfolding IsOf
untold p proto [] each other = tt
untold p proto (note ∷ notes) each other = (ap (λ n. n == proto) each.0 ∙ other, untold p proto notes each.1 other)

frame_at : (before : Times) (frame : Frame) (time : Option ℤ) → Each (IsOf FRAME) (frame_notes_at before frame time)
unfolding IsOf row_of rows
frame_at before frame None = (refl, (refl, (refl, tt)))
frame_at before frame (Some time) = (refl, (refl, (refl, (refl, (refl, (refl, tt))))))

pub frame_own : (before : Times) (frame : Frame) → Each (λ (note : Note). (row_of note.field).proto ≡ FRAME) (frame_notes before frame)
unfolding frame_notes IsOf
frame_own before frame = frame_at before frame frame.time

ack_own : (ack : Option ℕ) → Each (IsOf TCP) (ack_notes ack)
unfolding IsOf row_of rows
ack_own None = tt
ack_own (Some ack) = (refl, tt)

place_own : (place : Option Place) → Each (IsOf TCP) (place_notes place)
unfolding place_notes IsOf row_of rows
place_own None = tt
place_own (Some place) = (refl, (refl, ack_own place.ack))

if_own : (test : Truth) (proto : ℕ) (xs ys : List Note) → Each (IsOf proto) xs → Each (IsOf proto) ys → Each (IsOf proto) (if test then xs else ys)
if_own true proto xs ys one other = one
if_own false proto xs ys one other = other

bytes_own : (span : Span) → Each (IsOf TCP) (bytes_notes span)
unfolding bytes_notes IsOf row_of rows
bytes_own span = (refl, if_own (span.len == 0) TCP [] _ tt (refl, tt))

lost_own : (place : Option Place) → Each (IsOf TCP) (lost_notes place)
unfolding lost_notes IsOf row_of rows
lost_own None = tt
lost_own (Some place) = if_own (place.lost == 0) TCP [] _ tt (refl, tt)

segment_own : (place : Option Place) (span : Span) → Each (λ (note : Note). (row_of note.field).proto ≡ TCP) (segment_notes place span)
unfolding IsOf
segment_own place span =
    each-append (IsOf TCP) (place_notes place) (bytes_notes span ++ lost_notes place) (place_own place) (each-append (IsOf TCP) (bytes_notes span) (lost_notes place) (bytes_own span) (lost_own place))

pub frame_untold : (before : Times) (frame : Frame) (proto : ℕ) → (FRAME == proto) ≡ false → IsUntold proto (frame_notes before frame)
unfolding IsOf
frame_untold before frame proto other =
    All-from_recursion (λ (note : Note). ((row_of note.field).proto == proto) ≡ false) (frame_notes before frame) (untold FRAME proto (frame_notes before frame) (frame_own before frame) other)

conversation_own : (stream : ℕ) (span : Span) → Each (IsOf UDP) (conversation_notes stream span)
unfolding conversation_notes IsOf row_of rows
conversation_own stream span = (refl, if_own (span.len == 0) UDP [] _ tt (refl, tt))

pub carrier_own : (carrier : Carrier) (span : Span) → Each (λ (note : Note). (row_of note.field).proto ≡ carrier_proto carrier) (carrier_notes carrier span)
unfolding IsOf
carrier_own (carriers.Segment place) span = segment_own place span
carrier_own (carriers.Datagram stream) span = conversation_own stream span

pub not_data : (carrier : Carrier) → (carrier_proto carrier == DATA) ≡ false
not_data (carriers.Segment place) = refl
not_data (carriers.Datagram stream) = refl

pub both_untold : (before : Times) (frame : Frame) (carrier : Carrier) (span : Span) (proto : ℕ) → (FRAME == proto) ≡ false → (carrier_proto carrier == proto) ≡ false → IsUntold proto (frame_notes before frame ++ carrier_notes carrier span)
unfolding IsOf
both_untold before frame carrier span proto one other =
    All-from_recursion (λ (note : Note). ((row_of note.field).proto == proto) ≡ false) (frame_notes before frame ++ carrier_notes carrier span)
    (each-append (λ (note : Note). ((row_of note.field).proto == proto) ≡ false) (frame_notes before frame) (carrier_notes carrier span)
    (untold FRAME proto (frame_notes before frame) (frame_own before frame) one) (untold (carrier_proto carrier) proto (carrier_notes carrier span) (carrier_own carrier span) other))

-- ---- the items that they are

layout_at : Times → Frame → Option ℤ → List Step
layout_at before frame time =
    Made FRAME_NUMBER (Uint frame.number) ∷ time_steps before time ++ Made FRAME_LEN (Uint frame.original) ∷ Made FRAME_CAP_LEN (Uint (length frame.bytes)) ∷ []

frame_items_at : (buffers : List (List ℕ)) (span : Span) (before : Times) (frame : Frame) (time : Option ℤ) → items_read buffers span (layout_at before frame time) ≡ items_told buffers (frame_notes_at before frame time)
unfolding layout_at items_read step_items step_reach
frame_items_at buffers span before frame None = refl
frame_items_at buffers span before frame (Some time) = refl

pub frame_items : (buffers : List (List ℕ)) (span : Span) (before : Times) (frame : Frame) → items_read buffers span (frame_layout before frame) ≡ items_told buffers (frame_notes before frame)
unfolding layout_at frame_layout frame_notes
frame_items buffers span before frame = frame_items_at buffers span before frame frame.time

frame_read_at : (end : ℕ) (before : Times) (frame : Frame) (time : Option ℤ) → reach end (layout_at before frame time) ≡ All
unfolding layout_at reach step_reach
frame_read_at end before frame None = refl
frame_read_at end before frame (Some time) = refl

pub frame_read : (end : ℕ) (before : Times) (frame : Frame) → reach end (frame_layout before frame) ≡ All
unfolding layout_at frame_layout
frame_read end before frame = frame_read_at end before frame frame.time

-- what is told of a segment or a datagram, item by item
item_buffers : (t : TreeShown) (item : Item) → (with_item t item).buffers ≡ t.buffers
unfolding with_item with_last with_item_at
item_buffers t item = elim (cases_Bool (is_in t.wanted item.field)) [
  | inl is ↦ rw is refl
  | inr none ↦ rw none refl
]

ack_buffers : (t : TreeShown) (ack : Option ℕ) → (with_ack t ack).buffers ≡ t.buffers
ack_buffers t None = refl
ack_buffers t (Some ack) = item_buffers t (made_of TCP_ACK (Uint ack))

ack_items : (buffers : List (List ℕ)) (t : TreeShown) (ack : Option ℕ) → with_items t (items_told buffers (ack_notes ack)) ≡ with_ack t ack
unfolding with_items
ack_items buffers t None = refl
ack_items buffers t (Some ack) = refl

bytes_items : (buffers : List (List ℕ)) (t : TreeShown) (span : Span) → t.buffers ≡ buffers → with_items t (items_told buffers (bytes_notes span)) ≡ carried_told t span
unfolding with_items bytes_notes
bytes_items buffers t span same =
    let u : TreeShown = with_number t TCP_LEN span.len in
    let own : u.buffers ≡ buffers = item_buffers t (made_of TCP_LEN (Uint span.len)) ∙ same in
    elim (cases_Bool (span.len == 0)) [
      | inl none ↦ rw none refl
      | inr some ↦ rw some (ap (λ (bs : List (List ℕ)). with_item u (read_of bs TCP_PAYLOAD span)) (sym own))
    ]

lost_items : (buffers : List (List ℕ)) (t : TreeShown) (lost : ℕ) → with_items t (items_told buffers (if lost == 0 then [] else number_note TCP_LOST lost ∷ [])) ≡ with_lost t lost
unfolding with_items
lost_items buffers t lost = elim (cases_Bool (lost == 0)) [
  | inl none ↦ rw none refl
  | inr some ↦ rw some refl
]

segment_items : (buffers : List (List ℕ)) (t : TreeShown) (place : Option Place) (span : Span) → t.buffers ≡ buffers → with_items t (items_told buffers (segment_notes place span)) ≡ segment_by t place span
unfolding place_notes lost_notes with_items
segment_items buffers t None span same =
    ap (with_items t) (ap (items_told buffers) (append-nil (bytes_notes span))) ∙ bytes_items buffers t span same
segment_items buffers t (Some place) span same =
    let u : TreeShown = with_number (with_number t TCP_STREAM place.stream) TCP_SEQ place.seq in
    let own : u.buffers ≡ buffers = item_buffers (with_number t TCP_STREAM place.stream) (made_of TCP_SEQ (Uint place.seq)) ∙ item_buffers t (made_of TCP_STREAM (Uint place.stream)) ∙ same in
    let lost : List Note = if place.lost == 0 then [] else number_note TCP_LOST place.lost ∷ [] in
    ap (with_items u) (map-append (λ (note : Note). told_item buffers note.field note.told) (ack_notes place.ack) (bytes_notes span ++ lost)
    ∙ ap (λ (items : List Item). items_told buffers (ack_notes place.ack) ++ items) (map-append (λ (note : Note). told_item buffers note.field note.told) (bytes_notes span) lost))
    ∙ with_items-append u (items_told buffers (ack_notes place.ack)) (items_told buffers (bytes_notes span) ++ items_told buffers lost)
    ∙ ap (λ (x : TreeShown). with_items x (items_told buffers (bytes_notes span) ++ items_told buffers lost)) (ack_items buffers u place.ack)
    ∙ with_items-append (with_ack u place.ack) (items_told buffers (bytes_notes span)) (items_told buffers lost)
    ∙ ap (λ (x : TreeShown). with_items x (items_told buffers lost)) (bytes_items buffers (with_ack u place.ack) span (ack_buffers u place.ack ∙ own))
    ∙ lost_items buffers (carried_told (with_ack u place.ack) span) place.lost

conversation_items : (buffers : List (List ℕ)) (t : TreeShown) (stream : ℕ) (span : Span) → t.buffers ≡ buffers → with_items t (items_told buffers (conversation_notes stream span)) ≡ datagram_told t stream span
unfolding with_items conversation_notes datagram_told
conversation_items buffers t stream span same =
    let u : TreeShown = with_number t UDP_STREAM stream in
    let own : u.buffers ≡ buffers = item_buffers t (made_of UDP_STREAM (Uint stream)) ∙ same in
    elim (cases_Bool (span.len == 0)) [
      | inl none ↦ rw none refl
      | inr some ↦ rw some (ap (λ (bs : List (List ℕ)). with_item u (read_of bs UDP_PAYLOAD span)) (sym own))
    ]

pub carrier_items : (buffers : List (List ℕ)) (t : TreeShown) (carrier : Carrier) (span : Span) → t.buffers ≡ buffers → with_items t (items_told buffers (carrier_notes carrier span)) ≡ told_by t carrier span
carrier_items buffers t (carriers.Segment place) span same = segment_items buffers t place span same
carrier_items buffers t (carriers.Datagram stream) span same = conversation_items buffers t stream span same
