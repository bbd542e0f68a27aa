-- A tree without the items that number is the same whatever the numbers are.
use Rattle.std.proofs.Common.{◌≡◌, ◌==◌, ℕ, ◌+◌, Bool, true, false, cond, ◌&&◌, if◌then◌else◌, List, [], ◌∷◌, ◌++◌, length, map, Option, None, Some, ℤ, refl, sym, ap, ◌∙◌}
use Rattle.pk_base.specs.declared.heads.Mode.{Mode}
use Rattle.pk_base.specs.declared.heads.Mode.TheVariants.{Plain}
use Rattle.pk_base.specs.declared.span.Span.{Span}
use Rattle.pk_base.specs.declared.value.Value.TheVariants.{Uint}
use Rattle.pk_fields.specs.FieldSets.{is_in}
use Rattle.pk_fields.specs.Ids.{FRAME, FRAME_NUMBER, FRAME_LEN, FRAME_CAP_LEN, TCP_SEQ, TCP_STREAM, TCP_PAYLOAD, TCP_SEGMENT, UDP_PAYLOAD, UDP_STREAM}
use Rattle.pk_tree.specs.declared.item.Item.{Item}
use Rattle.pk_tree.specs.declared.layout.Reach.{Reach}
use Rattle.pk_tree.specs.declared.layout.Reach.TheVariants.{All}
use Rattle.pk_tree.specs.declared.layout.Step.{Step}
use Rattle.pk_tree.specs.declared.layout.Step.TheVariants.{Made}
use Rattle.pk_tree.specs.Layouts.{fault_of, items_read, layer_read, reach, reaches_end, step_items, step_reach, with_fault}
use Rattle.pk_tree.specs.Trees.{IsKept, TreeShown, kept, layers_of, made_of, read_of, with_buffer, with_item, with_item_at, with_last, with_layer}
use Rattle.ip_join.specs.declared.joined.Datagram.{Datagram}
use Rattle.tcp_streams.specs.declared.segment.Taken.{Taken}
use Rattle.tcp_streams.specs.Gaps.{lost_bytes}
use Rattle.tcp_streams.specs.Isolation.{IsSameTaken}
use Rattle.pk_fields.specs.declared.apps.App.{App}
use Rattle.app_layers.specs.declared.streamed.StreamApp.{StreamApp}
use Rattle.tcp_messages.specs.declared.met.ShownMessage.{ShownMessage}
use Rattle.tcp_messages.specs.declared.met.Source.{Source}
use Rattle.tcp_messages.specs.declared.met.Source.TheVariants as sources
use Rattle.stream_messages.specs.declared.told.Told.{Told}
use Rattle.tcp_messages.specs.Renumbered.{shown_renumbered, source_renumbered}
use Rattle.tcp_messages.specs.Shown.{frames_told as gathered_from}
use Rattle.dis_link.specs.Link.{link_of, link_read}
use Rattle.dis_link.proofs.LinkKept.{link_kept}
use Rattle.capture_read.specs.declared.frame.Frame.{Frame}
use Rattle.app_layers.specs.declared.times.Times.{Times}
use Rattle.app_layers.specs.Fragments.{frame_field, frames_told, joined_told, length_field, number_told}
use Rattle.app_layers.specs.FrameLayer.{frame_layout, frame_span, is_cut, kept_frame, time_steps}
use Rattle.app_layers.specs.MessageLayers.{carried_over, message_over, messages_over, sourced_over, with_segments}
use Rattle.app_layers.specs.Payloads.{carried_told, datagram_told, place_told, segment_told, with_ack, with_lost, with_number, with_payload}
use Rattle.dissect.specs.Numbering.{HasNoNumbering, frame_renumbered}

-- ---- items that aren't wanted

skipped : (t : TreeShown) (item : Item) → is_in t.wanted item.field ≡ false → with_item t item ≡ t
unfolding with_item
skipped t item out = ap (λ (test : Bool). cond test (with_last t item) t) out

out_of : (wanted : List ℕ) (t : TreeShown) (field : ℕ) → t.wanted ≡ wanted → is_in wanted field ≡ false → is_in t.wanted field ≡ false
out_of wanted t field same out = ap (λ (words : List ℕ). is_in words field) same ∙ out

number_skipped : (t : TreeShown) (field number : ℕ) → is_in t.wanted field ≡ false → with_number t field number ≡ t
number_skipped t field number out = skipped t (made_of field (Uint number)) out

-- ---- what is wanted stays

if_wanted : (test : Bool) (t u : TreeShown) (wanted : List ℕ) → t.wanted ≡ wanted → u.wanted ≡ wanted → (if test then t else u).wanted ≡ wanted
if_wanted true t u wanted one other = one
if_wanted false t u wanted one other = other

item_wanted : (t : TreeShown) (item : Item) → (with_item t item).wanted ≡ t.wanted
unfolding with_item with_last with_item_at
item_wanted t item = if_wanted (is_in t.wanted item.field) _ t t.wanted refl refl

fault_wanted : (t : TreeShown) (span : Span) (fault : Option ℕ) → (with_fault t span fault).wanted ≡ t.wanted
unfolding with_layer
fault_wanted t span None = refl
fault_wanted t span (Some fault) = refl

opened_wanted : (t : TreeShown) (proto : ℕ) (span : Span) (items : List Item) → (with_layer t proto span items).wanted ≡ t.wanted
unfolding with_layer
opened_wanted t proto span items = refl

pub layer_wanted : (t : TreeShown) (proto : ℕ) (span : Span) (steps : List Step) (mode : Mode) (cut : Bool) → (layer_read t proto span steps mode cut).wanted ≡ t.wanted
unfolding layer_read
layer_wanted t proto span steps mode cut =
    fault_wanted (with_layer t proto span (items_read t.buffers span steps)) span (fault_of mode (cut && reaches_end t.buffers span) (reach span.len steps))
    ∙ opened_wanted t proto span (items_read t.buffers span steps)

pub link_wanted : (wanted : List ℕ) (number : ℕ) (little : Bool) (whole t : TreeShown) (span : Span) (cut : Bool) → IsKept wanted whole t → (link_read (link_of number) little t span cut).wanted ≡ wanted
link_wanted wanted number little whole t span cut k =
    ap (λ (u : TreeShown). (link_read (link_of number) little u span cut).wanted) k.same
    ∙ ap (λ (u : TreeShown). u.wanted) (link_kept wanted (link_of number) little whole span cut (record { same = refl; all = k.all })).same

payload_wanted : (t : TreeShown) (field : ℕ) (span : Span) → (with_payload t field span).wanted ≡ t.wanted
payload_wanted t field span = if_wanted (span.len == 0) t _ t.wanted refl (item_wanted t (read_of t.buffers field span))

ack_wanted : (t : TreeShown) (ack : Option ℕ) → (with_ack t ack).wanted ≡ t.wanted
ack_wanted t None = refl
ack_wanted t (Some ack) = item_wanted t _

lost_wanted : (t : TreeShown) (lost : ℕ) → (with_lost t lost).wanted ≡ t.wanted
lost_wanted t lost = if_wanted (lost == 0) t _ t.wanted refl (item_wanted t _)

segment_wanted : (t : TreeShown) (taken : Taken) (span : Span) → (segment_told t taken span).wanted ≡ t.wanted
unfolding segment_told place_told
segment_wanted t taken span =
    lost_wanted _ (lost_bytes taken.lost) ∙ payload_wanted _ TCP_PAYLOAD span ∙ item_wanted _ _ ∙ ack_wanted _ taken.ack ∙ item_wanted _ _ ∙ item_wanted t _

-- ---- fragments

frames_skipped : (t : TreeShown) (six : Bool) (frames : List ℕ) → is_in t.wanted (frame_field six) ≡ false → frames_told t six frames ≡ t
frames_skipped t six [] out = refl
frames_skipped t six (frame ∷ frames) out =
    ap (λ (u : TreeShown). frames_told u six frames) (number_skipped t (frame_field six) frame out) ∙ frames_skipped t six frames out

list_of : (wanted : List ℕ) → HasNoNumbering wanted → (six : Bool) → is_in wanted (frame_field six) ≡ false
list_of wanted none true = none.1.1.1.1.1.0
list_of wanted none false = none.1.1.1.0

abbrev told_length : TreeShown → Bool → List ℕ → TreeShown
told_length t six bytes = with_buffer (number_told t (length_field six) (length bytes)) bytes

pub joined_skipped : (wanted : List ℕ) (t : TreeShown) (six : Bool) (one other : Datagram) → HasNoNumbering wanted → t.wanted ≡ wanted → one.bytes ≡ other.bytes → joined_told t six one ≡ joined_told t six other
unfolding joined_told
joined_skipped wanted t six one other none is same =
    let out : is_in t.wanted (frame_field six) ≡ false = out_of wanted t (frame_field six) is (list_of wanted none six) in
    ap (λ (u : TreeShown). told_length u six one.bytes) (frames_skipped t six one.frames out)
    ∙ ap (told_length t six) same
    ∙ sym (ap (λ (u : TreeShown). told_length u six other.bytes) (frames_skipped t six other.frames out))

pub joined_wanted : (wanted : List ℕ) (t : TreeShown) (six : Bool) (datagram : Datagram) → HasNoNumbering wanted → t.wanted ≡ wanted → (joined_told t six datagram).wanted ≡ wanted
unfolding joined_told with_buffer
joined_wanted wanted t six datagram none is =
    item_wanted _ _ ∙ ap (λ (u : TreeShown). u.wanted) (frames_skipped t six datagram.frames (out_of wanted t (frame_field six) is (list_of wanted none six))) ∙ is

-- ---- conversations over UDP

udp_out : (wanted : List ℕ) → HasNoNumbering wanted → is_in wanted UDP_STREAM ≡ false
udp_out wanted none = none.1.1.1.1.1.1.1.0

pub datagram_skipped : (wanted : List ℕ) (t : TreeShown) (one other : ℕ) (span : Span) → HasNoNumbering wanted → t.wanted ≡ wanted → datagram_told t one span ≡ datagram_told t other span
unfolding datagram_told
datagram_skipped wanted t one other span none is =
    let out : is_in t.wanted UDP_STREAM ≡ false = out_of wanted t UDP_STREAM is (udp_out wanted none) in
    ap (λ (u : TreeShown). with_payload u UDP_PAYLOAD span) (number_skipped t UDP_STREAM one out ∙ sym (number_skipped t UDP_STREAM other out))

-- ---- segments

tcp_out : (wanted : List ℕ) → HasNoNumbering wanted → is_in wanted TCP_STREAM ≡ false
tcp_out wanted none = none.1.1.1.1.1.1.1.1.0

listed_out : (wanted : List ℕ) → HasNoNumbering wanted → is_in wanted TCP_SEGMENT ≡ false
listed_out wanted none = none.1.1.1.1.1.1.1.1.1.0

abbrev told_behind : TreeShown → ℕ → Option ℕ → Span → ℕ → TreeShown
told_behind t seq ack span lost = with_lost (carried_told (with_ack (with_number t TCP_SEQ seq) ack) span) lost

segment_skipped : (wanted : List ℕ) (t : TreeShown) (one other : Taken) (span : Span) → HasNoNumbering wanted → t.wanted ≡ wanted → IsSameTaken one other → segment_told t one span ≡ segment_told t other span
unfolding segment_told place_told
segment_skipped wanted t one other span none is same =
    let out : is_in t.wanted TCP_STREAM ≡ false = out_of wanted t TCP_STREAM is (tcp_out wanted none) in
    ap (λ (u : TreeShown). told_behind u one.seq one.ack span (lost_bytes one.lost)) (number_skipped t TCP_STREAM one.stream out)
    ∙ (λ i. told_behind t (same.seq i) (same.ack i) span (lost_bytes (same.lost i)))
    ∙ sym (ap (λ (u : TreeShown). told_behind u other.seq other.ack span (lost_bytes other.lost)) (number_skipped t TCP_STREAM other.stream out))

segments_skipped : (t : TreeShown) (frames : List ℕ) → is_in t.wanted TCP_SEGMENT ≡ false → with_segments t frames ≡ t
segments_skipped t [] out = refl
segments_skipped t (frame ∷ frames) out =
    ap (λ (u : TreeShown). with_segments u frames) (number_skipped t TCP_SEGMENT frame out) ∙ segments_skipped t frames out

sourced_same : (renumber : ℕ → ℕ) (app : App) (cut : Bool) (span : Span) (t : TreeShown) (told : Told) (source : Source) → sourced_over app cut span t told (source_renumbered renumber source) ≡ sourced_over app cut span t told source
sourced_same renumber app cut span t told (sources.Segment place) = refl
sourced_same renumber app cut span t told (sources.Gathered g) = refl

messages_same : (renumber : ℕ → ℕ) (app : App) (cut : Bool) (span : Span) (t : TreeShown) (messages : List ShownMessage) → messages_over app cut span t (map (shown_renumbered renumber) messages) ≡ messages_over app cut span t messages
unfolding message_over
messages_same renumber app cut span t [] = refl
messages_same renumber app cut span t (m ∷ ms) =
    ap (λ (u : TreeShown). messages_over app cut span u (map (shown_renumbered renumber) ms)) (sourced_same renumber app cut span t m.message.told m.source)
    ∙ messages_same renumber app cut span (message_over app cut span t m) ms

carried_same : (renumber : ℕ → ℕ) (app : Option StreamApp) (cut : Bool) (span : Span) (t : TreeShown) (messages : List ShownMessage) → is_in t.wanted TCP_SEGMENT ≡ false
    → carried_over app cut span t (map (shown_renumbered renumber) messages) ≡ carried_over app cut span t messages
unfolding carried_over
carried_same renumber None cut span t messages out = refl
carried_same renumber (Some app) cut span t messages out =
    ap (λ (u : TreeShown). messages_over app.app cut span u (map (shown_renumbered renumber) messages)) (segments_skipped t (gathered_from (map (shown_renumbered renumber) messages)) out)
    ∙ messages_same renumber app.app cut span t messages
    ∙ sym (ap (λ (u : TreeShown). messages_over app.app cut span u messages) (segments_skipped t (gathered_from messages) out))

-- a segment with its messages
pub segment_told_same : (wanted : List ℕ) (renumber : ℕ → ℕ) (app : Option StreamApp) (cut : Bool) (span : Span) (t : TreeShown) (one other : Taken) (messages : List ShownMessage)
    → HasNoNumbering wanted → t.wanted ≡ wanted → IsSameTaken one other
    → carried_over app cut span (segment_told t one span) messages ≡ carried_over app cut span (segment_told t other span) (map (shown_renumbered renumber) messages)
segment_told_same wanted renumber app cut span t one other messages none is same =
    let u : TreeShown = segment_told t one span in
    sym (carried_same renumber app cut span u messages (out_of wanted u TCP_SEGMENT (segment_wanted t one span ∙ is) (listed_out wanted none)))
    ∙ ap (λ (v : TreeShown). carried_over app cut span v (map (shown_renumbered renumber) messages)) (segment_skipped wanted t one other span none is same)

-- ---- the frame's own layer

abbrev frame_steps : Times → ℕ → Option ℤ → ℕ → ℕ → List Step
frame_steps before number time original len =
    Made FRAME_NUMBER (Uint number) ∷
    time_steps before time ++
    Made FRAME_LEN (Uint original) ∷
    Made FRAME_CAP_LEN (Uint len) ∷
    []

steps_kept : (wanted : List ℕ) (buffers : List (List ℕ)) (span : Span) (before aside : Times) (number other : ℕ) (time : Option ℤ) (original len : ℕ) → HasNoNumbering wanted
    → kept wanted (items_read buffers span (frame_steps before number time original len)) ≡ kept wanted (items_read buffers span (frame_steps aside other time original len))
unfolding kept items_read step_items step_reach
steps_kept wanted buffers span before aside number other None original len none = rw none.0 refl
steps_kept wanted buffers span before aside number other (Some time) original len none = rw (none.0, none.1.0, none.1.1.0) refl

steps_reach : (len : ℕ) (before : Times) (number : ℕ) (time : Option ℤ) (original captured : ℕ) → reach len (frame_steps before number time original captured) ≡ All
unfolding reach step_reach
steps_reach len before number None original captured = refl
steps_reach len before number (Some time) original captured = refl

abbrev opened : List ℕ → List ℕ → Span → List Item → TreeShown
opened wanted bytes span items =
    record {
      layers = record { proto = FRAME; nth = layers_of FRAME [] + 1; span = span; items = items } ∷ [];
      buffers = bytes ∷ [];
      wanted = wanted;
    }

-- the layer of a frame
read_as : (wanted bytes : List ℕ) (span : Span) (steps : List Step) (cut : Bool) → reach span.len steps ≡ All
    → layer_read (record { layers = []; buffers = bytes ∷ []; wanted = wanted }) FRAME span steps Plain cut ≡ opened wanted bytes span (kept wanted (items_read (bytes ∷ []) span steps))
unfolding layer_read with_layer
read_as wanted bytes span steps cut all =
    ap (λ (r : Reach). with_fault (opened wanted bytes span (kept wanted (items_read (bytes ∷ []) span steps))) span (fault_of Plain (cut && reaches_end (bytes ∷ []) span) r)) all

pub frame_same : (wanted : List ℕ) (before aside : Times) (renumber : ℕ → ℕ) (frame : Frame) → HasNoNumbering wanted → kept_frame wanted before frame ≡ kept_frame wanted aside (frame_renumbered renumber frame)
unfolding kept_frame frame_layout
frame_same wanted before aside renumber frame none =
    let span : Span = frame_span frame in
    let len : ℕ = length frame.bytes in
    let buffers : List (List ℕ) = frame.bytes ∷ [] in
    read_as wanted frame.bytes span (frame_steps before frame.number frame.time frame.original len) (is_cut frame) (steps_reach span.len before frame.number frame.time frame.original len)
    ∙ ap (opened wanted frame.bytes span) (steps_kept wanted buffers span before aside frame.number (renumber frame.number) frame.time frame.original len none)
    ∙ sym (read_as wanted frame.bytes span (frame_steps aside (renumber frame.number) frame.time frame.original len) (is_cut frame) (steps_reach span.len aside (renumber frame.number) frame.time frame.original len))
