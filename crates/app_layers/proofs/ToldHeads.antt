-- What is told leaves the wanted fields as they are, and where nothing of it is asked, the tree too.
use Rattle.std.proofs.Common.{◌≡◌, ◌==◌, ℕ, Bool, true, false, Option, Some, None, if◌then◌else◌, refl, ◌∙◌, ap}
use Rattle.pk_base.specs.declared.span.Span.{Span}
use Rattle.pk_fields.specs.FieldSets.{is_in}
use Rattle.pk_fields.specs.Ids.{TCP_STREAM, TCP_SEQ, TCP_ACK, TCP_LEN, TCP_PAYLOAD, TCP_LOST}
use Rattle.pk_tree.specs.declared.item.Item.{Item}
use Rattle.pk_base.specs.declared.value.Value.TheVariants.{Uint}
use Rattle.pk_tree.specs.Trees.{TreeShown, with_item, with_last, with_item_at, read_of, made_of}
use Rattle.tcp_streams.specs.declared.segment.Taken.{Taken}
use Rattle.tcp_streams.specs.Gaps.{lost_bytes}
use Rattle.app_layers.specs.Payloads.{with_number, with_ack, with_lost, carried_told, place_told, segment_told}

pub if_wanted : (test : Bool) (t u v : TreeShown) → u.wanted ≡ t.wanted → v.wanted ≡ t.wanted → (if test then u else v).wanted ≡ t.wanted
if_wanted true t u v one other = one
if_wanted false t u v one other = other

pub item_wanted : (t : TreeShown) (item : Item) → (with_item t item).wanted ≡ t.wanted
unfolding with_item with_last with_item_at
item_wanted t item = if_wanted (is_in t.wanted item.field) t (with_last t item) t refl refl

pub number_wanted : (t : TreeShown) (field number : ℕ) → (with_number t field number).wanted ≡ t.wanted
number_wanted t field number = item_wanted t (made_of field (Uint number))

ack_wanted : (t : TreeShown) (ack : Option ℕ) → (with_ack t ack).wanted ≡ t.wanted
ack_wanted t None = refl
ack_wanted t (Some ack) = number_wanted t TCP_ACK ack

place_wanted : (t : TreeShown) (taken : Taken) → (place_told t taken).wanted ≡ t.wanted
unfolding place_told
place_wanted t taken = ack_wanted _ taken.ack ∙ number_wanted _ TCP_SEQ taken.seq ∙ number_wanted t TCP_STREAM taken.stream

pub carried_wanted : (t : TreeShown) (span : Span) → (carried_told t span).wanted ≡ t.wanted
carried_wanted t span =
    let u = with_number t TCP_LEN span.len in
    let same = number_wanted t TCP_LEN span.len in
    if_wanted (span.len == 0) t u (with_item u (read_of u.buffers TCP_PAYLOAD span)) same (item_wanted u (read_of u.buffers TCP_PAYLOAD span) ∙ same)

pub told_wanted : (t : TreeShown) (taken : Taken) (span : Span) → (segment_told t taken span).wanted ≡ t.wanted
unfolding segment_told
told_wanted t taken span =
    let u = carried_told (place_told t taken) span in
    let same = carried_wanted (place_told t taken) span ∙ place_wanted t taken in
    let lost = lost_bytes taken.lost in
    if_wanted (lost == 0) t u (with_number u TCP_LOST lost) same (number_wanted u TCP_LOST lost ∙ same)

-- ---- nothing of its stream

number_unasked : (t : TreeShown) (field number : ℕ) → is_in t.wanted field ≡ false → with_number t field number ≡ t
unfolding with_item
number_unasked t field number none = rw none refl

ack_unasked : (t : TreeShown) (ack : Option ℕ) → is_in t.wanted TCP_ACK ≡ false → with_ack t ack ≡ t
ack_unasked t None none = refl
ack_unasked t (Some ack) none = number_unasked t TCP_ACK ack none

pub lost_unasked : (t : TreeShown) (lost : ℕ) → is_in t.wanted TCP_LOST ≡ false → with_lost t lost ≡ t
lost_unasked t lost none = by_test (lost == 0)
  where
    by_test : (test : Bool) → (if test then t else with_number t TCP_LOST lost) ≡ t
    by_test true = refl
    by_test false = number_unasked t TCP_LOST lost none

pub place_unasked : (t : TreeShown) (taken : Taken) → is_in t.wanted TCP_STREAM ≡ false → is_in t.wanted TCP_SEQ ≡ false → is_in t.wanted TCP_ACK ≡ false → place_told t taken ≡ t
unfolding place_told
place_unasked t taken stream seq ack =
    ap (λ (u : TreeShown). with_ack (with_number u TCP_SEQ taken.seq) taken.ack) (number_unasked t TCP_STREAM taken.stream stream)
    ∙ ap (λ (u : TreeShown). with_ack u taken.ack) (number_unasked t TCP_SEQ taken.seq seq)
    ∙ ack_unasked t taken.ack ack
