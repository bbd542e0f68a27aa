-- Telling with some fields is telling all and keeping those.
use Rattle.std.proofs.Common.{◌==◌, ℕ, Bool, true, false, if◌then◌else◌, List, [], ◌∷◌, length, Option, Some, None, refl, sym, subst}
use Rattle.pk_base.specs.declared.span.Span.{Span}
use Rattle.pk_fields.specs.Ids.{TCP_STREAM, TCP_SEQ, TCP_ACK, TCP_LEN, TCP_PAYLOAD, TCP_LOST}
use Rattle.pk_base.specs.declared.value.Value.TheVariants.{Uint}
use Rattle.pk_tree.specs.Trees.{TreeShown, IsKept as IsKeptTree, kept_tree, read_of, made_of}
use Rattle.pk_tree.proofs.KeptTrees.{item_kept, buffer_kept, layer_kept}
use Rattle.ip_join.specs.declared.joined.Datagram.{Datagram}
use Rattle.tcp_streams.specs.declared.segment.Taken.{Taken}
use Rattle.tcp_streams.specs.Gaps.{lost_bytes}
use Rattle.capture_read.specs.declared.frame.Frame.{Frame}
use Rattle.app_layers.specs.declared.times.Times.{Times}
use Rattle.app_layers.specs.Fragments.{number_told, frame_field, length_field, frames_told, joined_told}
use Rattle.app_layers.specs.FrameLayer.{kept_frame, frame_tree}
use Rattle.app_layers.specs.Payloads.{with_number, with_ack, with_payload, with_lost, place_told, segment_told}

-- it is enough to look at the very tree of those that are kept, whose buffers are the whole tree's
pub tree_as : (wanted : List ℕ) (X : TreeShown → TreeShown) (t u : TreeShown) → IsKeptTree wanted t u → (IsKeptTree wanted t (kept_tree wanted t) → IsKeptTree wanted (X t) (X (kept_tree wanted t))) → IsKeptTree wanted (X t) (X u)
tree_as wanted X t u k one =
    subst (λ (v : TreeShown). IsKeptTree wanted (X t) (X v)) (sym k.same) (one (record { same = refl; all = k.all }))

pub kept_if : (wanted : List ℕ) (test : Bool) (t u t1 u1 : TreeShown) → IsKeptTree wanted t u → IsKeptTree wanted t1 u1 → IsKeptTree wanted (if test then t else t1) (if test then u else u1)
kept_if wanted true t u t1 u1 k k1 = k
kept_if wanted false t u t1 u1 k k1 = k1

-- fragments
frames_kept : (wanted : List ℕ) (six : Bool) (frames : List ℕ) (t u : TreeShown) → IsKeptTree wanted t u → IsKeptTree wanted (frames_told t six frames) (frames_told u six frames)
frames_kept wanted six [] t u k = k
frames_kept wanted six (frame ∷ frames) t u k =
    frames_kept wanted six frames (number_told t (frame_field six) frame) (number_told u (frame_field six) frame) (item_kept wanted t u (made_of (frame_field six) (Uint frame)) k)

pub joined_kept : (wanted : List ℕ) (six : Bool) (datagram : Datagram) (t u : TreeShown) → IsKeptTree wanted t u → IsKeptTree wanted (joined_told t six datagram) (joined_told u six datagram)
unfolding joined_told
joined_kept wanted six datagram t u k =
    buffer_kept wanted _ _ datagram.bytes (item_kept wanted _ _ (made_of (length_field six) (Uint (length datagram.bytes))) (frames_kept wanted six datagram.frames t u k))

-- what UDP and TCP headers carry
pub payload_kept : (wanted : List ℕ) (field : ℕ) (span : Span) (t u : TreeShown) → IsKeptTree wanted t u → IsKeptTree wanted (with_payload t field span) (with_payload u field span)
payload_kept wanted field span t u k =
    tree_as wanted (λ v. with_payload v field span) t u k (λ one. kept_if wanted (span.len == 0) t (kept_tree wanted t) _ _ one (item_kept wanted t (kept_tree wanted t) (read_of t.buffers field span) one))

number_kept : (wanted : List ℕ) (field number : ℕ) (t u : TreeShown) → IsKeptTree wanted t u → IsKeptTree wanted (with_number t field number) (with_number u field number)
number_kept wanted field number t u k = item_kept wanted t u (made_of field (Uint number)) k

ack_kept : (wanted : List ℕ) (ack : Option ℕ) (t u : TreeShown) → IsKeptTree wanted t u → IsKeptTree wanted (with_ack t ack) (with_ack u ack)
ack_kept wanted None t u k = k
ack_kept wanted (Some ack) t u k = number_kept wanted TCP_ACK ack t u k

place_kept : (wanted : List ℕ) (taken : Taken) (t u : TreeShown) → IsKeptTree wanted t u → IsKeptTree wanted (place_told t taken) (place_told u taken)
unfolding place_told
place_kept wanted taken t u k = ack_kept wanted taken.ack _ _ (number_kept wanted TCP_SEQ taken.seq _ _ (number_kept wanted TCP_STREAM taken.stream t u k))

lost_kept : (wanted : List ℕ) (lost : ℕ) (t u : TreeShown) → IsKeptTree wanted t u → IsKeptTree wanted (with_lost t lost) (with_lost u lost)
lost_kept wanted lost t u k = kept_if wanted (lost == 0) t u _ _ k (number_kept wanted TCP_LOST lost t u k)

pub segment_kept : (wanted : List ℕ) (taken : Taken) (span : Span) (t u : TreeShown) → IsKeptTree wanted t u → IsKeptTree wanted (segment_told t taken span) (segment_told u taken span)
unfolding segment_told
segment_kept wanted taken span t u k =
    lost_kept wanted (lost_bytes taken.lost) _ _ (payload_kept wanted TCP_PAYLOAD span _ _ (number_kept wanted TCP_LEN span.len _ _ (place_kept wanted taken t u k)))

pub frame_kept : (wanted : List ℕ) (before : Times) (frame : Frame) → IsKeptTree wanted (frame_tree before frame) (kept_frame wanted before frame)
unfolding kept_frame
frame_kept wanted before frame = layer_kept wanted _ _ _ _ _ _ _ (record { same = refl; all = refl })
