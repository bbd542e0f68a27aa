-- A datagram whose conversation isn't numbered: it is told alike, where no number is asked.
use Rattle.std.proofs.Common.{◌≡◌, ◌==◌, ℕ, Bool, true, false, List, Option, Some, None, refl, sym, ◌∙◌, ap}
use Rattle.pk_base.specs.declared.span.Span.{Span}
use Rattle.pk_base.specs.declared.heads.After.{After}
use Rattle.pk_base.specs.declared.heads.After.TheVariants as afters
use Rattle.pk_base.specs.declared.heads.Mode.{Mode}
use Rattle.pk_base.specs.declared.heads.Mode.TheVariants.{Plain as PlainMode}
use Rattle.pk_base.specs.declared.value.Value.TheVariants.{Uint}
use Rattle.pk_fields.specs.FieldSets.{is_in}
use Rattle.pk_fields.specs.Ids.{DATA, UDP_PAYLOAD, UDP_STREAM}
use Rattle.pk_fields.specs.declared.apps.App.{App}
use Rattle.pk_tree.specs.Buffers.{bytes_of}
use Rattle.pk_tree.specs.declared.layout.Step.{Step}
use Rattle.pk_tree.specs.Layouts.{layer_read, with_fault}
use Rattle.pk_tree.specs.Trees.{TreeShown, made_of, read_of, with_item, with_layer}
use Rattle.app_layers.specs.Applications.{data_behind, message_over, payload_over}
use Rattle.app_layers.specs.DataLayer.{data_layout, data_over}
use Rattle.app_layers.specs.Payloads.{datagram_told, with_payload}
use Rattle.app_layers.specs.Rows.{in_datagrams, proto_of, rest_of}
use Rattle.app_layers.proofs.ToldHeads.{if_wanted, item_wanted}

-- ---- what a datagram carries leaves the wanted fields as they are

fault_wanted : (t : TreeShown) (span : Span) (fault : Option ℕ) → (with_fault t span fault).wanted ≡ t.wanted
unfolding with_layer
fault_wanted t span None = refl
fault_wanted t span (Some fault) = refl

layer_wanted : (t : TreeShown) (proto : ℕ) (span : Span) (steps : List Step) (mode : Mode) (cut : Bool) → (layer_read t proto span steps mode cut).wanted ≡ t.wanted
unfolding layer_read with_layer
layer_wanted t proto span steps mode cut = fault_wanted _ span _

data_wanted : (t : TreeShown) (span : Span) → (data_over t span).wanted ≡ t.wanted
unfolding data_over
data_wanted t span = if_wanted (span.len == 0) t t (layer_read t DATA span (data_layout span.len) PlainMode false) refl (layer_wanted t DATA span (data_layout span.len) PlainMode false)

behind_wanted : (t : TreeShown) (after : After) → (data_behind t after).wanted ≡ t.wanted
behind_wanted t (afters.Next which span) = data_wanted t span
behind_wanted t (afters.Packet which span packet) = refl
behind_wanted t (afters.Fragment head span) = refl
behind_wanted t (afters.Datagram head span) = refl
behind_wanted t (afters.Segment head span) = refl
behind_wanted t afters.End = refl

message_wanted : (app : Option App) (t : TreeShown) (cut : Bool) (span : Span) → (message_over app t cut span).wanted ≡ t.wanted
message_wanted (Some app) t cut span =
    if_wanted (in_datagrams app) t _ (data_over t span) (behind_wanted _ (rest_of app span (bytes_of t.buffers span)) ∙ layer_wanted t (proto_of app) span _ PlainMode cut) (data_wanted t span)
message_wanted None t cut span = data_wanted t span

payload_wanted : (app : Option App) (t : TreeShown) (cut : Bool) (span : Span) → (payload_over app t cut span).wanted ≡ t.wanted
unfolding payload_over
payload_wanted app t cut span = if_wanted (span.len == 0) t t (message_over app t cut span) refl (message_wanted app t cut span)

pub told_wanted : (t : TreeShown) (stream : ℕ) (span : Span) → (datagram_told t stream span).wanted ≡ t.wanted
unfolding datagram_told
told_wanted t stream span =
    let u = with_item t (made_of UDP_STREAM (Uint stream)) in
    let same = item_wanted t (made_of UDP_STREAM (Uint stream)) in
    if_wanted (span.len == 0) t u (with_item u (read_of u.buffers UDP_PAYLOAD span)) same (item_wanted u (read_of u.buffers UDP_PAYLOAD span) ∙ same)

pub datagram_wanted : (app : Option App) (t : TreeShown) (stream : ℕ) (cut : Bool) (span : Span) → (payload_over app (datagram_told t stream span) cut span).wanted ≡ t.wanted
datagram_wanted app t stream cut span = payload_wanted app (datagram_told t stream span) cut span ∙ told_wanted t stream span

-- ---- its number

number_unasked : (t : TreeShown) (stream : ℕ) → is_in t.wanted UDP_STREAM ≡ false → with_item t (made_of UDP_STREAM (Uint stream)) ≡ t
unfolding with_item
number_unasked t stream none = rw none refl

unasked_alike : (t : TreeShown) (stream other : ℕ) (span : Span) → is_in t.wanted UDP_STREAM ≡ false → datagram_told t stream span ≡ datagram_told t other span
unfolding datagram_told
unasked_alike t stream other span none =
    ap (λ (u : TreeShown). with_payload u UDP_PAYLOAD span) (number_unasked t stream none ∙ sym (number_unasked t other none))

-- by whether conversations are numbered
pub numbered_alike : (numbers : Bool) (t : TreeShown) (stream other : ℕ) (span : Span) → (numbers ≡ true → stream ≡ other) → (numbers ≡ false → is_in t.wanted UDP_STREAM ≡ false)
    → datagram_told t stream span ≡ datagram_told t other span
numbered_alike true t stream other span same unasked = ap (λ (n : ℕ). datagram_told t n span) (same refl)
numbered_alike false t stream other span same unasked = unasked_alike t stream other span (unasked refl)
