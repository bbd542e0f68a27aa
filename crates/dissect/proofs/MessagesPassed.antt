-- What a plain frame carries: it is told without its message, where nothing of this is asked.
use Rattle.std.proofs.Common.{◌≡◌, ◌==◌, ℕ, ◌+◌, Bool, true, false, not, ◌&&◌, true≢false, if◌then◌else◌, inl, inr, List, [], ◌∷◌, append-nil, Option, Some, None, refl, sym, ◌∙◌, ap, subst}
use Rattle.std.specs.Prelude.{unwrap_or}
use Rattle.std.proofs.lemmas.Bool.{cases_Bool}
use Rattle.std.proofs.lemmas.Option.{none-some}
use Rattle.pk_base.specs.declared.heads.After.{After}
use Rattle.pk_base.specs.declared.heads.PacketHead.{PacketHead}
use Rattle.pk_base.specs.declared.heads.PortsHead.{PortsHead}
use Rattle.pk_base.specs.declared.heads.Mode.TheVariants.{Plain as PlainMode}
use Rattle.pk_base.specs.declared.span.Span.{Span}
use Rattle.pk_fields.specs.Applications.{udp_app}
use Rattle.pk_fields.specs.Fields.{row_of}
use Rattle.pk_fields.specs.FieldSets.{is_in}
use Rattle.pk_fields.specs.Ids.{WS_MALFORMED, WS_SHORT}
use Rattle.pk_fields.specs.declared.apps.App.{App}
use Rattle.pk_fields.specs.declared.rules.PortRule.{PortRule}
use Rattle.pk_tree.specs.Buffers.{bytes_of}
use Rattle.pk_tree.proofs.KeptLemmas.{passed}
use Rattle.pk_tree.specs.Layouts.{StepsFit, end_of, fault_of, layer_read, reach, reaches_end, with_fault}
use Rattle.pk_tree.specs.Trees.{TreeShown, kept, layers_of, with_layer}
use Rattle.pk_tree.specs.declared.layout.Reach.{Reach}
use Rattle.pk_tree.specs.declared.layout.Reach.TheVariants as reaches
use Rattle.pk_tree.specs.declared.layout.Step.{Step}
use Rattle.app_layers.specs.declared.streamed.StreamApp.{StreamApp}
use Rattle.dis_ports.specs.Tcp.{tcp_head}
use Rattle.dis_ports.specs.Udp.{udp_ports}
use Rattle.capture_read.specs.declared.frame.Frame.{Frame}
use Rattle.app_layers.specs.Applications.{data_behind, message_over, payload_over}
use Rattle.app_layers.specs.DataLayer.{data_over}
use Rattle.app_layers.specs.FrameLayer.{is_cut}
use Rattle.app_layers.specs.MessageLayers.{stream_app}
use Rattle.app_layers.specs.Payloads.{carried_told, datagram_told}
use Rattle.app_layers.specs.Rows.{in_datagrams, is_passed, layout_of, proto_of, rest_of}
use Rattle.app_layers.proofs.RowLemmas.{home_of, passed_end, passed_fit, passed_read}
use Rattle.app_layers.proofs.MessagesAside.{AsksNoneOf, Lacks, lacks_none, lacks_on}
use Rattle.message_links.specs.Conversations.{number_in, udp_ends, with_ends}
use Rattle.message_links.specs.Notes.{datagram_notes, udp_direction}
use Rattle.dissect.specs.Carried.{is_free, shown_by}
use Rattle.dissect.specs.Events.{Event, NewFrame}
use Rattle.dissect.specs.Keeping.{is_followed, keeps_all, tells_places}
use Rattle.dissect.specs.Plain.{own}
use Rattle.dissect.specs.Stands.{IsSameButNumbers, IsWalked, StandsAt}
use Rattle.dissect.specs.Tells.{AsksNoDatagrams, Tells, shown_of}
use Rattle.dissect.specs.Walks.{Walk, datagram_met}
use Rattle.dissect.specs.Ways.{packet_at}
use Rattle.dissect.specs.declared.carried.Carrier.TheVariants as carriers
use Rattle.dissect.specs.declared.state.State.{State}
use Rattle.dissect.specs.declared.ways.Carried.TheVariants as carries
use Rattle.dissect.specs.declared.ways.Last.{Last}
use Rattle.dissect.specs.declared.todo.Todo.TheVariants as todos
use Rattle.dissect.proofs.DatagramLemmas.{datagram-met}
use Rattle.dissect.proofs.Numbering.{told_wanted}
use Rattle.dissect.proofs.Passing.{passed-walked, shown_free}
use Rattle.dissect.proofs.Unlinked.{none_linked, unnoted}

is_some : (free shown : Bool) → Some shown ≡ Some free → shown ≡ free
is_some free shown is = ap (λ (o : Option Bool). unwrap_or o free) is

same_lacks : (whole t : TreeShown) → whole ≡ t → Lacks whole t
same_lacks whole t is = subst (λ (w : TreeShown). Lacks w t) (sym is) (record { wanted = refl; only = lacks_none t })

-- ---- a layer of a protocol of which nothing is asked

layer_lacks : (t : TreeShown) (proto : ℕ) (span : Span) → is_in t.wanted proto ≡ false → Lacks (with_layer t proto span []) t
unfolding with_layer kept
layer_lacks t proto span aside = record {
  wanted = refl;
  only = record {
    layers = (record { proto = proto; nth = layers_of proto t.layers + 1; span = span; items = [] }) ∷ [];
    whole_layers = refl;
    aside = ((aside, refl), tt);
    buffers = [];
    whole_buffers = sym (append-nil t.buffers);
  };
}

IsFault : Option ℕ → List ℕ → Type 0
IsFault None wanted = Unit {0}
IsFault (Some fault) wanted = is_in wanted fault ≡ false

fault_is : (torn : Bool) (r : Reach) (wanted : List ℕ) → is_in wanted WS_SHORT ≡ false → is_in wanted WS_MALFORMED ≡ false → IsFault (fault_of PlainMode torn r) wanted
unfolding IsFault
fault_is torn reaches.All wanted short malformed = tt
fault_is true reaches.Short wanted short malformed = short
fault_is false reaches.Short wanted short malformed = malformed
fault_is torn reaches.Failed wanted short malformed = malformed

fault_lacks : (t : TreeShown) (span : Span) (fault : Option ℕ) → IsFault fault t.wanted → Lacks (with_fault t span fault) t
unfolding IsFault
fault_lacks t span None is = same_lacks t t refl
fault_lacks t span (Some fault) is = layer_lacks t fault (end_of span) is

opened_same : (t : TreeShown) (proto : ℕ) (span : Span) → (with_layer t proto span []).buffers ≡ t.buffers
unfolding with_layer
opened_same t proto span = refl

aside_lacks : (t : TreeShown) (proto : ℕ) (span : Span) (steps : List Step) (cut : Bool) → (row_of proto).proto ≡ proto → StepsFit proto steps → AsksNoneOf proto t.wanted → Lacks (layer_read t proto span steps PlainMode cut) t
aside_lacks t proto span steps cut home fit unasked =
    let u = with_layer t proto span [] in
    let fault = fault_of PlainMode (cut && reaches_end u.buffers span) (reach span.len steps) in
    let one = layer_lacks t proto span (unasked.fields proto home) in
    let is = subst (IsFault fault) (sym one.wanted) (fault_is (cut && reaches_end u.buffers span) (reach span.len steps) t.wanted unasked.short unasked.malformed) in
    let two = fault_lacks u span fault is in
    let closed : with_fault u span fault ≡ layer_read t proto span steps PlainMode cut =
    passed t u (with_fault u span fault) proto span steps PlainMode cut (reach span.len steps) unasked.fields refl (opened_same t proto span) refl fit refl in
    subst (λ (v : TreeShown). Lacks v t) closed
    (record { wanted = two.wanted ∙ one.wanted; only = lacks_on (with_fault u span fault) u t (sym two.wanted) two.only one.only })

-- ---- what a datagram carries

-- where it is data
as_data : (app : Option App) (free : Bool) (t : TreeShown) (cut : Bool) (span : Span) → payload_over app t cut span ≡ data_over t span → Some true ≡ Some free → Lacks (payload_over app t cut span) (shown_by free t span)
as_data app free t cut span is shown =
    same_lacks (payload_over app t cut span) (shown_by free t span) (is ∙ ap (λ (f : Bool). shown_by f t span) (is_some free true shown))

data_alike : (t : TreeShown) (span : Span) → (if span.len == 0 then t else data_over t span) ≡ data_over t span
unfolding data_over
data_alike t span = elim (cases_Bool (span.len == 0)) [
  | inl empty ↦ rw empty refl
  | inr some ↦ rw some refl
]

none_data : (t : TreeShown) (cut : Bool) (span : Span) → payload_over None t cut span ≡ data_over t span
unfolding payload_over
none_data t cut span = data_alike t span

other_data : (app : App) → in_datagrams app ≡ false → (t : TreeShown) (cut : Bool) (span : Span) → payload_over (Some app) t cut span ≡ data_over t span
unfolding payload_over
other_data app other t cut span = rw other (data_alike t span)

-- where it is a message that is passed over
if_lacks : (test : Bool) (t u : TreeShown) → Lacks u t → Lacks (if test then t else u) t
if_lacks true t u lacks = same_lacks t t refl
if_lacks false t u lacks = lacks

message_lacks : (app : App) → is_passed app ≡ true → (t : TreeShown) (cut : Bool) (span : Span) → AsksNoDatagrams t.wanted → Lacks (payload_over (Some app) t cut span) t
unfolding payload_over
message_lacks app over t cut span none =
    let bytes = bytes_of t.buffers span in
    let asks : AsksNoneOf (proto_of app) t.wanted = record { short = none.short; malformed = none.malformed; fields = none.fields app over } in
    let layer = layer_read t (proto_of app) span (layout_of app false bytes) PlainMode cut in
    let read : Lacks layer t = aside_lacks t (proto_of app) span (layout_of app false bytes) cut (home_of app) (passed_fit app over bytes) asks in
    let ended : Lacks (data_behind layer (rest_of app span bytes)) t = subst (λ (after : After). Lacks (data_behind layer after) t) (sym (passed_end app over span bytes)) read in
    let whole : Lacks (message_over (Some app) t cut span) t =
    subst (λ (r : Bool). Lacks (if r then data_behind layer (rest_of app span bytes) else data_over t span) t) (sym (passed_read app over)) ended in
    if_lacks (span.len == 0) t (message_over (Some app) t cut span) whole

both_true : (a b : Bool) → (a && b) ≡ true → (a ≡ true) × (b ≡ true)
both_true true b is = (refl, is)
both_true false b is = absurd (true≢false (sym is))

shown_lacks : (app : Option App) (passes free : Bool) (t : TreeShown) (cut : Bool) (span : Span) → shown_of app passes ≡ Some free → (passes ≡ true → AsksNoDatagrams t.wanted) → Lacks (payload_over app t cut span) (shown_by free t span)
shown_lacks None passes free t cut span shown asks = as_data None free t cut span (none_data t cut span) shown
shown_lacks (Some app) passes free t cut span shown asks = by_kind (in_datagrams app) refl
  where
    by_passed : (test : Bool) → (passes && is_passed app) ≡ test → (if test then Some false else None) ≡ Some free → Lacks (payload_over (Some app) t cut span) (shown_by free t span)
    by_passed true over is =
        let both = both_true passes (is_passed app) over in
        subst (λ (f : Bool). Lacks (payload_over (Some app) t cut span) (shown_by f t span)) (is_some free false is) (message_lacks app both.1 t cut span (asks both.0))
    by_passed false other is = absurd (none-some free is)

    by_kind : (test : Bool) → in_datagrams app ≡ test → Lacks (payload_over (Some app) t cut span) (shown_by free t span)
    by_kind true read = by_passed (passes && is_passed app) refl (sym (ap (λ (r : Bool). if r then (if passes && is_passed app then Some false else None) else Some true) read) ∙ shown)
    by_kind false other =
        as_data (Some app) free t cut span (other_data app other t cut span)
        (sym (ap (λ (r : Bool). if r then (if passes && is_passed app then Some false else None) else Some true) other) ∙ shown)

-- where none is passed over, the tree is the very one
shown_exact : (app : Option App) (free : Bool) (t : TreeShown) (cut : Bool) (span : Span) → shown_of app false ≡ Some free → shown_by free t span ≡ payload_over app t cut span
shown_exact None free t cut span shown = ap (λ (f : Bool). shown_by f t span) (sym (is_some free true shown)) ∙ sym (none_data t cut span)
shown_exact (Some app) free t cut span shown = by_kind (in_datagrams app) refl
  where
    by_kind : (test : Bool) → in_datagrams app ≡ test → shown_by free t span ≡ payload_over (Some app) t cut span
    by_kind true read = absurd (none-some free (sym (ap (λ (r : Bool). if r then (if false && is_passed app then Some false else None) else Some true) read) ∙ shown))
    by_kind false other =
        ap (λ (f : Bool). shown_by f t span)
        (sym (is_some free true (sym (ap (λ (r : Bool). if r then (if false && is_passed app then Some false else None) else Some true) other) ∙ shown)))
        ∙ sym (other_data app other t cut span)

-- a tree that lacks only such a message is as far, where this is the very tree if everything is kept
lacks_walked : (rules : List PortRule) (w : Walk) (state : State) (whole t : TreeShown) → (keeps_all state.keeps ≡ true → t ≡ whole) → Lacks whole t → IsWalked rules w state whole todos.Done → IsWalked rules w state t todos.Done
lacks_walked rules w state whole t exact lacks walked = record {
  stands = walked.stands;
  tree = record {
    wanted = sym lacks.wanted ∙ walked.tree.wanted;
    same = λ all. exact (all refl) ∙ walked.tree.same all;
    lacks = λ enough. lacks_on w.tree whole t walked.tree.wanted (walked.tree.lacks enough) lacks.only;
  };
  todo = walked.todo;
}

pub datagram-carried : (rules : List PortRule) (frame : Frame) (packet : PacketHead) (head : PortsHead) (span : Span) (app : Option App) (passes free : Bool) (stream : ℕ) (old new : State) (t : TreeShown) (es : List Event)
    → app ≡ udp_app rules head.source head.target → shown_of app passes ≡ Some free → (keeps_all old.keeps ≡ true → passes ≡ false) → old.found.items ≡ []
    → (old.keeps.numbers ≡ true → stream ≡ number_in old.udp (udp_ends packet head)) → (old.keeps.numbers ≡ true → new.udp ≡ with_ends old.udp (udp_ends packet head)) → IsSameButNumbers old new
    → (passes ≡ true → AsksNoDatagrams t.wanted) → StandsAt rules es old
    → IsWalked rules (datagram_met rules frame packet t es head span) new (shown_by free (datagram_told t stream span) span) todos.Done
datagram-carried rules frame packet head span app passes free stream old new t es app_is shown unpassed unfound number udp same asks stands =
    let cut = is_cut frame in
    let u : TreeShown = datagram_told t stream span in
    let whole : TreeShown = payload_over app u cut span in
    let shown_all = λ (all : keeps_all old.keeps ≡ true). sym (ap (shown_of app) (unpassed all)) ∙ shown in
    lacks_walked rules (datagram_met rules frame packet t es head span) new whole (shown_by free u span)
    (λ all. shown_exact app free u cut span (shown_all (ap keeps_all (sym same.keeps) ∙ all)))
    (shown_lacks app passes free u cut span shown (λ is. subst AsksNoDatagrams (sym (told_wanted t stream span)) (asks is)))
    (datagram-met rules frame packet head span app stream (bytes_of t.buffers span) old new t u whole
    (record {
      app_is = app_is;
      stream_is = number;
      bytes_is = refl;
      joins = same.joins;
      udp = udp;
      keeps = same.keeps;
      places = same.places;
      streams = same.streams;
      links = λ all. none_linked frame.number (udp_direction stream) (datagram_notes app (bytes_of t.buffers span)) old new
          (unnoted app free (bytes_of t.buffers span) (shown_all all)) (same.found ∙ unfound) same.links;
      told = refl;
      shown = refl;
    })
    es stands)

none_over : (passes all : Bool) → all ≡ true → passes && not all ≡ false
none_over true all is = ap not is
none_over false all is = refl

-- the frame that begins with it
pub datagram-tells : (rules : List PortRule) (frame : Frame) (last : Last) (head : PortsHead) (app : Option App) (passes passing free : Bool) (stream : ℕ) (old begun new : State)
    → head ≡ udp_ports (own frame last.header) → app ≡ udp_app rules head.source head.target → shown_of app passing ≡ Some free → passing ≡ passes && not (keeps_all begun.keeps) → begun.found.items ≡ []
    → (begun.keeps.numbers ≡ true → stream ≡ number_in begun.udp (udp_ends (packet_at frame last.packet) head)) → (begun.keeps.numbers ≡ true → new.udp ≡ with_ends begun.udp (udp_ends (packet_at frame last.packet) head)) → IsSameButNumbers begun new
    → ((es : List Event) → StandsAt rules es old → StandsAt rules (NewFrame ∷ es) begun)
    → Tells rules frame passes (carries.Datagram last) old new (record { carrier = carriers.Datagram stream; payload = last.payload; free = free })
datagram-tells rules frame last head app passes passing free stream old begun new head_is app_is shown passing_is unfound number udp same begins = record {
  payload = refl;
  carrier = refl;
  unlinked = same.found ∙ unfound;
  walked = λ t es buffers asks stands.
      subst (λ (ports : PortsHead). IsWalked rules (datagram_met rules frame (packet_at frame last.packet) t (NewFrame ∷ es) ports last.payload) new (shown_by free (datagram_told t stream last.payload) last.payload) todos.Done) head_is
      (datagram-carried rules frame (packet_at frame last.packet) head last.payload app passing free stream begun new t (NewFrame ∷ es) app_is shown
      (λ all. passing_is ∙ none_over passes (keeps_all begun.keeps) all) unfound number udp same
      (λ is. asks (both_true passes (not (keeps_all begun.keeps)) (sym passing_is ∙ is)).0) (begins es stands));
}

-- a segment of a stream that isn't followed
pub segment-tells : (rules : List PortRule) (frame : Frame) (last : Last) (app : Option StreamApp) (passes free : Bool) (old begun : State)
    → app ≡ stream_app rules (tcp_head (own frame last.header)).source (tcp_head (own frame last.header)).target → is_followed begun.keeps.follows app ≡ false → tells_places begun.keeps.follows ≡ false → free ≡ is_free app
    → begun.found.items ≡ [] → ((es : List Event) → StandsAt rules es old → StandsAt rules (NewFrame ∷ es) begun)
    → Tells rules frame passes (carries.Segment last) old begun (record { carrier = carriers.Segment None; payload = last.payload; free = free })
segment-tells rules frame last app passes free old begun app_is passed untold is unfound begins =
    let span = last.payload in
    record {
      payload = refl;
      carrier = refl;
      unlinked = unfound;
      walked = λ t es buffers asks stands. passed-walked rules frame (packet_at frame last.packet) (tcp_head (own frame last.header)) span app begun t (shown_by free (carried_told t span) span) app_is passed untold
          (ap (λ (f : Bool). shown_by f (carried_told t span) span) is ∙ shown_free app (is_cut frame) span (carried_told t span)) (NewFrame ∷ es) (begins es stands);
    }
