-- A segment that is taken into its stream, of a frame that its headers tell, or the tree that they make.
use Rattle.std.proofs.Common.{◌≡◌, ◌==◌, ℕ, zero, suc, ◌+◌, ◌-◌, ◌<◌, ◌≤◌, ◌^◌, Bool, true, false, true≢false, Option, None, Some, List, [], ◌∷◌, ◌++◌, length, map, take, drop, refl, ap, sym, subst, ◌∙◌, append-nil, append_assoc, arith}
use Rattle.std.specs.List.{AllByRecursion as Each}
use Rattle.std.specs.Prelude.{IfOk, IfSome, OnOk, Result, Ok, Err}
use Rattle.std.proofs.lemmas.List.{length_push, map-append}
use Rattle.pk_base.specs.declared.heads.Mode.TheVariants.{Plain}
use Rattle.pk_base.specs.declared.heads.PacketHead.{PacketHead}
use Rattle.pk_base.specs.declared.heads.TcpHead.{TcpHead}
use Rattle.pk_base.specs.declared.span.Span.{Span}
use Rattle.pk_fields.specs.Ids.{TCP}
use Rattle.pk_fields.specs.declared.rules.PortRule.{PortRule}
use Rattle.pk_source.proofs.GrowthLaws.{header_adds}
use Rattle.pk_source.specs.Outlines.{AreNumbered, NoteFits, header_layer, outlined, wanted_notes}
use Rattle.pk_source.specs.declared.header.Header.{Header}
use Rattle.pk_source.specs.declared.header.Note.{Note}
use Rattle.pk_tree.specs.Buffers.{IsInside, bytes_of}
use Rattle.pk_tree.specs.Trees.{IsTree, TreeShown, proto_at}
use Rattle.pk_tree.specs.declared.layer.Layer.{Layer}
use Rattle.tcp_streams.specs.Labels.{taken_after}
use Rattle.tcp_streams.specs.declared.segment.Segment.{Segment}
use Rattle.tcp_messages.specs.Shown.{shown_after}
use Rattle.tcp_messages.specs.declared.message_streams.MessageStreams.{MessageStreams}
use Rattle.tcp_messages.specs.declared.met.ShownMessage.{ShownMessage}
use Rattle.capture_read.specs.declared.frame.Frame.{Frame}
use Rattle.message_links.specs.Linked.{linked}
use Rattle.message_links.specs.Notes.{shown_notes, tcp_direction}
use Rattle.message_links.specs.declared.notes.Note.{Note as LinkNote}
use Rattle.app_layers.specs.FrameLayer.{is_cut, kept_frame}
use Rattle.app_layers.specs.MessageLayers.{app_of_segment, application, carried_over, framer_of_segment, stream_app}
use Rattle.app_layers.specs.Payloads.{LastIs, segment_told}
use Rattle.app_layers.specs.declared.streamed.StreamApp.{StreamApp}
use Rattle.app_layers.specs.declared.times.Times.{Times}
use Rattle.dissect.specs.Carried.{carried_by, data_headers, frame_notes, is_free, notes_of, shown_by}
use Rattle.dissect.specs.Events.{Event, NewFrame}
use Rattle.dissect.specs.Feeding.{AreShowable, Brings, HasOutline, IsBrought, IsFed, IsMet, IsToldBy, IsTreeOf, as_fed, brought_over, fed_by, fed_of, grown_by, taken_tree, told_alone}
use Rattle.dissect.specs.Heads.{HeadsShown}
use Rattle.dissect.specs.Keeping.{is_followed, keeps_all}
use Rattle.dissect.specs.Plain.{own}
use Rattle.dissect.specs.Segments.{segment_from}
use Rattle.dissect.specs.Stands.{IsLinked, IsRead, IsSameButLinks, IsWalked, StandsAt, StreamsStand}
use Rattle.dissect.specs.Tables.{AreTables}
use Rattle.dissect.specs.Tells.{AsksNoDatagrams, Tells}
use Rattle.dissect.specs.Trees.{kept_walk}
use Rattle.dissect.specs.Walks.{Walk, segment_met}
use Rattle.dissect.specs.Ways.{AreOfFrame, AreRead, AsksNoOptions, Carries, IsLast, IsReadBy, Opens, held_of, packet_at}
use Rattle.dissect.specs.declared.carried.Carried.{Carried}
use Rattle.dissect.specs.declared.feeding.Brought.{Brought}
use Rattle.dissect.specs.declared.feeding.Fed.{Fed}
use Rattle.dissect.specs.declared.keeping.Keeping.{Keeping}
use Rattle.dissect.specs.declared.plain_trees.TakenBy.{TakenBy}
use Rattle.dissect.specs.declared.plain_trees.TakenBy.TheVariants as takens
use Rattle.dissect.specs.declared.state.State.{State}
use Rattle.dissect.specs.declared.tables.Tables.{Tables}
use Rattle.dissect.specs.declared.todo.Todo.TheVariants as todos
use Rattle.dissect.specs.declared.ways.Carried.{Carried as WayCarried}
use Rattle.dissect.specs.declared.ways.Carried.TheVariants as carries
use Rattle.dissect.specs.declared.ways.Last.{Last}
use Rattle.dis_ports.specs.Tcp.{tcp_head}
use Rattle.dissect.proofs.HeaderLayers.{heads_alone}
use Rattle.dissect.proofs.Passing.{shown_free, told_placed}
use Rattle.dissect.proofs.PlainHeads.{buffers_of, carried_inside, carried_way, heads_stand, of_frame}
use Rattle.dissect.proofs.PlainRead.{heads_read}
use Rattle.dissect.proofs.Segmenting.{shown-walked}
use Rattle.dissect.proofs.Unlinked.{none_linked, notes_none, nothing_shown}

-- ---- a segment that was taken

pub met_none : (frame : Frame) (b : Brought) (state : State) → (length b.met.messages == 0) ≡ true → state.found.items ≡ [] → IsMet frame b state state
met_none frame b state empty unfound = record {
  links = λ all. none_linked frame.number (tcp_direction b.met.taken) (shown_notes (application b.app) (own frame b.payload) b.met.messages) state state
      (notes_none (application b.app) (own frame b.payload) b.met.messages empty) unfound refl;
  none = λ none. unfound;
}

pub met_some : (frame : Frame) (b : Brought) (old new : State) → (length b.met.messages == 0) ≡ false
    → (keeps_all old.keeps ≡ true → IsLinked frame.number (tcp_direction b.met.taken) (shown_notes (application b.app) (own frame b.payload) b.met.messages) old new) → IsMet frame b old new
met_some frame b old after some links = record {
  links = links;
  none = λ none. absurd (true≢false (sym (ap (λ (ms : List ShownMessage). length ms == 0) none) ∙ some));
}

-- it begins its frame, and its messages are linked
pub record IsTakenIn (rules : List PortRule) (frame : Frame) (last : Last) (segment : Segment) (b : Brought) (old begun new : State) (streams : MessageStreams) : Type 0 where
  pub app_is : b.app ≡ stream_app rules (tcp_head (own frame last.header)).source (tcp_head (own frame last.header)).target
  pub payload_is : b.payload ≡ last.payload
  pub segment_is : segment ≡ segment_from frame.number (packet_at frame last.packet) (tcp_head (own frame last.header)) (own frame last.payload)
  pub followed : is_followed old.keeps.follows b.app ≡ true
  pub begins : (es : List Event) → StandsAt rules es old → StandsAt rules (NewFrame ∷ es) begun
  pub keeps : begun.keeps ≡ old.keeps
  pub taken_is : (past : List Segment) → StreamsStand begun.keeps.lets_go (framer_of_segment rules) past begun.streams → b.met.taken ≡ taken_after past segment
  pub messages_is : (past : List Segment) → StreamsStand begun.keeps.lets_go (framer_of_segment rules) past begun.streams → b.met.messages ≡ shown_after (framer_of_segment rules segment) past segment
  pub kept : (past : List Segment) → StreamsStand begun.keeps.lets_go (framer_of_segment rules) past begun.streams → StreamsStand begun.keeps.lets_go (framer_of_segment rules) (segment ∷ past) streams
  pub same : IsSameButLinks (record begun { streams = streams }) new
  pub met : IsMet frame b (record begun { streams = streams }) new

module _ (rules : List PortRule) (frame : Frame) (last : Last) (segment : Segment) (b : Brought) (old begun new : State) (streams : MessageStreams)
    (is : IsTakenIn rules frame last segment b old begun new streams) where
  abbrev packet : PacketHead
  packet = packet_at frame last.packet

  abbrev head : TcpHead
  head = tcp_head (own frame last.header)

  abbrev shown : TreeShown → TreeShown
  shown t = brought_over frame b t

  taken-walked : (t : TreeShown) (es : List Event) → t.buffers ≡ frame.bytes ∷ [] → StandsAt rules es old
      → IsWalked rules (segment_met rules frame packet t (NewFrame ∷ es) head last.payload) new (shown t) todos.Done
  taken-walked t es buffers stood =
      let span = last.payload in
      let bytes_are : own frame span ≡ bytes_of t.buffers span = ap (λ (bs : List (List ℕ)). bytes_of bs span) (sym buffers) in
      let own_app = app_of_segment rules segment in
      let app_is : b.app ≡ own_app = is.app_is ∙ ap (app_of_segment rules) (sym is.segment_is) in
      let payload_is : own frame b.payload ≡ segment.payload = ap (own frame) is.payload_is ∙ sym (ap (λ (s : Segment). s.payload) is.segment_is) in
      shown-walked rules frame packet head span segment b.met.taken b.met.messages begun new t (segment_told t b.met.taken span) (shown t)
      (record {
        segment_is = is.segment_is ∙ ap (segment_from frame.number packet head) bytes_are;
        taken_in = ap (λ (k : Keeping). is_followed k.follows own_app) is.keeps ∙ ap (is_followed old.keeps.follows) (sym app_is) ∙ is.followed;
        keeps = is.same.keeps;
        joins = is.same.joins;
        udp = is.same.udp;
        taken_is = is.taken_is;
        messages_is = is.messages_is;
        kept = λ past reads. subst (StreamsStand begun.keeps.lets_go (framer_of_segment rules) (segment ∷ past)) (sym is.same.streams) (is.kept past reads);
        links = λ all. subst (λ (notes : List LinkNote). IsLinked frame.number (tcp_direction b.met.taken) notes begun new)
            (ap (λ (app : Option StreamApp). shown_notes (application app) (own frame b.payload) b.met.messages) app_is
            ∙ ap (λ (bytes : List ℕ). shown_notes (application own_app) bytes b.met.messages) payload_is)
            (record { found = λ ns stands. (is.met.links all).found ns stands; links = λ ns stands. (is.met.links all).links ns stands });
        told = refl;
        shown = ap (λ (s : Span). carried_over b.app (is_cut frame) s (segment_told t b.met.taken s) b.met.messages) is.payload_is
            ∙ ap (λ (a : Option StreamApp). carried_over a (is_cut frame) span (segment_told t b.met.taken span) b.met.messages) app_is;
      }) (NewFrame ∷ es) (is.begins es stood)

  -- no message is shown
  alone : b.met.messages ≡ [] → (t : TreeShown) → carried_by (told_alone b) t ≡ shown t
  alone none t =
      let span = b.payload in
      ap (λ (u : TreeShown). shown_by (is_free b.app) u span) (told_placed t b.met.taken span)
      ∙ shown_free b.app (is_cut frame) span (segment_told t b.met.taken span)
      ∙ ap (carried_over b.app (is_cut frame) span (segment_told t b.met.taken span)) (sym none)

  taken-tells : (passes : Bool) → b.met.messages ≡ [] → Tells rules frame passes (carries.Segment last) old new (told_alone b)
  taken-tells passes none = record {
    payload = is.payload_is;
    carrier = refl;
    unlinked = is.met.none none;
    walked = λ t es buffers asks stood.
        subst (λ (u : TreeShown). IsWalked rules (segment_met rules frame packet t (NewFrame ∷ es) head last.payload) new u todos.Done) (sym (alone none t)) (taken-walked t es buffers stood);
  }

  taken-brings : AreShowable frame b → Brings rules frame (carries.Segment last) old new b
  taken-brings showable = record {
    payload = is.payload_is;
    carrier = refl;
    showable = showable;
    walked = λ t es buffers stood. taken-walked t es buffers stood;
  }

  by_test : (passes : Bool) → AreShowable frame b → (test : Bool) → (length b.met.messages == 0) ≡ test → IsFed rules frame passes (carries.Segment last) old new (fed_of test b)
  by_test passes showable true is_none = taken-tells passes (nothing_shown b.met.messages is_none)
  by_test passes showable false some = taken-brings showable

  pub taken-fed : (passes : Bool) → AreShowable frame b → IsFed rules frame passes (carries.Segment last) old new (fed_by b)
  taken-fed passes showable = by_test passes showable (length b.met.messages == 0) refl

-- where there was memory
pub met_ok : {E : Type 0} (frame : Frame) (b : Brought) (old new : State) (P : Fed → Type 0) (r : Result Fed E) → IfOk r (λ fed. fed ≡ fed_by b) → OnOk r (IsMet frame b old new) → (IsMet frame b old new → P (fed_by b)) → IfOk r P
met_ok frame b old after P (Ok fed) is met all = subst P (sym is) (all met)
met_ok frame b old after P (Err fault) is met all = tt

-- what was taken as where no stream is followed
pub passed-fed : (rules : List PortRule) (frame : Frame) (passes : Bool) (way : WayCarried) (old new : State) (found : Option Carried) → IfSome found (Tells rules frame passes way old new) → (found ≡ None → new ≡ old)
    → IsFed rules frame passes way old new (as_fed found)
passed-fed rules frame passes way old after None tells passed = passed refl
passed-fed rules frame passes way old after (Some carried) tells passed = tells

pub all_passes : (rules : List PortRule) (frame : Frame) (passes : Bool) (way : WayCarried) (old new : State) (found : Option Carried) → IfSome found (λ (c : Carried). (p : Bool) → Tells rules frame p way old new c)
    → IfSome found (Tells rules frame passes way old new)
all_passes rules frame passes way old after None tells = tt
all_passes rules frame passes way old after (Some carried) tells = tells passes

-- ---- the tree that headers make

pub grown_headers : (bytes wanted : List ℕ) (notes : List Note) (front hs : List Header) → AreOfFrame notes → Each (IsReadBy (bytes ∷ [])) hs → Each (λ (h : Header). 0 < h.proto) hs
    → AreNumbered (outlined bytes wanted front notes).layers (map (header_layer (bytes ∷ []) wanted notes) hs) → outlined bytes wanted (front ++ hs) notes ≡ grown_by (outlined bytes wanted front notes) hs
unfolding outlined
grown_headers bytes wanted notes front [] told each higher numbered = ap (λ (all : List Header). outlined bytes wanted all notes) (append-nil front)
grown_headers bytes wanted notes front (h ∷ hs) told each higher numbered =
    let layer : Header → Layer = header_layer (bytes ∷ []) wanted notes in
    ap (λ (all : List Header). outlined bytes wanted all notes) (sym (append_assoc front (h ∷ []) hs))
    ∙ grown_headers bytes wanted notes (front ++ h ∷ []) hs told each.1 higher.1 (subst (λ (ls : List Layer). AreNumbered ls (map layer hs)) (sym (map-append layer front (h ∷ []))) numbered.1)
    ∙ ap (λ (t : TreeShown). grown_by t hs) (header_adds bytes wanted front notes h (held_of h.proto) Plain false (told h.proto higher.0) numbered.0 each.0.whole)

first_then : (headers : List Header) → headers ≡ take 1 headers ++ drop 1 headers
first_then [] = refl
first_then (h ∷ headers) = refl

numbered_rest : (bytes wanted : List ℕ) (notes : List Note) (headers : List Header) → AreNumbered [] (outlined bytes wanted headers notes).layers
    → AreNumbered (outlined bytes wanted (take 1 headers) notes).layers (map (header_layer (bytes ∷ []) wanted notes) (drop 1 headers))
unfolding outlined
numbered_rest bytes wanted notes [] are = tt
numbered_rest bytes wanted notes (h ∷ headers) are = are.1

pub each_rest : (P : Header → Type 0) (headers : List Header) → Each P headers → Each P (drop 1 headers)
each_rest P [] each = tt
each_rest P (h ∷ headers) each = each.1

-- the headers of a plain frame
pub headers_grown : (wanted : List ℕ) (before : Times) (frame : Frame) (way : WayCarried) (headers : List Header) → Carries frame headers way → Opens frame headers
    → outlined frame.bytes wanted headers (frame_notes before frame) ≡ grown_by (kept_frame wanted before frame) (drop 1 headers)
headers_grown wanted before frame way headers carried opens =
    let notes = frame_notes before frame in
    let read : AreRead frame TCP headers = (carried.is notes (of_frame before frame)).read in
    ap (λ (all : List Header). outlined frame.bytes wanted all notes) (first_then headers)
    ∙ grown_headers frame.bytes wanted notes (take 1 headers) (drop 1 headers) (of_frame before frame) (each_rest (IsReadBy (frame.bytes ∷ [])) headers read.whole) read.higher (numbered_rest frame.bytes wanted notes headers (read.numbered wanted notes))
    ∙ ap (λ (t : TreeShown). grown_by t (drop 1 headers)) (opens wanted before)

at_last : (layers : List Layer) (layer : Layer) (at : ℕ) → at ≡ length layers → proto_at (layers ++ layer ∷ []) at ≡ layer.proto
at_last [] layer zero is = refl
at_last [] layer (suc at) is = absurd (omega arith)
at_last (l ∷ layers) layer zero is = absurd (omega arith)
at_last (l ∷ layers) layer (suc at) is = at_last layers layer at (omega arith)

is_last : (layers : List Layer) (layer : Layer) → LastIs layer.proto (layers ++ layer ∷ [])
is_last layers layer = (omega (arith, length_push layers layer), at_last layers layer (length (layers ++ layer ∷ []) - 1) (omega (arith, length_push layers layer)))

pub last_grown : (bytes wanted : List ℕ) (notes : List Note) (proto : ℕ) (headers : List Header) → IsLast proto headers → LastIs proto (outlined bytes wanted headers notes).layers
unfolding outlined
last_grown bytes wanted notes proto headers is =
    let layer : Header → Layer = header_layer (bytes ∷ []) wanted notes in
    subst (λ (hs : List Header). LastIs proto (map layer hs)) (sym is.parts)
    (subst (LastIs proto) (sym (map-append layer is.front (is.last ∷ [])))
    (subst (λ (p : ℕ). LastIs p (map layer is.front ++ layer is.last ∷ [])) is.own (is_last (map layer is.front) (layer is.last))))

-- the frame is read by it, with its links
pub brought_read : (rules : List PortRule) (wanted : List ℕ) (before : Times) (es : List Event) (frame : Frame) (b : Brought) (headers : List Header) (old new : State) (t : TreeShown) → AsksNoOptions wanted
    → IsBrought rules frame old new headers b → StandsAt rules es old → IsTree (brought_over frame b (outlined frame.bytes wanted headers (frame_notes before frame)))
    → t ≡ linked wanted new.found.items (brought_over frame b (outlined frame.bytes wanted headers (frame_notes before frame)))
    → IsRead rules wanted (kept_walk rules wanted before es frame) new t
brought_read rules wanted before es frame b headers old after t unasked is stands fits links =
    let u : TreeShown = outlined frame.bytes wanted headers (frame_notes before frame) in
    record {
      bare = brought_over frame b u;
      fits = fits;
      walked = subst (λ (w : Walk). IsWalked rules w after (brought_over frame b u) todos.Done) (sym (carried_way rules wanted before es frame headers is.way unasked is.carries is.opens))
          (is.brings.walked u es (buffers_of frame.bytes wanted headers (frame_notes before frame)) stands);
      with_links = links;
    }

-- the messages can be shown behind these headers, from the tree on that has the first
pub record CanShow (frame : Frame) (headers : List Header) (b : Brought) (t : TreeShown) : Type 0 where
  pub few : length headers ≤ 6
  pub read : Each (IsReadBy (frame.bytes ∷ [])) (drop 1 headers)
  pub last : LastIs TCP (grown_by t (drop 1 headers)).layers
  pub inside : IsInside (frame.bytes ∷ []) b.payload
  pub showable : AreShowable frame b

pub can_show : (rules : List PortRule) (wanted : List ℕ) (before : Times) (frame : Frame) (b : Brought) (headers : List Header) (old new : State) (t : TreeShown) → IsBrought rules frame old new headers b → t ≡ kept_frame wanted before frame
    → CanShow frame headers b t
can_show rules wanted before frame b headers old after t is begun =
    let notes = frame_notes before frame in
    let carried = is.carries.is notes (of_frame before frame) in
    let grown = headers_grown wanted before frame is.way headers is.carries is.opens ∙ ap (λ (x : TreeShown). grown_by x (drop 1 headers)) (sym begun) in
    record {
      few = carried.few;
      read = each_rest (IsReadBy (frame.bytes ∷ [])) headers carried.read.whole;
      last = subst (λ (x : TreeShown). LastIs TCP x.layers) grown (last_grown frame.bytes wanted notes TCP headers (subst (λ (proto : ℕ). IsLast proto headers) is.brings.carrier carried.last));
      inside = subst (IsInside (frame.bytes ∷ [])) (sym is.brings.payload) (carried_inside frame headers is.way is.carries);
      showable = is.brings.showable;
    }

-- ---- what is taken of the frame

-- its headers tell it
pub fed_told : (rules : List PortRule) (tables : Tables) (wanted : List ℕ) (before : Times) (frame : Frame) (passes : Bool) (way : WayCarried) (c : Carried) (headers : List Header) (heads : HeadsShown) (old new : State) → length frame.bytes < 2 ^ 32 → AreTables tables
    → AsksNoOptions wanted → (passes ≡ true → AsksNoDatagrams wanted) → Carries frame headers way → Opens frame headers → Tells rules frame passes way old new c
    → ((buffers : List (List ℕ)) → IsInside buffers c.payload → Each (NoteFits buffers) (notes_of before frame c)) → heads.headers ≡ headers ++ data_headers tables c.free c.payload → heads.notes ≡ wanted_notes wanted (notes_of before frame c)
    → IsToldBy rules wanted before frame old new heads
fed_told rules tables wanted before frame passes way c headers heads old new short are unasked messages carried opens tells fits headers_are notes_are =
    let stand = heads_stand tables wanted before frame way c headers heads short are carried tells.payload tells.carrier fits headers_are notes_are in
    record {
      read = λ es stands. heads_read rules wanted before es frame passes way c headers heads old new unasked messages carried opens stand tells stands;
      outline = stand.outline;
      alone = heads_alone tables wanted before frame c headers heads are (carried.is (frame_notes before frame) (of_frame before frame)).read headers_are notes_are;
    }

-- where it was told, or its tree was made, the frame is read by what was taken
abbrev pub IsReadAs : List PortRule → List ℕ → Times → Frame → State → State → HeadsShown → TakenBy → Type 0
IsReadAs rules wanted before frame old new heads by = (es : List Event) → StandsAt rules es old → IsRead rules wanted (kept_walk rules wanted before es frame) new (taken_tree frame.bytes wanted heads by)

pub tree_read : (rules : List PortRule) (wanted : List ℕ) (before : Times) (frame : Frame) (b : Brought) (old new : State) (heads : HeadsShown) (by : TakenBy) → AsksNoOptions wanted → IsBrought rules frame old new heads.headers b
    → IsTreeOf wanted new.found.items (brought_over frame b (outlined frame.bytes wanted heads.headers (frame_notes before frame))) by → IsReadAs rules wanted before frame old new heads by × HasOutline frame.bytes wanted heads by
tree_read rules wanted before frame b old after heads takens.Headers unasked is tree = absurd tree
tree_read rules wanted before frame b old after heads (takens.Tree tree) unasked brought is =
    (λ es stands. brought_read rules wanted before es frame b heads.headers old after tree unasked brought stands is.1 is.0, tt)
