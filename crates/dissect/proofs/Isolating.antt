-- A frame's tree rests on its own conversation: the way through its headers, by two pasts that are alike for what it brings.
use Rattle.std.proofs.Common.{◌≡◌, ◌==◌, ℕ, zero, suc, Bool, true, false, cond, if◌then◌else◌, List, [], ◌∷◌, length, refl, sym, ◌∙◌, ap, subst}
use Rattle.pk_base.specs.declared.span.Span.{Span}
use Rattle.pk_base.specs.declared.heads.After.{After}
use Rattle.pk_base.specs.declared.heads.After.TheVariants as afters
use Rattle.pk_base.specs.declared.heads.FragmentHead.{FragmentHead}
use Rattle.pk_base.specs.declared.heads.Mode.{Mode}
use Rattle.pk_base.specs.declared.heads.Mode.TheVariants.{Plain as PlainMode}
use Rattle.pk_base.specs.declared.heads.Next.{Next}
use Rattle.pk_base.specs.declared.heads.Next.TheVariants as nexts
use Rattle.pk_base.specs.declared.heads.PacketHead.{PacketHead}
use Rattle.pk_base.specs.declared.heads.PortsHead.{PortsHead}
use Rattle.pk_base.specs.declared.heads.TcpHead.{TcpHead}
use Rattle.pk_tree.specs.Buffers.{bytes_of}
use Rattle.pk_tree.specs.Trees.{TreeShown}
use Rattle.pk_fields.specs.FieldSets.{every_field}
use Rattle.pk_fields.specs.declared.rules.PortRule.{PortRule}
use Rattle.pk_fields.specs.Applications.{udp_app}
use Rattle.capture_read.specs.declared.frame.Frame.{Frame}
use Rattle.ip_join.specs.Keys.{same_key}
use Rattle.ip_join.specs.Stands.{joined_by, of_key}
use Rattle.ip_join.specs.declared.fragment.Fragment.{Fragment}
use Rattle.ip_join.specs.declared.joined.Joined.{Joined}
use Rattle.ip_join.specs.declared.joined.Joined.TheVariants.{Pending, Whole, Conflict}
use Rattle.ip_join.proofs.StandsLemmas.{joined_by-of_key}
use Rattle.tcp_streams.specs.declared.ends.Ends.{Ends}
use Rattle.tcp_streams.specs.declared.segment.Segment.{Segment}
use Rattle.tcp_streams.specs.Labels.{taken_after}
use Rattle.tcp_messages.specs.Shown.{shown_after}
use Rattle.message_links.specs.Conversations.{number_in, udp_ends}
use Rattle.message_links.specs.Linked.{linked}
use Rattle.message_links.specs.Links.{links_of}
use Rattle.message_links.specs.Notes.{datagram_notes, shown_notes, tcp_direction, udp_direction}
use Rattle.app_layers.specs.declared.times.Times.{Times}
use Rattle.app_layers.specs.Applications.{payload_over}
use Rattle.app_layers.specs.FrameLayer.{frame_tree, is_cut}
use Rattle.app_layers.specs.MessageLayers.{app_of_segment, application, carried_over, framer_of_segment}
use Rattle.app_layers.specs.Payloads.{datagram_told, segment_told}
use Rattle.dissect.specs.declared.todo.Head.{Head}
use Rattle.dissect.specs.declared.todo.Todo.{Todo}
use Rattle.dissect.specs.declared.todo.Todo.TheVariants as todos
use Rattle.dissect.specs.Conversations.{udp_opened, udp_stream}
use Rattle.dissect.specs.Events.{Event, NewFrame, Piece, Udp, Tcp}
use Rattle.dissect.specs.Fragments.{fragment_from, fragments_of}
use Rattle.dissect.specs.Isolation.{AreAlikeFor, HaveSameNotes, TreesStandAlone, newest_events}
use Rattle.dissect.specs.Links.{newest_links}
use Rattle.dissect.specs.Notes.{noted, segment_notes}
use Rattle.dissect.specs.Segments.{segment_from, segments_of}
use Rattle.dissect.specs.Trees.{bare_tree, events_of, times_of, tree_at, walk_of}
use Rattle.dissect.specs.Walks.{Walk, all_met, chain, datagram_met, followed, fragment_by, fragment_met, going, head_by, joined_met, layers_left, link_met, rest_on, segment_met, step, step_on, stop}
use Rattle.dissect.proofs.AloneLemmas.{links_same, shown_same, taken_same}
use Rattle.dissect.proofs.RuleEvents.{rules_change_no_events}

-- ---- on the way

-- all that a way reads of events: those of the frame so far, in front of those before it
pub record AreOn (given : List PortRule) (before aside es others : List Event) : Type 0 where
  pub fragments : (head : FragmentHead) → of_key head (fragments_of before) ≡ of_key head (fragments_of aside) → of_key head (fragments_of es) ≡ of_key head (fragments_of others)
  pub udp : udp_opened es ≡ udp_opened before
  pub other_udp : udp_opened others ≡ udp_opened aside
  pub tcp : segments_of es ≡ segments_of before
  pub other_tcp : segments_of others ≡ segments_of aside
  pub notes : noted given es ≡ noted given before
  pub other_notes : noted given others ≡ noted given aside
  pub links : newest_links given es ≡ []
  pub other_links : newest_links given others ≡ []
  pub own : newest_events es ≡ newest_events others

begun : (given : List PortRule) (before aside : List Event) → AreOn given before aside (NewFrame ∷ before) (NewFrame ∷ aside)
unfolding fragments_of udp_opened segments_of noted newest_links
begun given before aside = record {
  fragments = λ head same. same;
  udp = refl;
  other_udp = refl;
  tcp = refl;
  other_tcp = refl;
  notes = refl;
  other_notes = refl;
  links = refl;
  other_links = refl;
  own = refl;
}

with_piece : (given : List PortRule) (before aside es others : List Event) (frame : ℕ) (head : FragmentHead) (bytes : List ℕ) → AreOn given before aside es others
    → AreOn given before aside (Piece frame head bytes ∷ es) (Piece frame head bytes ∷ others)
unfolding fragments_of udp_opened segments_of noted newest_links
with_piece given before aside es others frame head bytes on = record {
  fragments = λ key same. ap (λ (fs : List Fragment). cond (same_key head key) (fragment_from frame head bytes ∷ fs) fs) (on.fragments key same);
  udp = on.udp;
  other_udp = on.other_udp;
  tcp = on.tcp;
  other_tcp = on.other_tcp;
  notes = on.notes;
  other_notes = on.other_notes;
  links = on.links;
  other_links = on.other_links;
  own = ap (λ (own : List Event). Piece frame head bytes ∷ own) on.own;
}

-- so where the way goes on
abbrev pub OnWhere : List PortRule → List Event → List Event → Todo → List Event → List Event → Type 0
OnWhere given before aside todos.Done es others = Unit {0}
OnWhere given before aside (todos.Head head) es others = AreOn given before aside es others

on_where : (given : List PortRule) (before aside : List Event) (todo : Todo) (es others : List Event) → AreOn given before aside es others → OnWhere given before aside todo es others
on_where given before aside todos.Done es others on = tt
on_where given before aside (todos.Head head) es others on = on

pub record IsSame (given : List PortRule) (before aside : List Event) (v w : Walk) : Type 0 where
  pub tree : v.tree ≡ w.tree
  pub todo : v.todo ≡ w.todo
  pub own : newest_events v.events ≡ newest_events w.events
  pub links : HaveSameNotes given (newest_events v.events) before aside → newest_links given v.events ≡ newest_links given w.events
  pub on : OnWhere given before aside v.todo v.events w.events

still : (given : List PortRule) (before aside : List Event) (t : TreeShown) (es others : List Event) (todo : Todo) → AreOn given before aside es others
    → IsSame given before aside (going t es todo) (going t others todo)
still given before aside t es others todo on = record {
  tree = refl;
  todo = refl;
  own = on.own;
  links = λ notes. on.links ∙ sym on.other_links;
  on = on_where given before aside todo es others on;
}

-- ---- what a frame brings is kept to the end

abbrev Keeps : List Event → List Event → Type 0
Keeps es more = (before aside : List Event) → AreAlikeFor (newest_events more) before aside → AreAlikeFor (newest_events es) before aside

pub joined_events : (joined : Joined) (t : TreeShown) (es : List Event) (head : FragmentHead) (span : Span) → (joined_met joined t es head span).events ≡ es
unfolding joined_met
joined_events Pending t es head span = refl
joined_events (Conflict kind) t es head span = refl
joined_events (Whole datagram) t es head span = refl

piece_told : (joined : Joined) (t : TreeShown) (es : List Event) (frame : ℕ) (head : FragmentHead) (bytes : List ℕ) (span : Span) (before aside : List Event)
    → AreAlikeFor (newest_events (joined_met joined t (Piece frame head bytes ∷ es) head span).events) before aside
    → AreAlikeFor (newest_events (Piece frame head bytes ∷ es)) before aside
piece_told joined t es frame head bytes span before aside alike =
    subst (λ (x : List Event). AreAlikeFor (newest_events x) before aside) (joined_events joined t (Piece frame head bytes ∷ es) head span) alike

fragment_keeps : (whole : Bool) (t : TreeShown) (es : List Event) (frame : ℕ) (head : FragmentHead) (span : Span) → Keeps es (fragment_by whole t es frame head span).events
fragment_keeps true t es frame head span = λ before aside alike.
    (piece_told (joined_by (fragments_of es) (fragment_from frame head (bytes_of t.buffers span))) t es frame head (bytes_of t.buffers span) span before aside alike).1
fragment_keeps false t es frame head span = λ before aside alike. alike

followed_keeps : (rules : List PortRule) (frame : Frame) (packet : PacketHead) (mode : Mode) (t : TreeShown) (es : List Event) (after : After)
    → Keeps es (followed rules frame packet mode t es after).events
unfolding followed fragment_met datagram_met segment_met
followed_keeps rules frame packet mode t es (afters.Next which span) = λ before aside alike. alike
followed_keeps rules frame packet mode t es (afters.Packet which span inner) = λ before aside alike. alike
followed_keeps rules frame packet mode t es (afters.Fragment head span) = fragment_keeps head.whole t es frame.number head span
followed_keeps rules frame packet mode t es (afters.Datagram head span) = λ before aside alike. alike.1
followed_keeps rules frame packet mode t es (afters.Segment head span) = λ before aside alike. alike.1
followed_keeps rules frame packet mode t es afters.End = λ before aside alike. alike

head_keeps : (rules : List PortRule) (which : Next) (frame : Frame) (head : Head) (t : TreeShown) (es : List Event) → Keeps es (head_by rules which frame head t es).events
unfolding head_by
head_keeps rules nexts.Ip4 frame head t es = followed_keeps rules frame _ _ _ es _
head_keeps rules nexts.Ip6 frame head t es = followed_keeps rules frame _ _ _ es _
head_keeps rules nexts.Arp frame head t es = followed_keeps rules frame _ _ _ es _
head_keeps rules nexts.Vlan frame head t es = followed_keeps rules frame _ _ _ es _
head_keeps rules nexts.Icmp frame head t es = followed_keeps rules frame _ _ _ es _
head_keeps rules nexts.Icmp6 frame head t es = followed_keeps rules frame _ _ _ es _
head_keeps rules nexts.Udp frame head t es = followed_keeps rules frame _ _ _ es _
head_keeps rules nexts.Tcp frame head t es = followed_keeps rules frame _ _ _ es _
head_keeps rules nexts.HopOpts frame head t es = followed_keeps rules frame _ _ _ es _
head_keeps rules nexts.Routing frame head t es = followed_keeps rules frame _ _ _ es _
head_keeps rules nexts.DstOpts frame head t es = followed_keeps rules frame _ _ _ es _
head_keeps rules nexts.FragHdr frame head t es = followed_keeps rules frame _ _ _ es _
head_keeps rules (nexts.Neigh kind) frame head t es = followed_keeps rules frame _ _ _ es _
head_keeps rules nexts.Igmp frame head t es = followed_keeps rules frame _ _ _ es _
head_keeps rules nexts.Rest frame head t es = λ before aside alike. alike

step_keeps : (rules : List PortRule) (frame : Frame) (t : TreeShown) (es : List Event) (todo : Todo) → Keeps es (step_on rules frame t es todo).events
step_keeps rules frame t es todos.Done = λ before aside alike. alike
step_keeps rules frame t es (todos.Head head) = head_keeps rules head.which frame head t es

rest_keeps : (t : TreeShown) (es : List Event) (todo : Todo) → Keeps es (rest_on t es todo).events
rest_keeps t es todos.Done = λ before aside alike. alike
rest_keeps t es (todos.Head head) = λ before aside alike. alike

chain_keeps : (rules : List PortRule) (n : ℕ) (frame : Frame) (w : Walk) → Keeps w.events (chain rules n frame w).events
unfolding chain
chain_keeps rules zero frame w = rest_keeps w.tree w.events w.todo
chain_keeps rules (suc n) frame w = λ before aside alike.
    step_keeps rules frame w.tree w.events w.todo before aside (chain_keeps rules n frame (step rules frame w) before aside alike)

-- ---- one header

joined_same : (given : List PortRule) (before aside : List Event) (joined : Joined) (t : TreeShown) (es others : List Event) (head : FragmentHead) (span : Span) → AreOn given before aside es others
    → IsSame given before aside (joined_met joined t es head span) (joined_met joined t others head span)
unfolding joined_met
joined_same given before aside Pending t es others head span on = still given before aside _ es others todos.Done on
joined_same given before aside (Conflict kind) t es others head span on = still given before aside _ es others todos.Done on
joined_same given before aside (Whole datagram) t es others head span on = still given before aside _ es others _ on

fragment_same : (given : List PortRule) (before aside : List Event) (whole : Bool) (t : TreeShown) (es others : List Event) (frame : ℕ) (head : FragmentHead) (span : Span) → AreOn given before aside es others
    → AreAlikeFor (newest_events (fragment_by whole t es frame head span).events) before aside
    → IsSame given before aside (fragment_by whole t es frame head span) (fragment_by whole t others frame head span)
fragment_same given before aside true t es others frame head span on alike =
    let bytes : List ℕ = bytes_of t.buffers span in
    let f : Fragment = fragment_from frame head bytes in
    let fragments : of_key head (fragments_of es) ≡ of_key head (fragments_of others) =
    on.fragments head (piece_told (joined_by (fragments_of es) f) t es frame head bytes span before aside alike).0 in
    subst (λ (j : Joined). IsSame given before aside (joined_met (joined_by (fragments_of es) f) t (Piece frame head bytes ∷ es) head span) (joined_met j t (Piece frame head bytes ∷ others) head span))
    (joined_by-of_key (fragments_of es) (fragments_of others) f fragments)
    (joined_same given before aside (joined_by (fragments_of es) f) t (Piece frame head bytes ∷ es) (Piece frame head bytes ∷ others) head span
    (with_piece given before aside es others frame head bytes on))
fragment_same given before aside false t es others frame head span on alike = still given before aside _ es others todos.Done on

datagram_links : (given : List PortRule) (before aside es others : List Event) (frame : ℕ) (packet : PacketHead) (head : PortsHead) (bytes : List ℕ) → AreOn given before aside es others
    → udp_stream before packet head ≡ udp_stream aside packet head
    → HaveSameNotes given (Udp frame packet head bytes ∷ newest_events es) before aside
    → newest_links given (Udp frame packet head bytes ∷ es) ≡ newest_links given (Udp frame packet head bytes ∷ others)
unfolding newest_links
datagram_links given before aside es others frame packet head bytes on number same =
    let ends : Ends = udp_ends packet head in
    (λ i. links_of (on.notes i) (udp_direction (number_in (on.udp i) ends)) (datagram_notes (udp_app given head.source head.target) bytes))
    ∙ links_same (udp_direction (udp_stream before packet head)) (noted given before) (noted given aside) (datagram_notes (udp_app given head.source head.target) bytes) same.0
    ∙ (λ i. links_of (noted given aside) (udp_direction (number i)) (datagram_notes (udp_app given head.source head.target) bytes))
    ∙ sym (λ i. links_of (on.other_notes i) (udp_direction (number_in (on.other_udp i) ends)) (datagram_notes (udp_app given head.source head.target) bytes))

datagram_same : (rules given : List PortRule) (before aside : List Event) (frame : Frame) (packet : PacketHead) (t : TreeShown) (es others : List Event) (head : PortsHead) (span : Span)
    → AreOn given before aside es others → AreAlikeFor (newest_events (datagram_met rules frame packet t es head span).events) before aside
    → IsSame given before aside (datagram_met rules frame packet t es head span) (datagram_met rules frame packet t others head span)
unfolding datagram_met
datagram_same rules given before aside frame packet t es others head span on alike =
    let ends : Ends = udp_ends packet head in
    let number : udp_stream es packet head ≡ udp_stream others packet head =
    ap (λ (known : List Ends). number_in known ends) on.udp ∙ alike.0 ∙ sym (ap (λ (known : List Ends). number_in known ends) on.other_udp) in
    record {
      tree = ap (λ (n : ℕ). payload_over (udp_app rules head.source head.target) (datagram_told t n span) (is_cut frame) span) number;
      todo = refl;
      own = ap (λ (own : List Event). Udp frame.number packet head (bytes_of t.buffers span) ∷ own) on.own;
      links = datagram_links given before aside es others frame.number packet head (bytes_of t.buffers span) on alike.0;
      on = tt;
    }

segment_links : (given : List PortRule) (before aside es others : List Event) (frame : ℕ) (packet : PacketHead) (head : TcpHead) (bytes : List ℕ) → AreOn given before aside es others
    → AreAlikeFor (Tcp frame packet head bytes ∷ newest_events es) before aside
    → HaveSameNotes given (Tcp frame packet head bytes ∷ newest_events es) before aside
    → newest_links given (Tcp frame packet head bytes ∷ es) ≡ newest_links given (Tcp frame packet head bytes ∷ others)
unfolding newest_links
segment_links given before aside es others frame packet head bytes on alike same =
    let s : Segment = segment_from frame packet head bytes in
    let past : List Segment = segments_of before in
    let ys : List Segment = segments_of aside in
    let taken : taken_after past s ≡ taken_after ys s = taken_same past ys s alike.0 in
    let shown : shown_after (framer_of_segment given s) past s ≡ shown_after (framer_of_segment given s) ys s = shown_same (framer_of_segment given s) past ys s alike.0.segments in
    (λ i. links_of (on.notes i) (tcp_direction (taken_after (on.tcp i) s)) (segment_notes given (on.tcp i) s))
    ∙ links_same (tcp_direction (taken_after past s)) (noted given before) (noted given aside) (segment_notes given past s) same.0
    ∙ (λ i. links_of (noted given aside) (tcp_direction (taken i)) (shown_notes (application (app_of_segment given s)) s.payload (shown i)))
    ∙ sym (λ i. links_of (on.other_notes i) (tcp_direction (taken_after (on.other_tcp i) s)) (segment_notes given (on.other_tcp i) s))

segment_same : (rules given : List PortRule) (before aside : List Event) (frame : Frame) (packet : PacketHead) (t : TreeShown) (es others : List Event) (head : TcpHead) (span : Span)
    → AreOn given before aside es others → AreAlikeFor (newest_events (segment_met rules frame packet t es head span).events) before aside
    → IsSame given before aside (segment_met rules frame packet t es head span) (segment_met rules frame packet t others head span)
unfolding segment_met
segment_same rules given before aside frame packet t es others head span on alike =
    let s : Segment = segment_from frame.number packet head (bytes_of t.buffers span) in
    let taken : taken_after (segments_of es) s ≡ taken_after (segments_of others) s =
    ap (λ (past : List Segment). taken_after past s) on.tcp ∙ taken_same (segments_of before) (segments_of aside) s alike.0 ∙ sym (ap (λ (past : List Segment). taken_after past s) on.other_tcp) in
    let shown : shown_after (framer_of_segment rules s) (segments_of es) s ≡ shown_after (framer_of_segment rules s) (segments_of others) s =
    ap (λ (past : List Segment). shown_after (framer_of_segment rules s) past s) on.tcp ∙ shown_same (framer_of_segment rules s) (segments_of before) (segments_of aside) s alike.0.segments
    ∙ sym (ap (λ (past : List Segment). shown_after (framer_of_segment rules s) past s) on.other_tcp) in
    record {
      tree = λ i. carried_over (app_of_segment rules s) (is_cut frame) span (segment_told t (taken i) span) (shown i);
      todo = refl;
      own = ap (λ (own : List Event). Tcp frame.number packet head (bytes_of t.buffers span) ∷ own) on.own;
      links = segment_links given before aside es others frame.number packet head (bytes_of t.buffers span) on alike;
      on = tt;
    }

-- a way and the same way by the other past
abbrev pub SameBy : List PortRule → List Event → List Event → Walk → Walk → Type 0
SameBy given before aside v w = AreAlikeFor (newest_events v.events) before aside → IsSame given before aside v w

followed_same : (rules given : List PortRule) (before aside : List Event) (frame : Frame) (packet : PacketHead) (mode : Mode) (t : TreeShown) (es others : List Event) (after : After) → AreOn given before aside es others
    → SameBy given before aside (followed rules frame packet mode t es after) (followed rules frame packet mode t others after)
unfolding followed fragment_met
followed_same rules given before aside frame packet mode t es others (afters.Next which span) on = λ alike. still given before aside t es others _ on
followed_same rules given before aside frame packet mode t es others (afters.Packet which span inner) on = λ alike. still given before aside t es others _ on
followed_same rules given before aside frame packet mode t es others (afters.Fragment head span) on = fragment_same given before aside head.whole t es others frame.number head span on
followed_same rules given before aside frame packet mode t es others (afters.Datagram head span) on = datagram_same rules given before aside frame packet t es others head span on
followed_same rules given before aside frame packet mode t es others (afters.Segment head span) on = segment_same rules given before aside frame packet t es others head span on
followed_same rules given before aside frame packet mode t es others afters.End on = λ alike. still given before aside t es others todos.Done on

head_same : (rules given : List PortRule) (before aside : List Event) (which : Next) (frame : Frame) (head : Head) (t : TreeShown) (es others : List Event) → AreOn given before aside es others
    → SameBy given before aside (head_by rules which frame head t es) (head_by rules which frame head t others)
unfolding head_by
head_same rules given before aside nexts.Ip4 frame head t es others on = followed_same rules given before aside frame _ _ _ es others _ on
head_same rules given before aside nexts.Ip6 frame head t es others on = followed_same rules given before aside frame _ _ _ es others _ on
head_same rules given before aside nexts.Arp frame head t es others on = followed_same rules given before aside frame _ _ _ es others _ on
head_same rules given before aside nexts.Vlan frame head t es others on = followed_same rules given before aside frame _ _ _ es others _ on
head_same rules given before aside nexts.Icmp frame head t es others on = followed_same rules given before aside frame _ _ _ es others _ on
head_same rules given before aside nexts.Icmp6 frame head t es others on = followed_same rules given before aside frame _ _ _ es others _ on
head_same rules given before aside nexts.Udp frame head t es others on = followed_same rules given before aside frame _ _ _ es others _ on
head_same rules given before aside nexts.Tcp frame head t es others on = followed_same rules given before aside frame _ _ _ es others _ on
head_same rules given before aside nexts.HopOpts frame head t es others on = followed_same rules given before aside frame _ _ _ es others _ on
head_same rules given before aside nexts.Routing frame head t es others on = followed_same rules given before aside frame _ _ _ es others _ on
head_same rules given before aside nexts.DstOpts frame head t es others on = followed_same rules given before aside frame _ _ _ es others _ on
head_same rules given before aside nexts.FragHdr frame head t es others on = followed_same rules given before aside frame _ _ _ es others _ on
head_same rules given before aside (nexts.Neigh kind) frame head t es others on = followed_same rules given before aside frame _ _ _ es others _ on
head_same rules given before aside nexts.Igmp frame head t es others on = followed_same rules given before aside frame _ _ _ es others _ on
head_same rules given before aside nexts.Rest frame head t es others on = λ alike. still given before aside _ es others todos.Done on

-- ---- all headers

chain_same : (rules given : List PortRule) (before aside : List Event) (n : ℕ) (frame : Frame) (t : TreeShown) (es others : List Event) (todo : Todo)
    → IsSame given before aside (going t es todo) (going t others todo)
    → SameBy given before aside (chain rules n frame (going t es todo)) (chain rules n frame (going t others todo))
unfolding chain
chain_same rules given before aside zero frame t es others todos.Done same = λ alike. same
chain_same rules given before aside zero frame t es others (todos.Head head) same = λ alike.
    record { tree = refl; todo = refl; own = same.own; links = same.links; on = tt }
chain_same rules given before aside (suc n) frame t es others todos.Done same = chain_same rules given before aside n frame t es others todos.Done same
chain_same rules given before aside (suc n) frame t es others (todos.Head head) same = λ alike.
    let v : Walk = head_by rules head.which frame head t es in
    let w : Walk = head_by rules head.which frame head t others in
    let next : IsSame given before aside v w = head_same rules given before aside head.which frame head t es others same.on (chain_keeps rules n frame v before aside alike) in
    subst (λ (x : Walk). IsSame given before aside (chain rules n frame v) (chain rules n frame x)) (λ i. going (next.tree i) w.events (next.todo i))
    (chain_same rules given before aside n frame v.tree v.events w.events v.todo (record { tree = refl; todo = refl; own = next.own; links = next.links; on = next.on }) alike)

all_same : (rules given : List PortRule) (before aside : List Event) (frame : Frame) (v w : Walk) → SameBy given before aside v w → SameBy given before aside (all_met rules frame v) (all_met rules frame w)
unfolding all_met
all_same rules given before aside frame v w by = λ alike.
    let same : IsSame given before aside v w = by (chain_keeps rules (layers_left v.tree) frame v before aside alike) in
    subst (λ (x : Walk). IsSame given before aside (chain rules (layers_left v.tree) frame v) (chain rules (layers_left x.tree) frame x)) (λ i. going (same.tree i) w.events (same.todo i))
    (chain_same rules given before aside (layers_left v.tree) frame v.tree v.events w.events v.todo (record { tree = refl; todo = refl; own = same.own; links = same.links; on = same.on }) alike)

if_same : (given : List PortRule) (before aside : List Event) (test : Bool) (one two v w : Walk) → SameBy given before aside one two → SameBy given before aside v w
    → SameBy given before aside (if test then one else v) (if test then two else w)
if_same given before aside true one two v w first rest = first
if_same given before aside false one two v w first rest = rest

pub walk_same : (rules given : List PortRule) (times : Times) (before aside : List Event) (frame : Frame) → SameBy given before aside (walk_of rules times before frame) (walk_of rules times aside frame)
unfolding walk_of link_met
walk_same rules given times before aside frame =
    let on : AreOn given before aside (NewFrame ∷ before) (NewFrame ∷ aside) = begun given before aside in
    all_same rules given before aside frame (link_met rules frame (frame_tree times frame) (NewFrame ∷ before)) (link_met rules frame (frame_tree times frame) (NewFrame ∷ aside))
    (if_same given before aside (length frame.bytes == 0) (stop (frame_tree times frame) (NewFrame ∷ before)) (stop (frame_tree times frame) (NewFrame ∷ aside)) _ _
    (λ alike. still given before aside (frame_tree times frame) (NewFrame ∷ before) (NewFrame ∷ aside) todos.Done on)
    (followed_same rules given before aside frame _ PlainMode _ (NewFrame ∷ before) (NewFrame ∷ aside) _ on))

-- ---- frames

abbrev walk_at : List PortRule → List Frame → Frame → Walk
walk_at rules past frame = walk_of rules (times_of past) (events_of past) frame

frames_same : (rules given : List PortRule) (past others : List Frame) (frame : Frame) → times_of past ≡ times_of others
    → SameBy given (events_of past) (events_of others) (walk_at rules past frame) (walk_at rules others frame)
frames_same rules given past others frame times =
    subst (λ (x : Times). SameBy given (events_of past) (events_of others) (walk_at rules past frame) (walk_of rules x (events_of others) frame)) times
    (walk_same rules given (times_of past) (events_of past) (events_of others) frame)

bare_same : (rules : List PortRule) (past others : List Frame) (frame : Frame) → times_of past ≡ times_of others
    → AreAlikeFor (newest_events (walk_at [] past frame).events) (events_of past) (events_of others) → bare_tree rules past frame ≡ bare_tree rules others frame
unfolding bare_tree
bare_same rules past others frame times alike =
    (frames_same rules rules past others frame times
    (subst (λ (x : List Event). AreAlikeFor (newest_events x) (events_of past) (events_of others)) (sym (rules_change_no_events rules (times_of past) (events_of past) frame)) alike)).tree

pub trees_stand_alone : TreesStandAlone
unfolding events_of tree_at
trees_stand_alone rules past others frame times alike =
    let bare : bare_tree rules past frame ≡ bare_tree rules others frame = bare_same rules past others frame times alike in
    let same : IsSame rules (events_of past) (events_of others) (walk_at [] past frame) (walk_at [] others frame) = frames_same [] rules past others frame times alike in
    record {
      bare = bare;
      brings = same.own;
      tree = λ notes. λ i. linked every_field (same.links notes i) (bare i);
    }
