-- The way through a frame's headers without the items that number, by two pasts that are the same for it but for numbers.
use Rattle.std.proofs.Common.{◌≡◌, ◌==◌, ℕ, zero, suc, Bool, true, false, cond, if◌then◌else◌, List, [], ◌∷◌, length, map, Option, refl, sym, ◌∙◌, ap, subst}
use Rattle.pk_base.specs.declared.span.Span.{Span}
use Rattle.pk_base.specs.declared.heads.After.{After}
use Rattle.pk_base.specs.declared.heads.After.TheVariants as afters
use Rattle.pk_base.specs.declared.heads.FragmentHead.{FragmentHead}
use Rattle.pk_base.specs.declared.heads.Mode.{Mode}
use Rattle.pk_base.specs.declared.heads.Mode.TheVariants.{Plain as PlainMode}
use Rattle.pk_base.specs.declared.heads.Next.{Next}
use Rattle.pk_base.specs.declared.heads.Next.TheVariants as nexts
use Rattle.pk_base.specs.declared.heads.PacketHead.{PacketHead}
use Rattle.pk_base.specs.declared.heads.PortsHead.{PortsHead}
use Rattle.pk_base.specs.declared.heads.TcpHead.{TcpHead}
use Rattle.pk_tree.specs.Buffers.{bytes_of}
use Rattle.pk_tree.specs.Trees.{TreeShown}
use Rattle.pk_fields.specs.declared.rules.PortRule.{PortRule}
use Rattle.pk_fields.specs.Applications.{udp_app}
use Rattle.capture_read.specs.declared.frame.Frame.{Frame}
use Rattle.ip_join.specs.Keys.{same_key}
use Rattle.ip_join.specs.Renumbered.{answer_renumbered, renumbered as fragment_renumbered}
use Rattle.ip_join.specs.Stands.{joined_by, of_key}
use Rattle.ip_join.specs.declared.fragment.Fragment.{Fragment}
use Rattle.ip_join.specs.declared.joined.Joined.{Joined}
use Rattle.ip_join.specs.declared.joined.Joined.TheVariants.{Pending, Whole, Conflict}
use Rattle.ip_join.proofs.RenumberedLemmas.{joined_by-renumbered}
use Rattle.tcp_streams.specs.declared.segment.Segment.{Segment}
use Rattle.tcp_streams.specs.Isolation.{AreSameSegments, IsSameButFrame, IsSameTaken, between}
use Rattle.tcp_streams.specs.Labels.{taken_after}
use Rattle.tcp_streams.proofs.Isolating.{is_isolated}
use Rattle.stream_messages.specs.declared.framer.Framer.{Framer}
use Rattle.tcp_messages.specs.Renumbered.{renumbered, shown_renumbered}
use Rattle.tcp_messages.specs.Shown.{shown_after}
use Rattle.tcp_messages.proofs.Alone.{stands_alone}
use Rattle.app_layers.specs.declared.times.Times.{Times}
use Rattle.app_layers.specs.Applications.{payload_over}
use Rattle.app_layers.specs.FrameLayer.{frame_span, frame_tree, is_cut, kept_frame}
use Rattle.app_layers.specs.MessageLayers.{app_of_segment, carried_over, framer_of_segment}
use Rattle.app_layers.specs.Payloads.{segment_told}
use Rattle.app_layers.proofs.KeptHeads.{frame_kept}
use Rattle.dissect.specs.declared.todo.Head.{Head}
use Rattle.dissect.specs.declared.todo.Todo.{Todo}
use Rattle.dissect.specs.declared.todo.Todo.TheVariants as todos
use Rattle.dissect.specs.Conversations.{udp_stream}
use Rattle.dissect.specs.Events.{Event, NewFrame, Piece, Udp, Tcp}
use Rattle.dissect.specs.Fragments.{fragment_from, fragments_of, joined_todo}
use Rattle.dissect.specs.Isolation.{newest_events}
use Rattle.dissect.specs.Numbering.{HasNoNumbering, HaveSameConversation, HaveSameConversations, HaveSameFragments, event_renumbered, frame_renumbered}
use Rattle.dissect.specs.Segments.{segment_from, segments_of}
use Rattle.dissect.specs.Trees.{kept_walk}
use Rattle.dissect.specs.Walks.{Walk, all_met, chain, datagram_met, followed, fragment_by, fragment_met, going, head_by, joined_met, layers_left, link_met, rest_met, rest_on, segment_met, step, step_on, stop}
use Rattle.dissect.proofs.Isolating.{joined_events}
use Rattle.dissect.proofs.Unnumbered.{datagram_skipped, frame_same, joined_skipped, joined_wanted, layer_wanted, link_wanted, segment_told_same}

-- ---- what a frame brings is kept to the end

abbrev Keeps : (ℕ → ℕ) → List Event → List Event → Type 0
Keeps r es more = (before aside : List Event) → HaveSameFragments r (newest_events more) before aside → HaveSameFragments r (newest_events es) before aside

piece_told : (r : ℕ → ℕ) (joined : Joined) (t : TreeShown) (es : List Event) (frame : ℕ) (head : FragmentHead) (bytes : List ℕ) (span : Span) (before aside : List Event)
    → HaveSameFragments r (newest_events (joined_met joined t (Piece frame head bytes ∷ es) head span).events) before aside
    → HaveSameFragments r (newest_events (Piece frame head bytes ∷ es)) before aside
piece_told r joined t es frame head bytes span before aside same =
    subst (λ (x : List Event). HaveSameFragments r (newest_events x) before aside) (joined_events joined t (Piece frame head bytes ∷ es) head span) same

fragment_keeps : (r : ℕ → ℕ) (whole : Bool) (t : TreeShown) (es : List Event) (frame : ℕ) (head : FragmentHead) (span : Span) → Keeps r es (fragment_by whole t es frame head span).events
fragment_keeps r true t es frame head span = λ before aside same.
    (piece_told r (joined_by (fragments_of es) (fragment_from frame head (bytes_of t.buffers span))) t es frame head (bytes_of t.buffers span) span before aside same).1
fragment_keeps r false t es frame head span = λ before aside same. same

followed_keeps : (r : ℕ → ℕ) (rules : List PortRule) (frame : Frame) (packet : PacketHead) (mode : Mode) (t : TreeShown) (es : List Event) (after : After)
    → Keeps r es (followed rules frame packet mode t es after).events
unfolding followed fragment_met datagram_met segment_met
followed_keeps r rules frame packet mode t es (afters.Next which span) = λ before aside same. same
followed_keeps r rules frame packet mode t es (afters.Packet which span inner) = λ before aside same. same
followed_keeps r rules frame packet mode t es (afters.Fragment head span) = fragment_keeps r head.whole t es frame.number head span
followed_keeps r rules frame packet mode t es (afters.Datagram head span) = λ before aside same. same
followed_keeps r rules frame packet mode t es (afters.Segment head span) = λ before aside same. same
followed_keeps r rules frame packet mode t es afters.End = λ before aside same. same

head_keeps : (r : ℕ → ℕ) (rules : List PortRule) (which : Next) (frame : Frame) (head : Head) (t : TreeShown) (es : List Event) → Keeps r es (head_by rules which frame head t es).events
unfolding head_by
head_keeps r rules nexts.Ip4 frame head t es = followed_keeps r rules frame _ _ _ es _
head_keeps r rules nexts.Ip6 frame head t es = followed_keeps r rules frame _ _ _ es _
head_keeps r rules nexts.Arp frame head t es = followed_keeps r rules frame _ _ _ es _
head_keeps r rules nexts.Vlan frame head t es = followed_keeps r rules frame _ _ _ es _
head_keeps r rules nexts.Icmp frame head t es = followed_keeps r rules frame _ _ _ es _
head_keeps r rules nexts.Icmp6 frame head t es = followed_keeps r rules frame _ _ _ es _
head_keeps r rules nexts.Udp frame head t es = followed_keeps r rules frame _ _ _ es _
head_keeps r rules nexts.Tcp frame head t es = followed_keeps r rules frame _ _ _ es _
head_keeps r rules nexts.HopOpts frame head t es = followed_keeps r rules frame _ _ _ es _
head_keeps r rules nexts.Routing frame head t es = followed_keeps r rules frame _ _ _ es _
head_keeps r rules nexts.DstOpts frame head t es = followed_keeps r rules frame _ _ _ es _
head_keeps r rules nexts.FragHdr frame head t es = followed_keeps r rules frame _ _ _ es _
head_keeps r rules (nexts.Neigh kind) frame head t es = followed_keeps r rules frame _ _ _ es _
head_keeps r rules nexts.Igmp frame head t es = followed_keeps r rules frame _ _ _ es _
head_keeps r rules nexts.Rest frame head t es = λ before aside same. same

step_keeps : (r : ℕ → ℕ) (rules : List PortRule) (frame : Frame) (t : TreeShown) (es : List Event) (todo : Todo) → Keeps r es (step_on rules frame t es todo).events
step_keeps r rules frame t es todos.Done = λ before aside same. same
step_keeps r rules frame t es (todos.Head head) = head_keeps r rules head.which frame head t es

rest_keeps : (r : ℕ → ℕ) (t : TreeShown) (es : List Event) (todo : Todo) → Keeps r es (rest_on t es todo).events
rest_keeps r t es todos.Done = λ before aside same. same
rest_keeps r t es (todos.Head head) = λ before aside same. same

chain_keeps : (r : ℕ → ℕ) (rules : List PortRule) (n : ℕ) (frame : Frame) (w : Walk) → Keeps r w.events (chain rules n frame w).events
unfolding chain
chain_keeps r rules zero frame w = rest_keeps r w.tree w.events w.todo
chain_keeps r rules (suc n) frame w = λ before aside same.
    step_keeps r rules frame w.tree w.events w.todo before aside (chain_keeps r rules n frame (step rules frame w) before aside same)

-- ---- on the way

-- all that a way reads of events, by other numbers in the other past
pub record AreOn (r : ℕ → ℕ) (before aside es others : List Event) : Type 0 where
  pub fragments : (head : FragmentHead) → of_key head (fragments_of aside) ≡ map (fragment_renumbered r) (of_key head (fragments_of before))
      → of_key head (fragments_of others) ≡ map (fragment_renumbered r) (of_key head (fragments_of es))
  pub tcp : segments_of es ≡ segments_of before
  pub other_tcp : segments_of others ≡ segments_of aside
  pub own : newest_events others ≡ map (event_renumbered r) (newest_events es)

begun : (r : ℕ → ℕ) (before aside : List Event) → AreOn r before aside (NewFrame ∷ before) (NewFrame ∷ aside)
unfolding fragments_of segments_of
begun r before aside = record { fragments = λ head same. same; tcp = refl; other_tcp = refl; own = refl }

one_more : (r : ℕ → ℕ) (test : Bool) (f : Fragment) (fs gs : List Fragment) → gs ≡ map (fragment_renumbered r) fs
    → cond test (fragment_renumbered r f ∷ gs) gs ≡ map (fragment_renumbered r) (cond test (f ∷ fs) fs)
one_more r true f fs gs same = ap (λ (hs : List Fragment). fragment_renumbered r f ∷ hs) same
one_more r false f fs gs same = same

with_piece : (r : ℕ → ℕ) (before aside es others : List Event) (frame : ℕ) (head : FragmentHead) (bytes : List ℕ) → AreOn r before aside es others
    → AreOn r before aside (Piece frame head bytes ∷ es) (Piece (r frame) head bytes ∷ others)
unfolding fragments_of segments_of
with_piece r before aside es others frame head bytes on = record {
  fragments = λ key same. one_more r (same_key head key) (fragment_from frame head bytes) (of_key key (fragments_of es)) (of_key key (fragments_of others)) (on.fragments key same);
  tcp = on.tcp;
  other_tcp = on.other_tcp;
  own = ap (λ (own : List Event). Piece (r frame) head bytes ∷ own) on.own;
}

-- so where the way goes on; the trees are the same, without the items that number
pub record GoesOn (r : ℕ → ℕ) (wanted : List ℕ) (before aside : List Event) (t u : TreeShown) (es others : List Event) : Type 0 where
  pub tree : t ≡ u
  pub wanted_is : t.wanted ≡ wanted
  pub events : AreOn r before aside es others

abbrev pub OnWhere : (ℕ → ℕ) → List ℕ → List Event → List Event → Todo → TreeShown → TreeShown → List Event → List Event → Type 0
OnWhere r wanted before aside todos.Done t u es others = Unit {0}
OnWhere r wanted before aside (todos.Head head) t u es others = GoesOn r wanted before aside t u es others

on_where : (r : ℕ → ℕ) (wanted : List ℕ) (before aside : List Event) (todo : Todo) (t u : TreeShown) (es others : List Event) → GoesOn r wanted before aside t u es others → OnWhere r wanted before aside todo t u es others
on_where r wanted before aside todos.Done t u es others on = tt
on_where r wanted before aside (todos.Head head) t u es others on = on

pub record IsSame (r : ℕ → ℕ) (wanted : List ℕ) (before aside : List Event) (v w : Walk) : Type 0 where
  pub todo : v.todo ≡ w.todo
  pub own : newest_events w.events ≡ map (event_renumbered r) (newest_events v.events)
  pub tree : HaveSameConversations r (newest_events v.events) before aside → v.tree ≡ w.tree
  pub on : OnWhere r wanted before aside v.todo v.tree w.tree v.events w.events

still : (r : ℕ → ℕ) (wanted : List ℕ) (before aside : List Event) (t u : TreeShown) (es others : List Event) (todo : Todo) → GoesOn r wanted before aside t u es others
    → IsSame r wanted before aside (going t es todo) (going u others todo)
still r wanted before aside t u es others todo on = record {
  todo = refl;
  own = on.events.own;
  tree = λ conversations. on.tree;
  on = on_where r wanted before aside todo t u es others on;
}

ended : (r : ℕ → ℕ) (wanted : List ℕ) (before aside : List Event) (t : TreeShown) (es others : List Event) → AreOn r before aside es others
    → IsSame r wanted before aside (stop t es) (stop t others)
ended r wanted before aside t es others on = record { todo = refl; own = on.own; tree = λ conversations. refl; on = tt }

-- ---- fragments

joined_same : (r : ℕ → ℕ) (wanted : List ℕ) (before aside : List Event) (joined : Joined) (t : TreeShown) (es others : List Event) (head : FragmentHead) (span : Span) → HasNoNumbering wanted → t.wanted ≡ wanted
    → AreOn r before aside es others
    → IsSame r wanted before aside (joined_met joined t es head span) (joined_met (answer_renumbered r joined) t others head span)
unfolding joined_met
joined_same r wanted before aside Pending t es others head span none is on = ended r wanted before aside _ es others on
joined_same r wanted before aside (Conflict kind) t es others head span none is on = ended r wanted before aside _ es others on
joined_same r wanted before aside (Whole datagram) t es others head span none is on =
    still r wanted before aside _ _ es others (joined_todo t head datagram)
    (record { tree = joined_skipped wanted t head.six datagram _ none is refl; wanted_is = joined_wanted wanted t head.six datagram none is; events = on })

numbers_stay : (ns : List ℕ) → map (λ (n : ℕ). n) ns ≡ ns
numbers_stay [] = refl
numbers_stay (n ∷ ns) = ap (λ (ms : List ℕ). n ∷ ms) (numbers_stay ns)

fragments_stay : (fs : List Fragment) → map (fragment_renumbered (λ n. n)) fs ≡ fs
fragments_stay [] = refl
fragments_stay (f ∷ fs) = ap (λ (gs : List Fragment). f ∷ gs) (fragments_stay fs)

answer_stays : (joined : Joined) → answer_renumbered (λ n. n) joined ≡ joined
answer_stays Pending = refl
answer_stays (Whole datagram) = ap (λ (frames : List ℕ). Whole (record { next = datagram.next; bytes = datagram.bytes; frames = frames })) (numbers_stay datagram.frames)
answer_stays (Conflict kind) = refl

answer_same : (r : ℕ → ℕ) (past others : List Fragment) (frame : ℕ) (head : FragmentHead) (bytes : List ℕ) → of_key head others ≡ map (fragment_renumbered r) (of_key head past)
    → answer_renumbered r (joined_by past (fragment_from frame head bytes)) ≡ joined_by others (fragment_from (r frame) head bytes)
answer_same r past others frame head bytes same =
    joined_by-renumbered r (λ n. n) past others (fragment_from frame head bytes) (fragment_from (r frame) head bytes) refl refl (sym same ∙ sym (fragments_stay (of_key head others)))
    ∙ answer_stays (joined_by others (fragment_from (r frame) head bytes))

fragment_same : (r : ℕ → ℕ) (wanted : List ℕ) (before aside : List Event) (whole : Bool) (t : TreeShown) (es others : List Event) (frame : ℕ) (head : FragmentHead) (span : Span) → HasNoNumbering wanted → t.wanted ≡ wanted
    → AreOn r before aside es others → HaveSameFragments r (newest_events (fragment_by whole t es frame head span).events) before aside
    → IsSame r wanted before aside (fragment_by whole t es frame head span) (fragment_by whole t others (r frame) head span)
fragment_same r wanted before aside true t es others frame head span none is on same =
    let bytes : List ℕ = bytes_of t.buffers span in
    let f : Fragment = fragment_from frame head bytes in
    let fragments : of_key head (fragments_of others) ≡ map (fragment_renumbered r) (of_key head (fragments_of es)) =
    on.fragments head (piece_told r (joined_by (fragments_of es) f) t es frame head bytes span before aside same).0 in
    subst (λ (j : Joined). IsSame r wanted before aside (joined_met (joined_by (fragments_of es) f) t (Piece frame head bytes ∷ es) head span) (joined_met j t (Piece (r frame) head bytes ∷ others) head span))
    (answer_same r (fragments_of es) (fragments_of others) frame head bytes fragments)
    (joined_same r wanted before aside (joined_by (fragments_of es) f) t (Piece frame head bytes ∷ es) (Piece (r frame) head bytes ∷ others) head span none is
    (with_piece r before aside es others frame head bytes on))
fragment_same r wanted before aside false t es others frame head span none is on same = ended r wanted before aside _ es others on

-- ---- packets of conversations

datagram_same : (r : ℕ → ℕ) (wanted : List ℕ) (rules : List PortRule) (before aside : List Event) (frame : Frame) (packet : PacketHead) (t : TreeShown) (es others : List Event) (head : PortsHead) (span : Span) → HasNoNumbering wanted → t.wanted ≡ wanted
    → AreOn r before aside es others
    → IsSame r wanted before aside (datagram_met rules frame packet t es head span) (datagram_met rules (frame_renumbered r frame) packet t others head span)
unfolding datagram_met
datagram_same r wanted rules before aside frame packet t es others head span none is on = record {
  todo = refl;
  own = ap (λ (own : List Event). Udp (r frame.number) packet head (bytes_of t.buffers span) ∷ own) on.own;
  tree = λ conversations. ap (λ (u : TreeShown). payload_over (udp_app rules head.source head.target) u (is_cut frame) span)
      (datagram_skipped wanted t (udp_stream es packet head) (udp_stream others packet head) span none is);
  on = tt;
}

one_same : (r : ℕ → ℕ) (s : Segment) → IsSameButFrame s (renumbered r s)
one_same r s = record { from = refl; to = refl; seq = refl; ack = refl; syn = refl; acked = refl; payload = refl }

all_same_but : (r : ℕ → ℕ) (ss : List Segment) → AreSameSegments ss (map (renumbered r) ss)
all_same_but r [] = tt
all_same_but r (s ∷ ss) = (one_same r s, all_same_but r ss)

taken_same : (r : ℕ → ℕ) (past others : List Segment) (s : Segment) → HaveSameConversation r s past others → IsSameTaken (taken_after past s) (taken_after others (renumbered r s))
taken_same r past others s same =
    (is_isolated s past others (subst (AreSameSegments (between s past)) (sym same.segments) (all_same_but r (between s past)))).told (renumbered r s) (one_same r s)

shown_same : (r : ℕ → ℕ) (framer : Option Framer) (past others : List Segment) (s : Segment) → HaveSameConversation r s past others
    → shown_after framer others (renumbered r s) ≡ map (shown_renumbered r) (shown_after framer past s)
shown_same r framer past others s same = (stands_alone r framer past others s same.order same.segments).messages

segment_tree : (r : ℕ → ℕ) (wanted : List ℕ) (rules : List PortRule) (cut : Bool) (t : TreeShown) (past others : List Segment) (s : Segment) (span : Span) → HasNoNumbering wanted → t.wanted ≡ wanted
    → HaveSameConversation r s past others
    → carried_over (app_of_segment rules s) cut span (segment_told t (taken_after past s) span) (shown_after (framer_of_segment rules s) past s)
    ≡ carried_over (app_of_segment rules s) cut span (segment_told t (taken_after others (renumbered r s)) span) (shown_after (framer_of_segment rules s) others (renumbered r s))
segment_tree r wanted rules cut t past others s span none is same =
    segment_told_same wanted r (app_of_segment rules s) cut span t (taken_after past s) (taken_after others (renumbered r s)) (shown_after (framer_of_segment rules s) past s) none is (taken_same r past others s same)
    ∙ ap (carried_over (app_of_segment rules s) cut span (segment_told t (taken_after others (renumbered r s)) span)) (sym (shown_same r (framer_of_segment rules s) past others s same))

segment_same : (r : ℕ → ℕ) (wanted : List ℕ) (rules : List PortRule) (before aside : List Event) (frame : Frame) (packet : PacketHead) (t : TreeShown) (es others : List Event) (head : TcpHead) (span : Span) → HasNoNumbering wanted → t.wanted ≡ wanted
    → AreOn r before aside es others
    → IsSame r wanted before aside (segment_met rules frame packet t es head span) (segment_met rules (frame_renumbered r frame) packet t others head span)
unfolding segment_met
segment_same r wanted rules before aside frame packet t es others head span none is on =
    let s : Segment = segment_from frame.number packet head (bytes_of t.buffers span) in
    record {
      todo = refl;
      own = ap (λ (own : List Event). Tcp (r frame.number) packet head (bytes_of t.buffers span) ∷ own) on.own;
      tree = λ conversations.
          segment_tree r wanted rules (is_cut frame) t (segments_of es) (segments_of others) s span none is
          (subst (λ (past : List Segment). HaveSameConversation r s past (segments_of others)) (sym on.tcp)
          (subst (λ (past : List Segment). HaveSameConversation r s (segments_of before) past) (sym on.other_tcp) conversations.0));
      on = tt;
    }

-- ---- one header

-- a way and the same way by the other past
abbrev pub SameBy : (ℕ → ℕ) → List ℕ → List Event → List Event → Walk → Walk → Type 0
SameBy r wanted before aside v w = HaveSameFragments r (newest_events v.events) before aside → IsSame r wanted before aside v w

followed_same : (r : ℕ → ℕ) (wanted : List ℕ) (rules : List PortRule) (before aside : List Event) (frame : Frame) (packet : PacketHead) (mode : Mode) (t : TreeShown) (es others : List Event) (after : After) → HasNoNumbering wanted → t.wanted ≡ wanted
    → AreOn r before aside es others
    → SameBy r wanted before aside (followed rules frame packet mode t es after) (followed rules (frame_renumbered r frame) packet mode t others after)
unfolding followed fragment_met
followed_same r wanted rules before aside frame packet mode t es others (afters.Next which span) none is on = λ same. still r wanted before aside t t es others _ (record { tree = refl; wanted_is = is; events = on })
followed_same r wanted rules before aside frame packet mode t es others (afters.Packet which span inner) none is on = λ same. still r wanted before aside t t es others _ (record { tree = refl; wanted_is = is; events = on })
followed_same r wanted rules before aside frame packet mode t es others (afters.Fragment head span) none is on = fragment_same r wanted before aside head.whole t es others frame.number head span none is on
followed_same r wanted rules before aside frame packet mode t es others (afters.Datagram head span) none is on = λ same. datagram_same r wanted rules before aside frame packet t es others head span none is on
followed_same r wanted rules before aside frame packet mode t es others (afters.Segment head span) none is on = λ same. segment_same r wanted rules before aside frame packet t es others head span none is on
followed_same r wanted rules before aside frame packet mode t es others afters.End none is on = λ same. ended r wanted before aside t es others on

head_same : (r : ℕ → ℕ) (wanted : List ℕ) (rules : List PortRule) (before aside : List Event) (which : Next) (frame : Frame) (head : Head) (t : TreeShown) (es others : List Event) → HasNoNumbering wanted → t.wanted ≡ wanted
    → AreOn r before aside es others
    → SameBy r wanted before aside (head_by rules which frame head t es) (head_by rules which (frame_renumbered r frame) head t others)
unfolding head_by
head_same r wanted rules before aside nexts.Ip4 frame head t es others none is on = followed_same r wanted rules before aside frame _ _ _ es others _ none (layer_wanted t _ _ _ _ _ ∙ is) on
head_same r wanted rules before aside nexts.Ip6 frame head t es others none is on = followed_same r wanted rules before aside frame _ _ _ es others _ none (layer_wanted t _ _ _ _ _ ∙ is) on
head_same r wanted rules before aside nexts.Arp frame head t es others none is on = followed_same r wanted rules before aside frame _ _ _ es others _ none (layer_wanted t _ _ _ _ _ ∙ is) on
head_same r wanted rules before aside nexts.Vlan frame head t es others none is on = followed_same r wanted rules before aside frame _ _ _ es others _ none (layer_wanted t _ _ _ _ _ ∙ is) on
head_same r wanted rules before aside nexts.Icmp frame head t es others none is on = followed_same r wanted rules before aside frame _ _ _ es others _ none (layer_wanted t _ _ _ _ _ ∙ is) on
head_same r wanted rules before aside nexts.Icmp6 frame head t es others none is on = followed_same r wanted rules before aside frame _ _ _ es others _ none (layer_wanted t _ _ _ _ _ ∙ is) on
head_same r wanted rules before aside nexts.Udp frame head t es others none is on = followed_same r wanted rules before aside frame _ _ _ es others _ none (layer_wanted t _ _ _ _ _ ∙ is) on
head_same r wanted rules before aside nexts.Tcp frame head t es others none is on = followed_same r wanted rules before aside frame _ _ _ es others _ none (layer_wanted t _ _ _ _ _ ∙ is) on
head_same r wanted rules before aside nexts.HopOpts frame head t es others none is on = followed_same r wanted rules before aside frame _ _ _ es others _ none (layer_wanted t _ _ _ _ _ ∙ is) on
head_same r wanted rules before aside nexts.Routing frame head t es others none is on = followed_same r wanted rules before aside frame _ _ _ es others _ none (layer_wanted t _ _ _ _ _ ∙ is) on
head_same r wanted rules before aside nexts.DstOpts frame head t es others none is on = followed_same r wanted rules before aside frame _ _ _ es others _ none (layer_wanted t _ _ _ _ _ ∙ is) on
head_same r wanted rules before aside nexts.FragHdr frame head t es others none is on = followed_same r wanted rules before aside frame _ _ _ es others _ none (layer_wanted t _ _ _ _ _ ∙ is) on
head_same r wanted rules before aside (nexts.Neigh kind) frame head t es others none is on = followed_same r wanted rules before aside frame _ _ _ es others _ none (layer_wanted t _ _ _ _ _ ∙ is) on
head_same r wanted rules before aside nexts.Igmp frame head t es others none is on = followed_same r wanted rules before aside frame _ _ _ es others _ none (layer_wanted t _ _ _ _ _ ∙ is) on
head_same r wanted rules before aside nexts.Rest frame head t es others none is on = λ same. ended r wanted before aside _ es others on

-- ---- all headers

chain_same : (r : ℕ → ℕ) (wanted : List ℕ) (rules : List PortRule) (before aside : List Event) (n : ℕ) (frame : Frame) (t u : TreeShown) (es others : List Event) (todo : Todo) → HasNoNumbering wanted
    → IsSame r wanted before aside (going t es todo) (going u others todo)
    → SameBy r wanted before aside (chain rules n frame (going t es todo)) (chain rules n (frame_renumbered r frame) (going u others todo))
unfolding chain
chain_same r wanted rules before aside zero frame t u es others todos.Done none is = λ same. is
chain_same r wanted rules before aside zero frame t u es others (todos.Head head) none is = λ same.
    record { todo = refl; own = is.own; tree = λ conversations. ap (λ (x : TreeShown). (rest_met x es head.span).tree) is.on.tree; on = tt }
chain_same r wanted rules before aside (suc n) frame t u es others todos.Done none is = chain_same r wanted rules before aside n frame t u es others todos.Done none is
chain_same r wanted rules before aside (suc n) frame t u es others (todos.Head head) none is = λ same.
    let v : Walk = head_by rules head.which frame head t es in
    let w : Walk = head_by rules head.which (frame_renumbered r frame) head u others in
    let next : IsSame r wanted before aside v w =
    subst (λ (x : TreeShown). IsSame r wanted before aside v (head_by rules head.which (frame_renumbered r frame) head x others)) is.on.tree
    (head_same r wanted rules before aside head.which frame head t es others none is.on.wanted_is is.on.events (chain_keeps r rules n frame v before aside same)) in
    subst (λ (todo : Todo). IsSame r wanted before aside (chain rules n frame v) (chain rules n (frame_renumbered r frame) (going w.tree w.events todo))) next.todo
    (chain_same r wanted rules before aside n frame v.tree w.tree v.events w.events v.todo none (record { todo = refl; own = next.own; tree = next.tree; on = next.on }) same)

done_stays : (rules : List PortRule) (n : ℕ) (frame : Frame) (t : TreeShown) (es : List Event) → chain rules n frame (stop t es) ≡ stop t es
unfolding chain
done_stays rules zero frame t es = refl
done_stays rules (suc n) frame t es = done_stays rules n frame t es

all_same : (r : ℕ → ℕ) (wanted : List ℕ) (rules : List PortRule) (before aside : List Event) (frame : Frame) (t u : TreeShown) (es others : List Event) (todo : Todo) → HasNoNumbering wanted
    → IsSame r wanted before aside (going t es todo) (going u others todo)
    → SameBy r wanted before aside (all_met rules frame (going t es todo)) (all_met rules (frame_renumbered r frame) (going u others todo))
unfolding all_met
all_same r wanted rules before aside frame t u es others todos.Done none is = λ same.
    subst (λ (x : Walk). IsSame r wanted before aside x (chain rules (layers_left u) (frame_renumbered r frame) (stop u others))) (sym (done_stays rules (layers_left t) frame t es))
    (subst (IsSame r wanted before aside (stop t es)) (sym (done_stays rules (layers_left u) (frame_renumbered r frame) u others)) is)
all_same r wanted rules before aside frame t u es others (todos.Head head) none is = λ same.
    subst (λ (x : TreeShown). IsSame r wanted before aside (chain rules (layers_left t) frame (going t es (todos.Head head))) (chain rules (layers_left x) (frame_renumbered r frame) (going u others (todos.Head head)))) is.on.tree
    (chain_same r wanted rules before aside (layers_left t) frame t u es others (todos.Head head) none is same)

all_by : (r : ℕ → ℕ) (wanted : List ℕ) (rules : List PortRule) (before aside : List Event) (frame : Frame) (v w : Walk) → HasNoNumbering wanted → SameBy r wanted before aside v w
    → SameBy r wanted before aside (all_met rules frame v) (all_met rules (frame_renumbered r frame) w)
unfolding all_met
all_by r wanted rules before aside frame v w none by = λ same.
    let is : IsSame r wanted before aside v w = by (chain_keeps r rules (layers_left v.tree) frame v before aside same) in
    subst (λ (todo : Todo). IsSame r wanted before aside (all_met rules frame v) (all_met rules (frame_renumbered r frame) (going w.tree w.events todo))) is.todo
    (all_same r wanted rules before aside frame v.tree w.tree v.events w.events v.todo none (record { todo = refl; own = is.own; tree = is.tree; on = is.on }) same)

if_same : (r : ℕ → ℕ) (wanted : List ℕ) (before aside : List Event) (test : Bool) (one two v w : Walk) → SameBy r wanted before aside one two → SameBy r wanted before aside v w
    → SameBy r wanted before aside (if test then one else v) (if test then two else w)
if_same r wanted before aside true one two v w first rest = first
if_same r wanted before aside false one two v w first rest = rest

link_same : (r : ℕ → ℕ) (wanted : List ℕ) (rules : List PortRule) (times later : Times) (before aside : List Event) (frame : Frame) → HasNoNumbering wanted
    → SameBy r wanted before aside (link_met rules frame (kept_frame wanted times frame) (NewFrame ∷ before)) (link_met rules (frame_renumbered r frame) (kept_frame wanted later (frame_renumbered r frame)) (NewFrame ∷ aside))
unfolding link_met
link_same r wanted rules times later before aside frame none =
    let on : AreOn r before aside (NewFrame ∷ before) (NewFrame ∷ aside) = begun r before aside in
    let t : TreeShown = kept_frame wanted times frame in
    subst (λ (x : TreeShown). SameBy r wanted before aside (link_met rules frame t (NewFrame ∷ before)) (link_met rules (frame_renumbered r frame) x (NewFrame ∷ aside))) (frame_same wanted times later r frame none)
    (if_same r wanted before aside (length frame.bytes == 0) (stop t (NewFrame ∷ before)) (stop t (NewFrame ∷ aside)) _ _
    (λ same. ended r wanted before aside t (NewFrame ∷ before) (NewFrame ∷ aside) on)
    (followed_same r wanted rules before aside frame _ PlainMode _ (NewFrame ∷ before) (NewFrame ∷ aside) _ none
    (link_wanted wanted frame.link frame.little (frame_tree times frame) t (frame_span frame) (is_cut frame) (frame_kept wanted times frame)) on))

pub walk_same : (r : ℕ → ℕ) (wanted : List ℕ) (rules : List PortRule) (times later : Times) (before aside : List Event) (frame : Frame) → HasNoNumbering wanted
    → SameBy r wanted before aside (kept_walk rules wanted times before frame) (kept_walk rules wanted later aside (frame_renumbered r frame))
unfolding kept_walk
walk_same r wanted rules times later before aside frame none =
    all_by r wanted rules before aside frame (link_met rules frame (kept_frame wanted times frame) (NewFrame ∷ before)) (link_met rules (frame_renumbered r frame) (kept_frame wanted later (frame_renumbered r frame)) (NewFrame ∷ aside)) none
    (link_same r wanted rules times later before aside frame none)
