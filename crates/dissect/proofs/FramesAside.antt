-- A frame before that shares nothing with what a frame brings changes nothing of how it is read.
use Rattle.std.proofs.Common.{◌≡◌, ◌==◌, ℕ, zero, suc, Bool, true, false, if◌then◌else◌, List, [], ◌∷◌, ◌++◌, length, refl, sym, ap, ◌∙◌, subst}
use Rattle.pk_base.specs.declared.span.Span.{Span}
use Rattle.pk_base.specs.declared.heads.After.{After}
use Rattle.pk_base.specs.declared.heads.After.TheVariants as afters
use Rattle.pk_base.specs.declared.heads.FragmentHead.{FragmentHead}
use Rattle.pk_base.specs.declared.heads.Mode.{Mode}
use Rattle.pk_base.specs.declared.heads.Mode.TheVariants.{Plain as PlainMode}
use Rattle.pk_base.specs.declared.heads.Next.{Next}
use Rattle.pk_base.specs.declared.heads.Next.TheVariants as nexts
use Rattle.pk_base.specs.declared.heads.PacketHead.{PacketHead}
use Rattle.pk_tree.specs.Buffers.{bytes_of}
use Rattle.pk_tree.specs.Trees.{TreeShown}
use Rattle.pk_fields.specs.declared.rules.PortRule.{PortRule}
use Rattle.capture_read.specs.declared.frame.Frame.{Frame}
use Rattle.ip_join.specs.Stands.{joined_by}
use Rattle.ip_join.specs.declared.fragment.Fragment.{Fragment}
use Rattle.tcp_streams.specs.declared.segment.Segment.{Segment}
use Rattle.app_layers.specs.declared.times.Times.{Times}
use Rattle.app_layers.specs.FrameLayer.{frame_tree}
use Rattle.dissect.specs.declared.todo.Head.{Head}
use Rattle.dissect.specs.declared.todo.Todo.{Todo}
use Rattle.dissect.specs.declared.todo.Todo.TheVariants as todos
use Rattle.dissect.specs.Events.{Event, NewFrame, Piece, Udp, Tcp}
use Rattle.dissect.specs.Fragments.{fragment_from, fragments_of}
use Rattle.dissect.specs.Isolation.{AreAlikeFor, HaveSameNumbers, OtherFrameLeftOut, ShareNothing, brought, newest_events}
use Rattle.dissect.specs.Segments.{segment_from, segments_of}
use Rattle.dissect.specs.Trees.{events_of, times_of, walk_of}
use Rattle.dissect.specs.Walks.{Walk, all_met, chain, datagram_met, followed, fragment_by, fragment_met, head_by, layers_left, link_met, rest_on, segment_met, step, step_on, stop}
use Rattle.dissect.proofs.Isolating.{IsSame, joined_events, walk_same}
use Rattle.dissect.proofs.LeftOut.{mine, mine_joined, pieces, pieces_joined}

-- ---- a frame's events stand in front of those before it

abbrev Stands : List Event → List Event → Type 0
Stands before es = es ≡ newest_events es ++ (NewFrame ∷ before)

abbrev Stays : List Event → List Event → Type 0
Stays es more = (before : List Event) → Stands before es → Stands before more

fragment_stays : (whole : Bool) (t : TreeShown) (es : List Event) (frame : ℕ) (head : FragmentHead) (span : Span) → Stays es (fragment_by whole t es frame head span).events
fragment_stays true t es frame head span = λ before stands.
    let bytes : List ℕ = bytes_of t.buffers span in
    subst (λ (x : List Event). Stands before x) (sym (joined_events (joined_by (fragments_of es) (fragment_from frame head bytes)) t (Piece frame head bytes ∷ es) head span))
    (ap (λ (x : List Event). Piece frame head bytes ∷ x) stands)
fragment_stays false t es frame head span = λ before stands. stands

followed_stays : (rules : List PortRule) (frame : Frame) (packet : PacketHead) (mode : Mode) (t : TreeShown) (es : List Event) (after : After)
    → Stays es (followed rules frame packet mode t es after).events
unfolding followed fragment_met datagram_met segment_met
followed_stays rules frame packet mode t es (afters.Next which span) = λ before stands. stands
followed_stays rules frame packet mode t es (afters.Packet which span inner) = λ before stands. stands
followed_stays rules frame packet mode t es (afters.Fragment head span) = fragment_stays head.whole t es frame.number head span
followed_stays rules frame packet mode t es (afters.Datagram head span) = λ before stands. ap (λ (x : List Event). Udp frame.number packet head (bytes_of t.buffers span) ∷ x) stands
followed_stays rules frame packet mode t es (afters.Segment head span) = λ before stands. ap (λ (x : List Event). Tcp frame.number packet head (bytes_of t.buffers span) ∷ x) stands
followed_stays rules frame packet mode t es afters.End = λ before stands. stands

head_stays : (rules : List PortRule) (which : Next) (frame : Frame) (head : Head) (t : TreeShown) (es : List Event) → Stays es (head_by rules which frame head t es).events
unfolding head_by
head_stays rules nexts.Ip4 frame head t es = followed_stays rules frame _ _ _ es _
head_stays rules nexts.Ip6 frame head t es = followed_stays rules frame _ _ _ es _
head_stays rules nexts.Arp frame head t es = followed_stays rules frame _ _ _ es _
head_stays rules nexts.Vlan frame head t es = followed_stays rules frame _ _ _ es _
head_stays rules nexts.Icmp frame head t es = followed_stays rules frame _ _ _ es _
head_stays rules nexts.Icmp6 frame head t es = followed_stays rules frame _ _ _ es _
head_stays rules nexts.Udp frame head t es = followed_stays rules frame _ _ _ es _
head_stays rules nexts.Tcp frame head t es = followed_stays rules frame _ _ _ es _
head_stays rules nexts.HopOpts frame head t es = followed_stays rules frame _ _ _ es _
head_stays rules nexts.Routing frame head t es = followed_stays rules frame _ _ _ es _
head_stays rules nexts.DstOpts frame head t es = followed_stays rules frame _ _ _ es _
head_stays rules nexts.FragHdr frame head t es = followed_stays rules frame _ _ _ es _
head_stays rules (nexts.Neigh kind) frame head t es = followed_stays rules frame _ _ _ es _
head_stays rules nexts.Igmp frame head t es = followed_stays rules frame _ _ _ es _
head_stays rules nexts.Rest frame head t es = λ before stands. stands

step_stays : (rules : List PortRule) (frame : Frame) (t : TreeShown) (es : List Event) (todo : Todo) → Stays es (step_on rules frame t es todo).events
step_stays rules frame t es todos.Done = λ before stands. stands
step_stays rules frame t es (todos.Head head) = head_stays rules head.which frame head t es

rest_stays : (t : TreeShown) (es : List Event) (todo : Todo) → Stays es (rest_on t es todo).events
rest_stays t es todos.Done = λ before stands. stands
rest_stays t es (todos.Head head) = λ before stands. stands

chain_stays : (rules : List PortRule) (n : ℕ) (frame : Frame) (w : Walk) → Stays w.events (chain rules n frame w).events
unfolding chain
chain_stays rules zero frame w = rest_stays w.tree w.events w.todo
chain_stays rules (suc n) frame w = λ before stands.
    chain_stays rules n frame (step rules frame w) before (step_stays rules frame w.tree w.events w.todo before stands)

all_stays : (rules : List PortRule) (frame : Frame) (w : Walk) → Stays w.events (all_met rules frame w).events
unfolding all_met
all_stays rules frame w = chain_stays rules (layers_left w.tree) frame w

if_stays : (test : Bool) (es : List Event) (one v : Walk) → Stays es one.events → Stays es v.events → Stays es (if test then one else v).events
if_stays true es one v first rest = first
if_stays false es one v first rest = rest

link_stays : (rules : List PortRule) (frame : Frame) (t : TreeShown) (es : List Event) → Stays es (link_met rules frame t es).events
unfolding link_met
link_stays rules frame t es =
    if_stays (length frame.bytes == 0) es (stop t es) _ (λ before stands. stands) (followed_stays rules frame _ PlainMode _ es _)

walk_stands : (rules : List PortRule) (times : Times) (es : List Event) (frame : Frame) → Stands es (walk_of rules times es frame).events
unfolding walk_of
walk_stands rules times es frame =
    all_stays rules frame (link_met rules frame (frame_tree times frame) (NewFrame ∷ es)) es (link_stays rules frame (frame_tree times frame) (NewFrame ∷ es) es refl)

pub frame_stands : (past : List Frame) (frame : Frame) → events_of (frame ∷ past) ≡ brought past frame ++ (NewFrame ∷ events_of past)
unfolding events_of
frame_stands past frame = walk_stands [] (times_of past) (events_of past) frame

-- ---- without that frame

pieces_begun : (head : FragmentHead) (es : List Event) → pieces head (NewFrame ∷ es) ≡ pieces head es
unfolding fragments_of
pieces_begun head es = refl

mine_begun : (s : Segment) (es : List Event) → mine s (NewFrame ∷ es) ≡ mine s es
unfolding segments_of
mine_begun s es = refl

alike_behind : (own theirs es more : List Event) → more ≡ theirs ++ (NewFrame ∷ es) → ShareNothing own theirs → HaveSameNumbers own more es → AreAlikeFor own more es
alike_behind [] theirs es more is none same = tt
alike_behind (NewFrame ∷ own) theirs es more is none same = alike_behind own theirs es more is none same
alike_behind (Piece frame head bytes ∷ own) theirs es more is none same = (
  ap (pieces head) is ∙ pieces_joined head theirs (NewFrame ∷ es) ∙ ap (λ (fs : List Fragment). fs ++ pieces head (NewFrame ∷ es)) none.0 ∙ pieces_begun head es,
  alike_behind own theirs es more is none.1 same,
)
alike_behind (Udp frame packet head bytes ∷ own) theirs es more is none same = (same.0, alike_behind own theirs es more is none same.1)
alike_behind (Tcp frame packet head bytes ∷ own) theirs es more is none same =
    let s : Segment = segment_from frame packet head bytes in (
      record {
        segments = ap (mine s) is ∙ mine_joined s theirs (NewFrame ∷ es) ∙ ap (λ (ss : List Segment). ss ++ mine s (NewFrame ∷ es)) none.0 ∙ mine_begun s es;
        number = same.0;
      },
      alike_behind own theirs es more is none.1 same.1,
    )

pub other_frame_left_out : OtherFrameLeftOut
other_frame_left_out rules times past other frame none same =
    let es : List Event = events_of (other ∷ past) in
    let is : IsSame rules es (events_of past) (walk_of rules times es frame) (walk_of rules times (events_of past) frame) =
    walk_same rules rules times es (events_of past) frame
    (alike_behind (newest_events (walk_of rules times es frame).events) (brought past other) (events_of past) es (frame_stands past other) none same) in
    record { tree = is.tree; brings = is.own }
