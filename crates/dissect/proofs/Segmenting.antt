-- A segment more: what is shown of it, and what is kept.
use Rattle.std.proofs.Common.{◌≡◌, true, true≢false, List, ◌∷◌, refl, sym, ◌∙◌, ap, subst}
use Rattle.pk_base.specs.declared.span.Span.{Span}
use Rattle.pk_tree.specs.Buffers.{bytes_of}
use Rattle.pk_base.specs.declared.heads.PacketHead.{PacketHead}
use Rattle.pk_base.specs.declared.heads.TcpHead.{TcpHead}
use Rattle.pk_tree.specs.Trees.{TreeShown}
use Rattle.tcp_streams.specs.declared.segment.Segment.{Segment}
use Rattle.tcp_streams.specs.declared.segment.Taken.{Taken}
use Rattle.tcp_streams.specs.Labels.{taken_after}
use Rattle.tcp_messages.specs.declared.met.ShownMessage.{ShownMessage}
use Rattle.tcp_messages.specs.Shown.{shown_after}
use Rattle.pk_fields.specs.declared.rules.PortRule.{PortRule}
use Rattle.capture_read.specs.declared.frame.Frame.{Frame}
use Rattle.dissect.specs.declared.state.State.{State}
use Rattle.dissect.specs.declared.todo.Todo.TheVariants as todos
use Rattle.dissect.specs.Events.{Event}
use Rattle.app_layers.specs.FrameLayer.{is_cut}
use Rattle.app_layers.specs.MessageLayers.{app_of_segment, application, carried_over, framer_of_segment, framing}
use Rattle.message_links.specs.Links.{links_of}
use Rattle.dissect.specs.Links.{newest_links}
use Rattle.message_links.specs.LinkTables.{LinksStandFor}
use Rattle.message_links.specs.Notes.{Noted, noted_on, shown_notes, tcp_direction}
use Rattle.dissect.specs.Notes.{noted, segment_notes}
use Rattle.app_layers.specs.Payloads.{segment_told}
use Rattle.dissect.specs.Segments.{segment_from, segments_of}
use Rattle.app_layers.specs.Aside.{LacksOnly}
use Rattle.app_layers.proofs.MessagesAside.{lacks_none}
use Rattle.app_layers.proofs.ToldHeads.{told_wanted}
use Rattle.app_layers.proofs.WantedMessages.{carried_over_wanted}
use Rattle.dissect.specs.declared.keeping.Keeping.{Keeping}
use Rattle.dissect.specs.Keeping.{FollowsEnough, followed_of, is_followed, keeps_all, tells_places}
use Rattle.dissect.proofs.AloneLemmas.{shown_same}
use Rattle.dissect.proofs.KeepingLemmas.{all_everything, between_followed, everything_enough, everything_of, more_followed, taken_unplaced}
use Rattle.dissect.proofs.Passing.{told_enough}
use Rattle.dissect.specs.Stands.{StandsAt, StreamsStand, IsLinked, IsWalked}
use Rattle.dissect.specs.Walks.{segment_met}
use Rattle.dissect.proofs.Joining.{stands-segment}

-- a segment that was taken, told and shown
pub record IsShown (rules : List PortRule) (frame : Frame) (packet : PacketHead) (head : TcpHead) (span : Span) (segment : Segment) (taken : Taken) (messages : List ShownMessage) (old new : State) (t u v : TreeShown) : Type 0 where
  pub segment_is : segment ≡ segment_from frame.number packet head (bytes_of t.buffers span)
  pub taken_in : is_followed old.keeps.follows (app_of_segment rules segment) ≡ true
  pub keeps : new.keeps ≡ old.keeps
  pub joins : new.joins ≡ old.joins
  pub udp : new.udp ≡ old.udp
  pub taken_is : (past : List Segment) → StreamsStand old.keeps.lets_go (framer_of_segment rules) past old.streams → taken ≡ taken_after past segment
  pub messages_is : (past : List Segment) → StreamsStand old.keeps.lets_go (framer_of_segment rules) past old.streams → messages ≡ shown_after (framer_of_segment rules segment) past segment
  pub kept : (past : List Segment) → StreamsStand old.keeps.lets_go (framer_of_segment rules) past old.streams → StreamsStand old.keeps.lets_go (framer_of_segment rules) (segment ∷ past) new.streams
  pub links : keeps_all old.keeps ≡ true → IsLinked frame.number (tcp_direction taken) (shown_notes (application (app_of_segment rules segment)) segment.payload messages) old new
  pub told : u ≡ segment_told t taken span
  pub shown : v ≡ carried_over (app_of_segment rules segment) (is_cut frame) span u messages

pub shown-walked : (rules : List PortRule) (frame : Frame) (packet : PacketHead) (head : TcpHead) (span : Span) (segment : Segment) (taken : Taken) (messages : List ShownMessage) (old new : State) (t u v : TreeShown)
    → IsShown rules frame packet head span segment taken messages old new t u v → (es : List Event) → StandsAt rules es old → IsWalked rules (segment_met rules frame packet t es head span) new v todos.Done
unfolding segment_met noted newest_links
shown-walked rules frame packet head span segment taken messages old new t u v is es stands =
    let segments = segments_of es in
    let follows = old.keeps.follows in
    let past = followed_of rules follows segments in
    let own = app_of_segment rules segment in
    let bytes = bytes_of t.buffers span in
    let cut = is_cut frame in
    let reads = stands.streams in
    let messages_are : messages ≡ shown_after (framing own) segments segment =
    is.messages_is past reads ∙ shown_same (framing own) past segments segment (between_followed rules follows segment segments is.taken_in) in
    let taken_is : taken ≡ taken_after past segment = is.taken_is past reads in
    let told = segment_told t (taken_after segments segment) span in
    let whole = carried_over own cut span told (shown_after (framing own) segments segment) in
    let shown : v ≡ carried_over own cut span (segment_told t (taken_after past segment) span) (shown_after (framing own) segments segment) =
    is.shown ∙ ap (λ (x : TreeShown). carried_over own cut span x messages) (is.told ∙ ap (λ (k : Taken). segment_told t k span) taken_is)
    ∙ ap (carried_over own cut span (segment_told t (taken_after past segment) span)) messages_are in
    let alike = λ (enough : FollowsEnough follows t.wanted).
    shown ∙ ap (λ (x : TreeShown). carried_over own cut span x (shown_after (framing own) segments segment)) (told_enough rules follows segments segment own t span is.taken_in enough) in
    let wanted : whole.wanted ≡ t.wanted = carried_over_wanted own cut span told (shown_after (framing own) segments segment) ∙ told_wanted t (taken_after segments segment) span in
    let was_all = λ (all : keeps_all new.keeps ≡ true). ap keeps_all (sym is.keeps) ∙ all in
    let ns = noted rules es in
    let taken_all = λ (all : keeps_all old.keeps ≡ true). taken_is ∙ ap (λ (ss : List Segment). taken_after ss segment) (everything_of rules follows segments (all_everything old.keeps all)) in
    let noted_is = λ (all : keeps_all old.keeps ≡ true).
    ap (λ (k : Taken). noted_on frame.number (tcp_direction k) (shown_notes (application own) segment.payload messages) ns) (taken_all all)
    ∙ ap (λ (ms : List ShownMessage). noted_on frame.number (tcp_direction (taken_after segments segment)) (shown_notes (application own) segment.payload ms) ns) messages_are in
    let linked_is = λ (all : keeps_all old.keeps ≡ true).
    ap (λ (k : Taken). links_of ns (tcp_direction k) (shown_notes (application own) segment.payload messages)) (taken_all all)
    ∙ ap (λ (ms : List ShownMessage). links_of ns (tcp_direction (taken_after segments segment)) (shown_notes (application own) segment.payload ms)) messages_are in
    let kept : StreamsStand old.keeps.lets_go (framer_of_segment rules) (followed_of rules follows (segment ∷ segments)) new.streams =
    subst (λ (ss : List Segment). StreamsStand old.keeps.lets_go (framer_of_segment rules) ss new.streams) (sym (more_followed rules follows segment segments is.taken_in)) (is.kept past reads) in
    let whole_is : whole ≡ (segment_met rules frame packet t es head span).tree =
    ap (λ (s : Segment). carried_over (app_of_segment rules s) cut span (segment_told t (taken_after segments s) span) (shown_after (framer_of_segment rules s) segments s)) is.segment_is in
    record {
      stands = stands-segment rules es frame.number packet head bytes old new stands is.joins is.udp is.keeps
          (λ places. absurd (true≢false (sym (ap (λ (keeps : Keeping). tells_places keeps.follows) (sym is.keeps) ∙ places) ∙ taken_unplaced follows own is.taken_in)))
          (subst (λ (keeps : Keeping). StreamsStand keeps.lets_go (framer_of_segment rules) (followed_of rules keeps.follows (segment_from frame.number packet head bytes ∷ segments)) new.streams) (sym is.keeps)
          (subst (λ (s : Segment). StreamsStand old.keeps.lets_go (framer_of_segment rules) (followed_of rules follows (s ∷ segments)) new.streams) is.segment_is kept))
          (λ all. subst (λ (noted_all : List Noted). LinksStandFor noted_all new.links)
          (noted_is (was_all all) ∙ ap (λ (s : Segment). noted_on frame.number (tcp_direction (taken_after segments s)) (segment_notes rules segments s) ns) is.segment_is)
          ((is.links (was_all all)).links ns (stands.links (was_all all))))
          (λ all. (is.links (was_all all)).found ns (stands.links (was_all all)) ∙ linked_is (was_all all)
          ∙ ap (λ (s : Segment). links_of ns (tcp_direction (taken_after segments s)) (segment_notes rules segments s)) is.segment_is);
      tree = record {
        wanted = ap (λ (x : TreeShown). x.wanted) shown ∙ carried_over_wanted own cut span (segment_told t (taken_after past segment) span) (shown_after (framing own) segments segment)
            ∙ told_wanted t (taken_after past segment) span ∙ sym wanted ∙ ap (λ (x : TreeShown). x.wanted) whole_is;
        same = λ all. alike (everything_enough follows t.wanted (all_everything old.keeps (was_all (all refl)))) ∙ whole_is;
        lacks = λ enough.
            let fields : (segment_met rules frame packet t es head span).tree.wanted ≡ t.wanted = ap (λ (x : TreeShown). x.wanted) (sym whole_is) ∙ wanted in
            subst (LacksOnly (segment_met rules frame packet t es head span).tree)
            (sym (alike (subst (FollowsEnough follows) fields (subst (λ (keeps : Keeping). FollowsEnough keeps.follows (segment_met rules frame packet t es head span).tree.wanted) is.keeps enough.streams)) ∙ whole_is))
            (lacks_none (segment_met rules frame packet t es head span).tree);
      };
      todo = refl;
    }
