-- A segment that is passed over: what is told of it where nothing of its stream is asked.
use Rattle.std.specs.Prelude.{IsSome}
use Rattle.std.proofs.Common.{◌≡◌, [], ◌∷◌, subst, ℕ, Bool, true, false, List, Option, Some, None, refl, sym, ◌∙◌, ap, true≢false}
use Rattle.pk_base.specs.declared.span.Span.{Span}
use Rattle.pk_tree.specs.Buffers.{bytes_of}
use Rattle.pk_fields.specs.FieldSets.{is_in}
use Rattle.pk_fields.specs.Ids.{TCP_STREAM, TCP_SEGMENT, TCP_SEQ, TCP_ACK, TCP_LOST}
use Rattle.pk_base.specs.declared.heads.PacketHead.{PacketHead}
use Rattle.pk_base.specs.declared.heads.TcpHead.{TcpHead}
use Rattle.pk_tree.specs.Trees.{TreeShown}
use Rattle.tcp_streams.specs.declared.segment.Taken.{Taken}
use Rattle.tcp_streams.specs.Gaps.{lost_bytes}
use Rattle.tcp_streams.specs.Labels.{taken_after}
use Rattle.app_layers.specs.declared.streamed.StreamApp.{StreamApp}
use Rattle.tcp_messages.specs.Shown.{shown_after}
use Rattle.pk_fields.specs.declared.rules.PortRule.{PortRule}
use Rattle.capture_read.specs.declared.frame.Frame.{Frame}
use Rattle.dissect.specs.declared.state.State.{State}
use Rattle.dissect.specs.declared.todo.Todo.TheVariants as todos
use Rattle.dissect.specs.Events.{Event}
use Rattle.dissect.specs.declared.keeping.Follows.{Follows}
use Rattle.dissect.specs.declared.keeping.Follows.TheVariants.{Nothing, Places, One, Applications, Everything}
use Rattle.dissect.specs.Carried.{is_free, place_of, segment_by, shown_by}
use Rattle.dissect.specs.Followed.{asks_messages, asks_streams}
use Rattle.dissect.specs.Keeping.{AsksNoPlaces, AsksOnly, FollowsEnough, followed_of, keeps_all, tells_places, is_followed, is_of}
use Rattle.app_layers.specs.Aside.{LacksOnly}
use Rattle.app_layers.specs.FrameLayer.{is_cut}
use Rattle.app_layers.specs.MessageLayers.{carried_over, framer_of_segment, framing, stream_app}
use Rattle.app_layers.specs.Rows.{framer_of, proto_of}
use Rattle.app_layers.proofs.RowLemmas.{proto_some}
use Rattle.tcp_streams.specs.declared.segment.Segment.{Segment}
use Rattle.app_layers.specs.Payloads.{with_lost, carried_told, place_told, segment_told}
use Rattle.dissect.specs.Segments.{segment_from, segments_of}
use Rattle.dissect.specs.Stands.{StandsAt, StreamsStand, IsWalked}
use Rattle.dissect.specs.Walks.{segment_met}
use Rattle.app_layers.proofs.ToldHeads.{carried_wanted, lost_unasked, place_unasked, told_wanted}
use Rattle.app_layers.proofs.WantedMessages.{carried_over_wanted}
use Rattle.dissect.proofs.Joining.{stands-segment, streams_stay}
use Rattle.app_layers.proofs.MessagesAside.{AsksNotCarried, carried_lacks, none_shown, shown_lacks}
use Rattle.stream_messages.specs.declared.framer.Framer.{Framer}
use Rattle.app_layers.proofs.StreamApps.{IsFramed, is_framed}
use Rattle.dissect.proofs.Tellings.{not_shown}
use Rattle.tcp_streams.specs.PlacesStanding.{PlacesStandFor}
use Rattle.tcp_streams.specs.declared.stream_places.StreamPlaces.{StreamPlaces}
use Rattle.dissect.specs.declared.keeping.Keeping.{Keeping}
use Rattle.dissect.proofs.Asked.{messages_unasked, no_messages, none_in, none_of}
use Rattle.dissect.proofs.KeepingLemmas.{all_everything, everything_of, everything_takes, passed_over, placed_enough, placed_passed}

-- what a segment shows where no message is shown
pub shown_free : (app : Option StreamApp) (cut : Bool) (span : Span) (t : TreeShown) → shown_by (is_free app) t span ≡ carried_over app cut span t []
unfolding carried_over
shown_free None cut span t = refl
shown_free (Some app) cut span t = refl

-- what is told of a segment whose place is told
pub told_placed : (t : TreeShown) (taken : Taken) (span : Span) → segment_by t (Some (place_of taken)) span ≡ segment_told t taken span
unfolding segment_told place_told
told_placed t taken span = refl

-- where no place in a stream is asked, a segment is told alike whatever it is to its stream
pub places_alike : (t : TreeShown) (taken : Taken) (span : Span) → AsksNoPlaces t.wanted → segment_told t taken span ≡ carried_told t span
unfolding segment_told
places_alike t taken span none =
    ap (λ (u : TreeShown). with_lost (carried_told u span) (lost_bytes taken.lost)) (place_unasked t taken none.stream none.seq none.ack)
    ∙ lost_unasked (carried_told t span) (lost_bytes taken.lost) (ap (λ (wanted : List ℕ). is_in wanted TCP_LOST) (carried_wanted t span) ∙ none.lost)

no_places : (wanted : List ℕ) → asks_streams wanted ≡ false → AsksNoPlaces wanted
unfolding asks_streams
no_places wanted unasked =
    let none = none_of (is_in wanted TCP_STREAM) (is_in wanted TCP_SEQ) (is_in wanted TCP_ACK) (is_in wanted TCP_LOST) (asks_messages wanted) unasked in
    record { stream = none.0; seq = none.1; ack = none.2; lost = none.3 }

-- ---- a segment that is taken, with the others of its conversation

pub told_enough : (rules : List PortRule) (follows : Follows) (segments : List Segment) (segment : Segment) (app : Option StreamApp) (t : TreeShown) (span : Span)
    → is_followed follows app ≡ true → FollowsEnough follows t.wanted
    → segment_told t (taken_after (followed_of rules follows segments) segment) span ≡ segment_told t (taken_after segments segment) span
told_enough rules Nothing segments segment app t span taken enough = absurd (true≢false (sym taken))
told_enough rules Places segments segment app t span taken enough = absurd (true≢false (sym taken))
told_enough rules (One only) segments segment app t span taken enough =
    places_alike t (taken_after (followed_of rules (One only) segments) segment) span enough.places ∙ sym (places_alike t (taken_after segments segment) span enough.places)
told_enough rules Applications segments segment app t span taken enough =
    places_alike t (taken_after (followed_of rules Applications segments) segment) span enough.places ∙ sym (places_alike t (taken_after segments segment) span enough.places)
told_enough rules Everything segments segment app t span taken enough =
    ap (λ (past : List Segment). segment_told t (taken_after past segment) span) (everything_of rules Everything segments refl)

-- ---- a segment that is passed over

-- nothing is asked of a segment's stream
record AsksNothingOf (app : Option StreamApp) (past : List Segment) (s : Segment) (wanted : List ℕ) : Type 0 where
  pub places : AsksNoPlaces wanted
  pub segment : is_in wanted TCP_SEGMENT ≡ false
  pub messages : AsksNotCarried app wanted (shown_after (framing app) past s)

is_some : (o : Option Framer) (framer : Framer) → o ≡ Some framer → IsSome o
is_some o framer is = subst IsSome (sym is) refl

no_others : (only : ℕ) (app : Option StreamApp) (past : List Segment) (s : Segment) (wanted : List ℕ) → IsFramed app → AsksOnly only wanted → is_of only app ≡ false → AsksNotCarried app wanted (shown_after (framing app) past s)
no_others only None past s wanted framed asks other = tt
no_others only (Some app) past s wanted framed asks other =
    not_shown app wanted past s framed (record {
      short = asks.short;
      malformed = asks.malformed;
      fields = none_in (proto_of app.app) wanted (proto_some app.app) (asks.others app.app (is_some (framer_of app.app) app.framer framed) other);
    })

nothing_asked : (follows : Follows) (app : Option StreamApp) (past : List Segment) (s : Segment) (wanted : List ℕ) → IsFramed app → FollowsEnough follows wanted → tells_places follows ≡ false → is_followed follows app ≡ false
    → AsksNothingOf app past s wanted
nothing_asked Nothing app past s wanted framed enough untold passed =
    let none = messages_unasked wanted enough in
    record { places = no_places wanted enough; segment = none.segment; messages = none_shown app wanted (shown_after (framing app) past s) none }
nothing_asked Places app past s wanted framed enough untold passed = absurd (true≢false untold)
nothing_asked (One only) app past s wanted framed enough untold passed =
    record { places = enough.places; segment = enough.segment; messages = no_others only app past s wanted framed enough passed }
nothing_asked Applications None past s wanted framed enough untold passed = record { places = enough.places; segment = enough.segment; messages = tt }
nothing_asked Applications (Some app) past s wanted framed enough untold passed = absurd (true≢false passed)
nothing_asked Everything app past s wanted framed enough untold passed = absurd (true≢false passed)

pub passed-walked : (rules : List PortRule) (frame : Frame) (packet : PacketHead) (head : TcpHead) (span : Span) (app : Option StreamApp) (state : State) (t v : TreeShown)
    → app ≡ stream_app rules head.source head.target → is_followed state.keeps.follows app ≡ false → tells_places state.keeps.follows ≡ false → v ≡ carried_over app (is_cut frame) span (carried_told t span) []
    → (es : List Event) → StandsAt rules es state → IsWalked rules (segment_met rules frame packet t es head span) state v todos.Done
unfolding segment_met
passed-walked rules frame packet head span app state t v app_is unfollowed untold shown es stands =
    let bytes = bytes_of t.buffers span in
    let cut = is_cut frame in
    let own = stream_app rules head.source head.target in
    let segment = segment_from frame.number packet head bytes in
    let past = segments_of es in
    let messages = shown_after (framing own) past segment in
    let told = segment_told t (taken_after past segment) span in
    let whole = carried_over own cut span told messages in
    let follows = state.keeps.follows in
    let wanted : whole.wanted ≡ t.wanted = carried_over_wanted own cut span told messages ∙ told_wanted t (taken_after past segment) span in
    let passed : v ≡ carried_over own cut span (carried_told t span) [] = shown ∙ ap (λ (a : Option StreamApp). carried_over a cut span (carried_told t span) []) app_is in
    let none : is_followed follows own ≡ false = ap (is_followed follows) (sym app_is) ∙ unfollowed in
    let not_all = λ (all : keeps_all state.keeps ≡ true). true≢false (sym (everything_takes follows own (all_everything state.keeps all)) ∙ none) in
    record {
      stands = stands-segment rules es frame.number packet head bytes state state stands refl refl refl
          (λ places. absurd (true≢false (sym places ∙ untold)))
          (subst (λ (ss : List Segment). StreamsStand state.keeps.lets_go (framer_of_segment rules) ss state.streams) (sym (passed_over rules follows segment past none)) stands.streams)
          (λ all. absurd (not_all all)) (λ all. absurd (not_all all));
      tree = record {
        wanted = ap (λ (u : TreeShown). u.wanted) passed ∙ carried_over_wanted own cut span (carried_told t span) [] ∙ carried_wanted t span ∙ sym wanted;
        same = λ all. absurd (not_all (all refl));
        lacks = λ enough.
            let nothing : AsksNothingOf own past segment t.wanted = nothing_asked follows own past segment t.wanted (is_framed rules head.source head.target) (subst (FollowsEnough follows) wanted enough.streams) untold none in
            let alike : told ≡ carried_told t span = places_alike t (taken_after past segment) span nothing.places in
            let asked : told.wanted ≡ t.wanted = told_wanted t (taken_after past segment) span in
            subst (λ (u : TreeShown). LacksOnly whole u) (sym (passed ∙ ap (λ (u : TreeShown). carried_over own cut span u []) (sym alike)))
            (shown_lacks own cut span told messages (ap (λ (fields : List ℕ). is_in fields TCP_SEGMENT) asked ∙ nothing.segment)
            (subst (λ (fields : List ℕ). AsksNotCarried own fields messages) (sym asked) nothing.messages));
      };
      todo = refl;
    }

-- ---- a segment of which its place alone is told

pub placed-walked : (rules : List PortRule) (frame : Frame) (packet : PacketHead) (head : TcpHead) (span : Span) (app : Option StreamApp) (taken : Taken) (places : StreamPlaces) (old new : State) (t v : TreeShown)
    → app ≡ stream_app rules head.source head.target → tells_places old.keeps.follows ≡ true → new ≡ record old { places = places }
    → ((past : List Segment) → PlacesStandFor past old.places → taken ≡ taken_after past (segment_from frame.number packet head (bytes_of t.buffers span)))
    → ((past : List Segment) → PlacesStandFor past old.places → PlacesStandFor (segment_from frame.number packet head (bytes_of t.buffers span) ∷ past) places)
    → v ≡ carried_over app (is_cut frame) span (segment_told t taken span) []
    → (es : List Event) → StandsAt rules es old → IsWalked rules (segment_met rules frame packet t es head span) new v todos.Done
unfolding segment_met
placed-walked rules frame packet head span app taken places old new t v app_is tells new_is taken_is placed shown es stands =
    let bytes = bytes_of t.buffers span in
    let cut = is_cut frame in
    let own = stream_app rules head.source head.target in
    let segment = segment_from frame.number packet head bytes in
    let past = segments_of es in
    let messages = shown_after (framing own) past segment in
    let told = segment_told t (taken_after past segment) span in
    let whole = carried_over own cut span told messages in
    let follows = old.keeps.follows in
    let keeps : new.keeps ≡ old.keeps = ap (λ (s : State). s.keeps) new_is in
    let none : is_followed follows own ≡ false = placed_passed follows own tells in
    let not_all = λ (all : keeps_all new.keeps ≡ true). true≢false (sym (everything_takes follows own (all_everything old.keeps (ap keeps_all (sym keeps) ∙ all))) ∙ none) in
    let wanted : whole.wanted ≡ t.wanted = carried_over_wanted own cut span told messages ∙ told_wanted t (taken_after past segment) span in
    let is : v ≡ carried_over own cut span told [] =
    shown ∙ ap (λ (a : Option StreamApp). carried_over a cut span (segment_told t taken span) []) app_is
    ∙ ap (λ (k : Taken). carried_over own cut span (segment_told t k span) []) (taken_is past (stands.places tells)) in
    record {
      stands = stands-segment rules es frame.number packet head bytes old new stands (ap (λ (s : State). s.joins) new_is) (ap (λ (s : State). s.udp) new_is) keeps
          (λ _. subst (PlacesStandFor (segment ∷ past)) (sym (ap (λ (s : State). s.places) new_is)) (placed past (stands.places tells)))
          (streams_stay rules (segment ∷ past) old new keeps (ap (λ (s : State). s.streams) new_is)
          (subst (λ (ss : List Segment). StreamsStand old.keeps.lets_go (framer_of_segment rules) ss old.streams) (sym (passed_over rules follows segment past none)) stands.streams))
          (λ all. absurd (not_all all)) (λ all. absurd (not_all all));
      tree = record {
        wanted = ap (λ (u : TreeShown). u.wanted) is ∙ carried_over_wanted own cut span told [] ∙ told_wanted t (taken_after past segment) span ∙ sym wanted;
        same = λ all. absurd (not_all (all refl));
        lacks = λ enough.
            let unasked : asks_messages whole.wanted ≡ false =
            placed_enough follows whole.wanted tells (subst (λ (k : Keeping). FollowsEnough k.follows whole.wanted) keeps enough.streams) in
            let asked : told.wanted ≡ whole.wanted = sym (carried_over_wanted own cut span told messages) in
            subst (λ (u : TreeShown). LacksOnly whole u) (sym is)
            (carried_lacks own cut span told messages (no_messages told.wanted (ap asks_messages asked ∙ unasked)));
      };
      todo = refl;
    }
