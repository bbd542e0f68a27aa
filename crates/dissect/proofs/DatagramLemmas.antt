-- A datagram more: what is shown of it, and what is kept.
use Rattle.std.proofs.Common.{◌≡◌, ℕ, true, false, true≢false, List, Option, refl, sym, ◌∙◌, ap, subst}
use Rattle.pk_base.specs.declared.span.Span.{Span}
use Rattle.pk_tree.specs.Buffers.{bytes_of}
use Rattle.pk_base.specs.declared.heads.PacketHead.{PacketHead}
use Rattle.pk_base.specs.declared.heads.PortsHead.{PortsHead}
use Rattle.pk_tree.specs.Trees.{TreeShown}
use Rattle.ip_join.specs.Stands.{Stands}
use Rattle.pk_fields.specs.declared.apps.App.{App}
use Rattle.pk_fields.specs.declared.rules.PortRule.{PortRule}
use Rattle.pk_fields.specs.Applications.{udp_app}
use Rattle.capture_read.specs.declared.frame.Frame.{Frame}
use Rattle.tcp_streams.specs.declared.ends.Ends.{Ends}
use Rattle.dissect.specs.declared.state.State.{State}
use Rattle.dissect.specs.declared.todo.Todo.TheVariants as todos
use Rattle.app_layers.specs.Applications.{payload_over}
use Rattle.message_links.specs.Conversations.{number_in, udp_ends, with_ends}
use Rattle.dissect.specs.Conversations.{udp_opened, udp_stream}
use Rattle.dissect.specs.Events.{Event}
use Rattle.dissect.specs.Fragments.{fragments_of}
use Rattle.app_layers.specs.FrameLayer.{is_cut}
use Rattle.message_links.specs.Links.{links_of}
use Rattle.dissect.specs.Links.{newest_links}
use Rattle.message_links.specs.LinkTables.{LinksStandFor}
use Rattle.message_links.specs.Notes.{Noted, datagram_notes, noted_on, udp_direction}
use Rattle.dissect.specs.Notes.{noted}
use Rattle.app_layers.specs.Payloads.{datagram_told}
use Rattle.dissect.specs.Segments.{segments_of}
use Rattle.pk_fields.specs.FieldSets.{is_in}
use Rattle.pk_fields.specs.Ids.{UDP_STREAM}
use Rattle.app_layers.specs.Aside.{LacksOnly}
use Rattle.app_layers.proofs.MessagesAside.{lacks_none}
use Rattle.dissect.specs.declared.keeping.Keeping.{Keeping}
use Rattle.dissect.specs.Keeping.{keeps_all}
use Rattle.dissect.proofs.Joining.{places_stay, streams_stay}
use Rattle.dissect.proofs.KeepingLemmas.{all_numbers}
use Rattle.dissect.proofs.Numbering.{datagram_wanted, numbered_alike}
use Rattle.dissect.specs.Stands.{StandsAt, IsLinked, IsWalked}
use Rattle.dissect.specs.Walks.{datagram_met}

-- a datagram that was numbered, told, linked and shown
pub record IsDatagram (rules : List PortRule) (frame : Frame) (packet : PacketHead) (head : PortsHead) (span : Span) (app : Option App) (stream : ℕ) (bytes : List ℕ) (old new : State) (t u v : TreeShown) : Type 0 where
  pub app_is : app ≡ udp_app rules head.source head.target
  pub stream_is : old.keeps.numbers ≡ true → stream ≡ number_in old.udp (udp_ends packet head)
  pub bytes_is : bytes ≡ bytes_of t.buffers span
  pub joins : new.joins ≡ old.joins
  pub udp : old.keeps.numbers ≡ true → new.udp ≡ with_ends old.udp (udp_ends packet head)
  pub keeps : new.keeps ≡ old.keeps
  pub places : new.places ≡ old.places
  pub streams : new.streams ≡ old.streams
  pub links : keeps_all old.keeps ≡ true → IsLinked frame.number (udp_direction stream) (datagram_notes app bytes) old new
  pub told : u ≡ datagram_told t stream span
  pub shown : v ≡ payload_over app u (is_cut frame) span

pub datagram-met : (rules : List PortRule) (frame : Frame) (packet : PacketHead) (head : PortsHead) (span : Span) (app : Option App) (stream : ℕ) (bytes : List ℕ) (old new : State) (t u v : TreeShown)
    → IsDatagram rules frame packet head span app stream bytes old new t u v → (es : List Event) → StandsAt rules es old → IsWalked rules (datagram_met rules frame packet t es head span) new v todos.Done
unfolding datagram_met fragments_of udp_opened segments_of noted newest_links
datagram-met rules frame packet head span app stream bytes old new t u v is es stands =
    let ends = udp_ends packet head in
    let number = udp_stream es packet head in
    let all = bytes_of t.buffers span in
    let ns = noted rules es in
    let own = udp_app rules head.source head.target in
    let numbered = λ (numbers : new.keeps.numbers ≡ true). ap (λ (keeps : Keeping). keeps.numbers) (sym is.keeps) ∙ numbers in
    let was_all = λ (all : keeps_all new.keeps ≡ true). ap keeps_all (sym is.keeps) ∙ all in
    let stream_is = λ (numbers : new.keeps.numbers ≡ true). is.stream_is (numbered numbers) ∙ ap (λ (known : List Ends). number_in known ends) (stands.udp (numbered numbers)) in
    let cut = is_cut frame in
    let whole = payload_over own (datagram_told t number span) cut span in
    let shown : v ≡ payload_over own (datagram_told t stream span) cut span =
    is.shown ∙ ap (λ (x : TreeShown). payload_over app x cut span) is.told ∙ ap (λ (a : Option App). payload_over a (datagram_told t stream span) cut span) is.app_is in
    let wanted : v.wanted ≡ t.wanted = ap (λ (x : TreeShown). x.wanted) shown ∙ datagram_wanted own t stream cut span in
    let alike = λ (unasked : new.keeps.numbers ≡ false → is_in t.wanted UDP_STREAM ≡ false).
    shown ∙ ap (λ (x : TreeShown). payload_over own x cut span) (numbered_alike new.keeps.numbers t stream number span stream_is unasked) in
    record {
      stands = record {
        joins = subst (Stands (fragments_of es)) (sym is.joins) stands.joins;
        udp = λ numbers. is.udp (numbered numbers) ∙ ap (λ (known : List Ends). with_ends known ends) (stands.udp (numbered numbers));
        places = places_stay (segments_of es) old new is.keeps is.places stands.places;
        streams = streams_stay rules (segments_of es) old new is.keeps is.streams stands.streams;
        links = λ all.
            subst (λ (more : List Noted). LinksStandFor more new.links)
            (ap (λ (n : ℕ). noted_on frame.number (udp_direction n) (datagram_notes app bytes) ns) (stream_is (all_numbers new.keeps all))
            ∙ ap (λ (a : Option App). noted_on frame.number (udp_direction number) (datagram_notes a bytes) ns) is.app_is
            ∙ ap (λ (b : List ℕ). noted_on frame.number (udp_direction number) (datagram_notes own b) ns) is.bytes_is)
            ((is.links (was_all all)).links ns (stands.links (was_all all)));
        found = λ all.
            (is.links (was_all all)).found ns (stands.links (was_all all))
            ∙ ap (λ (n : ℕ). links_of ns (udp_direction n) (datagram_notes app bytes)) (stream_is (all_numbers new.keeps all))
            ∙ ap (λ (a : Option App). links_of ns (udp_direction number) (datagram_notes a bytes)) is.app_is
            ∙ ap (λ (b : List ℕ). links_of ns (udp_direction number) (datagram_notes own b)) is.bytes_is;
      };
      tree = record {
        wanted = wanted ∙ sym (datagram_wanted own t number cut span);
        same = λ all. alike (λ none. absurd (true≢false (sym (all_numbers new.keeps (all refl)) ∙ none)));
        lacks = λ enough. subst (LacksOnly whole)
            (sym (alike (λ none. sym (ap (λ (fields : List ℕ). is_in fields UDP_STREAM) (datagram_wanted own t number cut span)) ∙ enough.numbers none))) (lacks_none whole);
      };
      todo = refl;
    }
