-- A frame, a fragment or a segment more: what is kept of it.
use Rattle.std.proofs.Common.{◌≡◌, ℕ, true, List, [], ◌∷◌, ◌∙◌, sym, ap, subst}
use Rattle.pk_base.specs.declared.heads.FragmentHead.{FragmentHead}
use Rattle.pk_base.specs.declared.heads.PacketHead.{PacketHead}
use Rattle.pk_base.specs.declared.heads.TcpHead.{TcpHead}
use Rattle.ip_join.specs.Stands.{Stands}
use Rattle.pk_fields.specs.declared.rules.PortRule.{PortRule}
use Rattle.dissect.specs.declared.state.State.{State}
use Rattle.dissect.specs.Conversations.{udp_opened}
use Rattle.dissect.specs.Events.{Event, NewFrame, Piece, Tcp}
use Rattle.dissect.specs.Fragments.{fragment_from, fragments_of}
use Rattle.message_links.specs.LinkTables.{LinksStandFor}
use Rattle.dissect.specs.Links.{newest_links}
use Rattle.app_layers.specs.MessageLayers.{framer_of_segment}
use Rattle.dissect.specs.Notes.{noted}
use Rattle.dissect.specs.Segments.{segment_from, segments_of}
use Rattle.dissect.specs.declared.keeping.Keeping.{Keeping}
use Rattle.tcp_streams.specs.declared.segment.Segment.{Segment}
use Rattle.dissect.specs.Keeping.{followed_of, keeps_all, tells_places}
use Rattle.tcp_streams.specs.PlacesStanding.{PlacesStandFor}
use Rattle.dissect.specs.Stands.{StandsAt, StreamsStand}

-- the streams stand for the same segments
pub streams_stay : (rules : List PortRule) (segments : List Segment) (old new : State) → new.keeps ≡ old.keeps → new.streams ≡ old.streams
    → StreamsStand old.keeps.lets_go (framer_of_segment rules) (followed_of rules old.keeps.follows segments) old.streams
    → StreamsStand new.keeps.lets_go (framer_of_segment rules) (followed_of rules new.keeps.follows segments) new.streams
streams_stay rules segments old new same_keeps same_streams reads =
    subst (StreamsStand new.keeps.lets_go (framer_of_segment rules) (followed_of rules new.keeps.follows segments)) (sym same_streams)
    (subst (λ (keeps : Keeping). StreamsStand keeps.lets_go (framer_of_segment rules) (followed_of rules keeps.follows segments) old.streams) (sym same_keeps) reads)

pub places_stay : (segments : List Segment) (old new : State) → new.keeps ≡ old.keeps → new.places ≡ old.places
    → (tells_places old.keeps.follows ≡ true → PlacesStandFor segments old.places) → tells_places new.keeps.follows ≡ true → PlacesStandFor segments new.places
places_stay segments old new same_keeps same_places stands tells =
    subst (PlacesStandFor segments) (sym same_places) (stands (ap (λ (keeps : Keeping). tells_places keeps.follows) (sym same_keeps) ∙ tells))

-- what is kept where a frame begins
pub stands-frame : (rules : List PortRule) (es : List Event) (old new : State) → StandsAt rules es old → new.joins ≡ old.joins → new.udp ≡ old.udp → new.keeps ≡ old.keeps → new.places ≡ old.places → new.streams ≡ old.streams
    → new.links ≡ old.links → new.found.items ≡ [] → StandsAt rules (NewFrame ∷ es) new
unfolding fragments_of udp_opened segments_of noted newest_links
stands-frame rules es old new stands same_joins same_udp same_keeps same_places same_streams same_links none = record {
  joins = subst (Stands (fragments_of es)) (sym same_joins) stands.joins;
  udp = λ numbers. same_udp ∙ stands.udp (ap (λ (keeps : Keeping). keeps.numbers) (sym same_keeps) ∙ numbers);
  places = places_stay (segments_of es) old new same_keeps same_places stands.places;
  streams = streams_stay rules (segments_of es) old new same_keeps same_streams stands.streams;
  links = λ all. subst (LinksStandFor (noted rules es)) (sym same_links) (stands.links (ap keeps_all (sym same_keeps) ∙ all));
  found = λ _. none;
}

-- what is kept with a fragment more
pub stands-piece : (rules : List PortRule) (es : List Event) (frame : ℕ) (head : FragmentHead) (bytes : List ℕ) (old new : State) → StandsAt rules es old → new.udp ≡ old.udp → new.keeps ≡ old.keeps → new.places ≡ old.places → new.streams ≡ old.streams
    → new.links ≡ old.links → new.found.items ≡ old.found.items
    → Stands (fragment_from frame head bytes ∷ fragments_of es) new.joins → StandsAt rules (Piece frame head bytes ∷ es) new
unfolding fragments_of udp_opened segments_of noted newest_links
stands-piece rules es frame head bytes old new stands same_udp same_keeps same_places same_streams same_links same_found joins = record {
  joins = joins;
  udp = λ numbers. same_udp ∙ stands.udp (ap (λ (keeps : Keeping). keeps.numbers) (sym same_keeps) ∙ numbers);
  places = places_stay (segments_of es) old new same_keeps same_places stands.places;
  streams = streams_stay rules (segments_of es) old new same_keeps same_streams stands.streams;
  links = λ all. subst (LinksStandFor (noted rules es)) (sym same_links) (stands.links (ap keeps_all (sym same_keeps) ∙ all));
  found = λ all. same_found ∙ stands.found (ap keeps_all (sym same_keeps) ∙ all);
}

-- what is kept with a segment more
pub stands-segment : (rules : List PortRule) (es : List Event) (frame : ℕ) (packet : PacketHead) (head : TcpHead) (bytes : List ℕ) (old new : State) → StandsAt rules es old → new.joins ≡ old.joins → new.udp ≡ old.udp → new.keeps ≡ old.keeps
    → (tells_places new.keeps.follows ≡ true → PlacesStandFor (segment_from frame packet head bytes ∷ segments_of es) new.places)
    → StreamsStand new.keeps.lets_go (framer_of_segment rules) (followed_of rules new.keeps.follows (segment_from frame packet head bytes ∷ segments_of es)) new.streams
    → (keeps_all new.keeps ≡ true → LinksStandFor (noted rules (Tcp frame packet head bytes ∷ es)) new.links)
    → (keeps_all new.keeps ≡ true → new.found.items ≡ newest_links rules (Tcp frame packet head bytes ∷ es)) → StandsAt rules (Tcp frame packet head bytes ∷ es) new
unfolding fragments_of udp_opened segments_of noted newest_links
stands-segment rules es frame packet head bytes old new stands same_joins same_udp same_keeps places streams links found = record {
  joins = subst (Stands (fragments_of es)) (sym same_joins) stands.joins;
  udp = λ numbers. same_udp ∙ stands.udp (ap (λ (keeps : Keeping). keeps.numbers) (sym same_keeps) ∙ numbers);
  places = places;
  streams = streams;
  links = links;
  found = found;
}
