use Rattle.std.proofs.Common.{◌∙◌, All, ℕ, List, ◌∷◌, length, Option, ap, refl, subst, sym, arith}
use Rattle.app_layers.specs.declared.streamed.StreamApp.{StreamApp}
use Rattle.stream_messages.specs.declared.framer.Framer.{Framer}
use Rattle.message_links.specs.declared.notes.Note.{Note}
use Rattle.tcp_messages.specs.Shown.{IsWholeIn, shown_after}
use Rattle.app_layers.specs.FrameLayer.{is_cut}
use Rattle.app_layers.specs.Payloads.{segment_told}
use Rattle.app_layers.specs.MessageLayers.{application, carried_over, framer_of_segment, framing}
use Rattle.message_links.specs.Links.{links_of}
use Rattle.message_links.specs.LinkTables.{LinksStandFor}
use Rattle.message_links.specs.Notes.{noted_on, shown_notes, tcp_direction}
use Rattle.dissect.specs.Keeping.{is_followed}
use Rattle.dissect.specs.Stands.{StreamsStand}
use Rattle.dissect.proofs.Opens.{adds-segment}
use Rattle.dissect.proofs.Segmenting.{shown-walked}
use Rattle.dissect.proofs.Shrinking.{bytes_short}
use Rattle.app_layers.proofs.StreamApps.{framers_of_ends}
use Rattle.dissect.proofs.state.State.take_in.Goals as goal

pub returns-in-Ok-clause-walked : goal.returns-in-Ok-clause-walked
returns-in-Ok-clause-walked c = λ rules packet head es segment_is app_is stands.
    let frame = c.args.frame.now in
    let segment = c.args.segment.now in
    let met = c.in_ok-met.met in
    let framer_is = c.framing.ensures ∙ ap framing app_is in
    let notes_are =
    ap (λ (bytes : List ℕ). shown_notes (application c.args.app) bytes met.messages) c.bytes.ensures
    ∙ ap (λ (app : Option StreamApp). shown_notes (application app) segment.payload met.messages) app_is in
    let told = segment_told c.args.tree.now met.taken c.args.span in
    shown-walked rules frame packet head c.args.span segment met.taken met.messages c.args.self.now _ c.args.tree.now told c.show_met.new.tree
    (record {
      segment_is = segment_is;
      taken_in = ap (is_followed c.args.self.now.keeps.follows) (sym app_is) ∙ c.requires.follows;
      keeps = c.show_met.ensures.same.keeps;
      joins = c.show_met.ensures.same.joins;
      udp = c.show_met.ensures.same.udp;
      taken_is = λ past reads. c.in_ok-met.ensures.taken (framer_of_segment rules) past reads;
      messages_is = λ past reads. c.in_ok-met.ensures.shown (framer_of_segment rules) past (framers_of_ends rules) framer_is reads ∙ ap (λ (framer : Option Framer). shown_after framer past segment) framer_is;
      kept = λ past reads. subst (StreamsStand c.args.self.now.keeps.lets_go (framer_of_segment rules) (segment ∷ past)) (sym c.show_met.ensures.same.streams) (c.in_ok-met.ensures.stands (framer_of_segment rules) past (framers_of_ends rules) framer_is reads);
      links = λ all. record {
        found = λ ns stands. (c.in-Ok.ensures.links all).found ns stands ∙ ap (λ (notes : List Note). links_of ns (tcp_direction met.taken) notes) notes_are;
        links = λ ns stands. subst (λ (notes : List Note). LinksStandFor (noted_on frame.number (tcp_direction met.taken) notes ns) c.show_met.new.self.links) notes_are
            ((c.in-Ok.ensures.links all).links ns stands);
      };
      told = refl;
      shown = c.in-Ok.ensures.tree ∙ ap (λ (app : Option StreamApp). carried_over app (is_cut frame) c.args.span told met.messages) app_is;
    }) es stands

pub take_into-requires-clause-bytes : goal.take_into-requires-clause-bytes
take_into-requires-clause-bytes c =
    omega (arith, c.requires.ready.state.bytes, bytes_short c.args.tree.now.buffers c.args.span c.args.segment.now.payload c.requires.payload)

pub returns-in-Ok-clause-adds : goal.returns-in-Ok-clause-adds
returns-in-Ok-clause-adds c =
    adds-segment c.args.span.len (length c.args.segment.now.payload) c.args.self.now c.take_into.new.streams c.show_met.new.self c.take_into.ensures.counted c.take_into.ensures.bytes
    (bytes_short c.args.tree.now.buffers c.args.span c.args.segment.now.payload c.requires.payload) c.show_met.ensures.same

pub show_met-requires-clause-whole : goal.show_met-requires-clause-whole
show_met-requires-clause-whole c =
    subst (λ (bytes : List ℕ). All (IsWholeIn bytes) c.in_ok-met.met.messages) (sym c.bytes.ensures) c.in_ok-met.ensures.whole
