use Rattle.std.proofs.Common.{◌∙◌, ℕ, Bool, List, ap, sym, subst}
use Rattle.pk_tree.specs.Buffers.{bytes_of}
use Rattle.app_layers.specs.Applications.{payload_over}
use Rattle.message_links.specs.LinkTables.{LinksStandFor}
use Rattle.dissect.specs.Keeping.{keeps_all}
use Rattle.dissect.proofs.DatagramLemmas.{datagram-met}
use Rattle.dissect.proofs.state.State.datagram.Goals as goal

pub returns-clause-walked : goal.returns-clause-walked
returns-clause-walked c =
    let told = c.tell_datagram.new.tree in
    let same = c.number_datagram.ensures.same in
    datagram-met c.args.rules.now c.args.frame.now c.args.packet c.args.head c.args.span c.udp_app-app.result c.in_ok-stream.stream c.bytes.result.now c.args.self.now c.link_datagram.new.self c.args.tree.now told c.add_message.new.tree
    (record {
      app_is = c.udp_app-app.ensures;
      stream_is = c.in_ok-stream.ensures.number;
      bytes_is = c.bytes.ensures.bytes ∙ ap (λ (buffers : List (List ℕ)). bytes_of buffers c.args.span) c.tell_datagram.ensures.buffers;
      joins = c.link_datagram.ensures.same.joins ∙ same.joins;
      udp = λ numbers. c.link_datagram.ensures.same.udp ∙ c.in_ok-stream.ensures.known numbers;
      keeps = c.link_datagram.ensures.same.keeps ∙ same.keeps;
      places = c.link_datagram.ensures.same.places ∙ same.places;
      streams = c.link_datagram.ensures.same.streams ∙ same.streams;
      links = λ all.
          let links = c.in_ok-link_datagram.ensures.links (ap keeps_all same.keeps ∙ all) in
          record {
            found = λ ns stands. links.found ns (subst (LinksStandFor ns) (sym same.links) stands);
            links = λ ns stands. links.links ns (subst (LinksStandFor ns) (sym same.links) stands);
          };
      told = c.in_ok-tell_datagram.ensures.tree;
      shown = c.in_ok-add_message.ensures.tree ∙ ap (λ (cut : Bool). payload_over c.udp_app-app.result told cut c.args.span) c.is_cut.ensures;
    })
