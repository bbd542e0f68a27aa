use Rattle.std.proofs.Common.{Bool, ap, ◌∙◌}
use Rattle.std.proofs.lemmas.Result.{on_ok_weaker}
use Rattle.pk_base.specs.declared.heads.Mode.TheVariants.{Plain}
use Rattle.pk_base.specs.declared.span.Span.{Span}
use Rattle.pk_fields.specs.Ids.{ETH, TCP}
use Rattle.pk_tree.specs.Buffers.{bytes_of}
use Rattle.pk_tree.specs.Layouts.{layer_read}
use Rattle.dis_link.specs.Ethernet.{eth_layout}
use Rattle.dis_ports.specs.Tcp.{tcp_layout}
use Rattle.app_layers.specs.FrameLayer.{frame_span, is_cut}
use Rattle.dissect.specs.Plain.{own}
use Rattle.dissect.proofs.PlainWay.{plain_way}
use Rattle.dissect.proofs.plain.open_plain.Goals as goal

pub returns-clause-opened : goal.returns-clause-opened
returns-clause-opened c =
    let frame = c.args.frame.now in
    let plain = c.args.plain.now in
    let t = c.args.tree.now in
    let is = c.requires.plain in
    on_ok_weaker c.open_tcp.result
    (λ layer. plain_way frame plain t c.open_ethernet.new.b c.open_ip4.new.b c.open_tcp.new.b is (record {
      own_bytes = c.requires.frame;
      few = c.requires.room;
      one = c.in_ok-open_ethernet.ensures.count;
      same = c.open_ethernet.ensures.buffers;
      still = c.open_ip4.ensures.buffers;
      ethernet = c.in_ok-open_ethernet.ensures.layer (own frame (frame_span frame)) (is_cut frame) is.ethernet.typed
          ∙ ap (λ (s : Span). layer_read t ETH s (eth_layout (own frame (frame_span frame))) Plain (is_cut frame)) c.frame_span.ensures;
      ip = c.in_ok-open_ip4.ensures.layer (own frame plain.packet) (is_cut frame) is.ip.header is.ip.holds is.ip.whole;
      tcp = layer ∙ ap (λ (b : Bool). layer_read c.open_ip4.new.b TCP plain.ip.inner (tcp_layout (bytes_of c.open_ip4.new.b.buffers plain.ip.inner)) Plain b) c.requires.cut;
    }))
    c.open_tcp.ensures.layer
