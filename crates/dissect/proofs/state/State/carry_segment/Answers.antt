use Rattle.std.proofs.Common.{◌≡◌, ℕ, List, false, ap, sym, ◌∙◌}
use Rattle.dis_ports.specs.Tcp.{tcp_head}
use Rattle.app_layers.specs.MessageLayers.{stream_app}
use Rattle.dissect.specs.Keeping.{is_followed}
use Rattle.dissect.specs.Plain.{own}
use Rattle.dissect.specs.declared.keeping.Keeping.{Keeping}
use Rattle.dissect.proofs.MessagesPassed.{segment-tells}
use Rattle.dissect.proofs.state.State.carry_segment.Goals as goal

pub returns-clause-tells : goal.returns-clause-tells
returns-clause-tells c = λ passes.
    let frame = c.args.frame.now in
    let last = c.args.last.now in
    let rules = c.args.rules.now in
    let app = c.stream_app-app.result in
    let keeps = c.begin_frame.ensures.adds.keeps in
    let head = tcp_head (own frame last.header) in
    let source : c.tcp_ports-ports.result.source ≡ head.source = c.tcp_ports-ports.ensures.source ∙ ap (λ (b : List ℕ). (tcp_head b).source) c.own.ensures.bytes in
    let target : c.tcp_ports-ports.result.target ≡ head.target = c.tcp_ports-ports.ensures.target ∙ ap (λ (b : List ℕ). (tcp_head b).target) c.own.ensures.bytes in
    let app_is : app ≡ stream_app rules head.source head.target =
    c.stream_app-app.ensures ∙ ap (λ n. stream_app rules n c.tcp_ports-ports.result.target) source ∙ ap (λ n. stream_app rules head.source n) target in
    let passed : is_followed c.begin_frame.new.self.keeps.follows app ≡ false = ap (λ (k : Keeping). is_followed k.follows app) keeps ∙ sym c.takes.ensures ∙ c.if-takes.false in
    segment-tells rules frame last app passes c.is_free.result c.args.self.now c.begin_frame.new.self
    app_is passed (sym c.tells_places.ensures ∙ c.if-tells_places.false) c.is_free.ensures c.begin_frame.ensures.none (c.begin_frame.ensures.stands rules)
