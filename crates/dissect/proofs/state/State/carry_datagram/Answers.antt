use Rattle.std.proofs.Common.{ℕ, ◌&&◌, not, List, ap, sym, ◌∙◌}
use Rattle.dis_ports.specs.Udp.{udp_ports}
use Rattle.dissect.specs.Keeping.{keeps_all}
use Rattle.dissect.specs.declared.keeping.Keeping.{Keeping}
use Rattle.dissect.proofs.MessagesPassed.{datagram-tells}
use Rattle.dissect.proofs.state.State.carry_datagram.Goals as goal

pub returns-clause-tells : goal.returns-clause-tells
returns-clause-tells c =
    let frame = c.args.frame.now in
    let last = c.args.last.now in
    let app = c.udp_app-app.result in
    let ports = c.udp_ports-ports.result in
    datagram-tells c.args.rules.now frame last ports app c.args.passes c.passes_over.result c.in-Some.free c.in_ok-stream.stream c.args.self.now c.begin_frame.new.self c.number_plain.new.self
    (c.udp_ports-ports.ensures ∙ ap (λ (b : List ℕ). udp_ports b) c.own.ensures.bytes) c.udp_app-app.ensures (sym c.shown_of.ensures ∙ c.in-Some.is)
    (c.passes_over.ensures ∙ ap (λ (k : Keeping). c.args.passes && not (keeps_all k)) (sym c.begin_frame.ensures.adds.keeps)) c.begin_frame.ensures.none
    c.in_ok-stream.ensures.number c.in_ok-stream.ensures.known c.number_plain.ensures.same (c.begin_frame.ensures.stands c.args.rules.now)
