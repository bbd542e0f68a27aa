use Rattle.std.proofs.Common.{◌∙◌, sym}
use Rattle.app_layers.specs.FrameLayer.{is_cut}
use Rattle.dissect.proofs.Passing.{passed-walked}
use Rattle.dissect.proofs.state.State.segment.Goals as goal

pub returns-in_ok-pass_segment-clause-walked : goal.returns-in_ok-pass_segment-clause-walked
returns-in_ok-pass_segment-clause-walked c =
    passed-walked c.args.rules.now c.args.frame.now c.args.packet c.args.head c.args.span c.stream_app-app.result c.args.self.now c.args.tree.now c.pass_segment.new.tree c.stream_app-app.ensures (sym c.takes.ensures ∙ c.if-takes.false)
    (sym c.tells_places.ensures ∙ c.if-tells_places.false) (c.in_ok-pass_segment.ensures.tree (is_cut c.args.frame.now))
