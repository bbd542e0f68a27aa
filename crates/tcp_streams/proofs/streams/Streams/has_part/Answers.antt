use Rattle.std.proofs.Common.{◌∙◌, sym, subst}
use Rattle.tcp_streams.specs.Ways.{WayState, stretches}
use Rattle.tcp_streams.specs.Parts.{LiesInOne}
use Rattle.tcp_streams.proofs.streams.Streams.has_part.Goals as goal

pub returns : goal.returns
returns c = (
  λ is. subst (λ (w : WayState). LiesInOne (stretches w) c.args.from c.args.to) c.way.ensures (c.find.ensures.lies.0 (sym c.is_some.ensures ∙ is)),
  λ one. c.is_some.ensures ∙ c.find.ensures.lies.1 (subst (λ (w : WayState). LiesInOne (stretches w) c.args.from c.args.to) (sym c.way.ensures) one),
)
