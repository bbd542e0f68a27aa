use Rattle.std.proofs.Common.{ap, ◌∙◌}
use Rattle.tcp_streams.specs.Ways.{WayState}
use Rattle.tcp_streams.proofs.ReadLemmas.{stands_way}
use Rattle.tcp_streams.proofs.streams.Streams.front.Goals as goal

pub returns-clause-front : goal.returns-clause-front
returns-clause-front c = λ past stands.
    c.front.ensures ∙ ap (λ (w : WayState). w.front) (c.way.ensures ∙ stands_way past c.args.self.now c.args.stream c.args.side stands c.requires.stream)
