use Rattle.std.proofs.Common.{subst, ◌∙◌, rules}
use Rattle.tcp_streams.specs.Ways.{WayState, stretches}
use Rattle.tcp_streams.specs.Parts.{IsPart}
use Rattle.tcp_streams.specs.States.{state_of}
use Rattle.tcp_streams.specs.Standing.{way_for, way_in}
use Rattle.tcp_streams.proofs.KeptStands.{kept_way, part_kept}
use Rattle.tcp_streams.proofs.ReadLemmas.{stands_way}
use Rattle.tcp_streams.proofs.PartLemmas.{part_held}
use Rattle.tcp_streams.proofs.streams.Streams.part.Goals as goal

pub returns-clause-held : goal.returns-clause-held
returns-clause-held c = λ past stands.
    let is = c.way.ensures ∙ stands_way past c.args.self.now c.args.stream c.args.side stands c.requires.stream in
    let part : IsPart (stretches (state_of c.way.result.now)) c.args.from c.args.to c.unwrap.result.now = search rules in
    part_held past c.args.self.now c.args.stream c.args.side c.args.from c.args.to c.unwrap.result.now stands c.requires.stream c.requires.lies
    (subst (λ (w : WayState). IsPart (stretches w) c.args.from c.args.to c.unwrap.result.now) is part)

pub returns-clause-from : goal.returns-clause-from
returns-clause-from c = λ way past stands.
    let part : IsPart (stretches (state_of c.way.result.now)) c.args.from c.args.to c.unwrap.result.now = search rules in
    part_kept (way_for past c.args.stream c.args.side) (way_in c.args.self.now c.args.stream c.args.side) c.args.from c.args.to c.unwrap.result.now way
    (kept_way past c.args.self.now c.args.stream c.args.side stands c.requires.stream) c.requires.lies
    (subst (λ (w : WayState). IsPart (stretches w) c.args.from c.args.to c.unwrap.result.now) c.way.ensures part)
