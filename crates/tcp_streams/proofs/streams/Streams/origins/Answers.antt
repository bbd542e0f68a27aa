use Rattle.std.proofs.Common.{◌≡◌, ◌-◌, List, ℕ, ap, ◌∙◌}
use Rattle.std.proofs.lemmas.Result.{IfOk-weaker}
use Rattle.range_bytes.specs.Held.{frames_at}
use Rattle.tcp_streams.specs.Ways.{WayState}
use Rattle.tcp_streams.specs.Standing.{way_for, way_in}
use Rattle.tcp_streams.proofs.KeptLemmas.{frames_kept_at}
use Rattle.tcp_streams.proofs.KeptStands.{kept_way}
use Rattle.tcp_streams.proofs.ReadLemmas.{stands_way}
use Rattle.tcp_streams.proofs.streams.Streams.origins.Goals as goal

pub returns-clause-numbers : goal.returns-clause-numbers
returns-clause-numbers c = IfOk-weaker c.origins.result (λ (numbers : List ℕ). numbers ≡ frames_at c.way.result.now.held.held c.args.from (c.args.to - c.args.from)) _
    (λ numbers is past stands. is ∙ ap (λ (w : WayState). frames_at w.held c.args.from (c.args.to - c.args.from))
    (c.way.ensures ∙ stands_way past c.args.self.now c.args.stream c.args.side stands c.requires.stream)) c.origins.ensures

pub returns-clause-from : goal.returns-clause-from
returns-clause-from c = IfOk-weaker c.origins.result (λ (numbers : List ℕ). numbers ≡ frames_at c.way.result.now.held.held c.args.from (c.args.to - c.args.from)) _
    (λ numbers is past stands. is ∙ ap (λ (w : WayState). frames_at w.held c.args.from (c.args.to - c.args.from)) c.way.ensures
    ∙ frames_kept_at (way_for past c.args.stream c.args.side) (way_in c.args.self.now c.args.stream c.args.side) c.args.from c.args.to
    (kept_way past c.args.self.now c.args.stream c.args.side stands c.requires.stream) c.requires.held) c.origins.ensures
