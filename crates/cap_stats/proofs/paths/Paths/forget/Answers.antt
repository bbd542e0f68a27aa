use Rattle.std.proofs.Common.{List, map, refl, ap, ◌∙◌}
use Rattle.cap_stats.specs.declared.paths.Step.{Step}
use Rattle.cap_stats.proofs.PathLemmas.{protocols_cut, paths_forgot}
use Rattle.cap_stats.proofs.paths.Paths.forget.Goals as goal

pub returns-clause-same : goal.returns-clause-same
returns-clause-same c = λ notes has.
    let old = c.args.self.now in
    paths_forgot old (record old { recent = c.truncate.new.self }) c.args.count notes refl refl c.truncate.ensures.items has

pub returns-clause-recent : goal.returns-clause-recent
returns-clause-recent c =
    ap (λ (steps : List Step). map (λ (step : Step). step.proto) steps) c.truncate.ensures.items ∙ protocols_cut c.args.count c.args.self.now.recent.items
