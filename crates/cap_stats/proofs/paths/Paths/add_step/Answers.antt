use Rattle.std.proofs.Common.{[], ◌∷◌, ◌++◌, map, refl, sym, ◌∙◌}
use Rattle.cap_stats.specs.declared.paths.Step.{Step}
use Rattle.cap_stats.specs.Told.{path_of}
use Rattle.cap_stats.proofs.PathLemmas.{paths_recalled}
use Rattle.cap_stats.proofs.paths.Paths.add_step.Goals as goal

pub returns-clause-noted : goal.returns-clause-noted
returns-clause-noted c = λ notes has.
    let added = c.add_path.new.self in
    paths_recalled added (record added { recent = c.push.new.self }) (record { proto = c.args.proto; place = c.in_ok-place.place }) c.args.path.now ((c.args.path.now, c.args.bytes) ∷ notes)
    refl refl c.in_ok-push.ensures.items
    (c.requires.ends ∙ sym (λ i. path_of (map (λ (step : Step). step.proto) (c.in_ok-place.ensures.recent i).items ++ c.args.proto ∷ [])))
    c.in_ok-place.ensures.place (c.in_ok-place.ensures.noted notes has)
