use Rattle.std.proofs.Common.{◌++◌, ℕ, List, min, ap, subst, ◌∙◌}
use Rattle.std.proofs.lemmas.Result.{on_ok_weaker}
use Rattle.cap_stats.specs.Stands.{HasPaths}
use Rattle.cap_stats.specs.Tables.{paths_of}
use Rattle.cap_stats.specs.Told.{paths_to, protocols_in}
use Rattle.cap_stats.proofs.FewLemmas.{paths_room}
use Rattle.cap_stats.proofs.PathLemmas.{paths_shown}
use Rattle.cap_stats.proofs.paths.Paths.add.Goals as goal

pub add_known-known-requires-clause-known : goal.add_known-known-requires-clause-known
add_known-known-requires-clause-known c = (paths_of c.requires.few.0, c.requires.few.1, paths_room c.requires.few.0 c.requires.few.2)

pub add_rest-requires-clause-known : goal.add_rest-requires-clause-known
add_rest-requires-clause-known c =
    (paths_of c.requires.few.0, c.add_known-known.ensures.noted (paths_of c.requires.few.0) c.requires.few.1, paths_room c.requires.few.0 c.requires.few.2)

pub returns : goal.returns
returns c =
    on_ok_weaker c.add_rest.result (λ noted notes has.
    subst (λ (paths : List (List ℕ × ℕ)). HasPaths (paths ++ notes) c.add_rest.new.self)
    (paths_shown c.args.source.now.layers c.in_ok-bytes.bytes c.min-count.result c.in_ok-bytes.ensures (c.min-count.ensures ∙ ap (λ (n : ℕ). min 32 n) c.layer_count.ensures)) (noted notes (c.add_known-known.ensures.noted notes has))) c.add_rest.ensures

pub returns-then-known-count : goal.returns-then-known-count
returns-then-known-count c = λ notes has.
    let layers = c.args.source.now.layers in
    let bytes = c.in_ok-bytes.bytes in
    subst (λ (paths : List (List ℕ × ℕ)). HasPaths (paths ++ notes) c.add_known-known.new.self)
    (ap (λ (n : ℕ). paths_to bytes (protocols_in layers) n) c.if-known-count.true
    ∙ paths_shown layers bytes c.min-count.result c.in_ok-bytes.ensures (c.min-count.ensures ∙ ap (λ (n : ℕ). min 32 n) c.layer_count.ensures)) (c.add_known-known.ensures.noted notes has)
