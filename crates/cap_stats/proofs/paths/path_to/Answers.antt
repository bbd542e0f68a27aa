use Rattle.std.proofs.Common.{◌==◌, ◌<◌, ℕ, List, [], ◌++◌, length, codes, if◌then◌else◌, ap, ◌∙◌, arith}
use Rattle.pk_fields.specs.Fields.{row_of}
use Rattle.cap_stats.specs.Told.{path_of, protocols_in}
use Rattle.cap_stats.proofs.PathLemmas.{path_more, proto_here, protocols_count}
use Rattle.cap_stats.proofs.paths.path_to.Goals as goal

pub loop-place-init : goal.loop-place-init
unfolding path_of
loop-place-init c = c.new-path.ensures.bytes

pub loop-place-preserved : goal.loop-place-preserved
loop-place-preserved c =
    let layers = c.args.source.now.layers in
    let protocols = protocols_in layers in
    let place = c.loop-place.place in
    let proto = c.protocol.result in
    let within : place < length protocols = omega (arith, c.loop-place-test.true, c.requires, protocols_count layers) in
    c.in_ok-extend_path.ensures
    ∙ ap (λ (path : List ℕ). path ++ ((if place == 0 then [] else codes ":") ++ (row_of proto).name)) c.loop-place.invariant
    ∙ path_more protocols place proto within (proto_here layers place proto within c.protocol.ensures)
