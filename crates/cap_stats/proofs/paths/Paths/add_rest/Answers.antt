use Rattle.std.proofs.Common.{◌==◌, ◌<◌, ℕ, List, [], ◌++◌, length, codes, if◌then◌else◌, ap, sym, subst, ◌∙◌, arith}
use Rattle.pk_fields.specs.Fields.{row_of}
use Rattle.cap_stats.specs.Stands.{HasPaths, recent_of}
use Rattle.cap_stats.specs.Told.{path_of, paths_to, protocols_in}
use Rattle.cap_stats.proofs.FewLemmas.{room_kept}
use Rattle.cap_stats.proofs.PathLemmas.{path_more, paths_step, proto_here, protocols_count, protocols_more}
use Rattle.cap_stats.proofs.paths.Paths.add_rest.Goals as goal

pub add_step-requires-clause-room : goal.add_step-requires-clause-room
add_step-requires-clause-room c =
    let layers = c.args.source.now.layers in
    let protocols = protocols_in layers in
    let place = c.loop-place.place in
    let proto = c.protocol-proto.result in
    let within : place < length protocols = omega (arith, c.loop-place-test.true, c.requires.count, protocols_count layers) in
    let longer = c.in_ok-extend_path.ensures
    ∙ ap (λ (path : List ℕ). path ++ ((if place == 0 then [] else codes ":") ++ (row_of proto).name)) c.loop-place.invariant.1
    ∙ path_more protocols place proto within (proto_here layers place proto within c.protocol-proto.ensures) in
    room_kept c.loop-place.self c.args.bytes place protocols c.as_str.result.now c.requires.known.0 within (c.as_str.ensures.value ∙ longer)
    (c.loop-place.invariant.0 c.requires.known.0 (c.forget.ensures.same (paths_to c.args.bytes protocols c.args.known ++ c.requires.known.0) c.requires.known.1)) c.requires.known.2

pub add_step-requires-clause-ends : goal.add_step-requires-clause-ends
add_step-requires-clause-ends c =
    let layers = c.args.source.now.layers in
    let protocols = protocols_in layers in
    let place = c.loop-place.place in
    let proto = c.protocol-proto.result in
    let within : place < length protocols = omega (arith, c.loop-place-test.true, c.requires.count, protocols_count layers) in
    let is = proto_here layers place proto within c.protocol-proto.ensures in
    c.as_str.ensures.value ∙ c.in_ok-extend_path.ensures
    ∙ ap (λ (path : List ℕ). path ++ ((if place == 0 then [] else codes ":") ++ (row_of proto).name)) c.loop-place.invariant.1
    ∙ path_more protocols place proto within is
    ∙ ap (λ (ps : List ℕ). path_of ps) (sym (protocols_more protocols (recent_of c.loop-place.self) place proto within is c.loop-place.invariant.2))

pub loop-place-preserved : goal.loop-place-preserved
loop-place-preserved c =
    let layers = c.args.source.now.layers in
    let protocols = protocols_in layers in
    let place = c.loop-place.place in
    let proto = c.protocol-proto.result in
    let within : place < length protocols = omega (arith, c.loop-place-test.true, c.requires.count, protocols_count layers) in
    let is = proto_here layers place proto within c.protocol-proto.ensures in
    let longer = c.in_ok-extend_path.ensures
    ∙ ap (λ (path : List ℕ). path ++ ((if place == 0 then [] else codes ":") ++ (row_of proto).name)) c.loop-place.invariant.1
    ∙ path_more protocols place proto within is in (
      λ notes has.
          subst (λ (ns : List (List ℕ × ℕ)). HasPaths ns c.add_step.new.self)
          (paths_step c.args.bytes protocols place c.as_str.result.now notes (c.as_str.ensures.value ∙ longer))
          (c.in_ok-add_step.ensures.noted _ (c.loop-place.invariant.0 notes has)),
      longer,
      c.in_ok-add_step.ensures.recent ∙ protocols_more protocols (recent_of c.loop-place.self) place proto within is c.loop-place.invariant.2,
    )
