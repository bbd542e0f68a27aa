use Rattle.std.proofs.Common.{◌≡◌, ◌+◌, ◌<◌, ◌≤◌, ℕ, List, length, map, take, slice_get, IfSome, Option, option_and_then, refl, ap, sym, subst, ◌∙◌, arith}
use Rattle.cap_stats.specs.declared.counts.Tally.{Tally}
use Rattle.cap_stats.specs.declared.paths.Step.{Step}
use Rattle.cap_stats.specs.Few.{HasRoom}
use Rattle.cap_stats.specs.Stands.{HasPaths, recent_of}
use Rattle.cap_stats.specs.Told.{path_of, protocols_in}
use Rattle.cap_stats.proofs.FewLemmas.{room_kept}
use Rattle.cap_stats.proofs.PathLemmas.{long_more, paths_step, place_known, proto_here, protocols_count, same_more}
use Rattle.cap_stats.proofs.paths.Paths.add_known.Goals as goal

pub raise-requires-clause-room : goal.raise-requires-clause-room
raise-requires-clause-room c =
    let layers = c.args.source.now.layers in
    let protocols = protocols_in layers in
    let place = c.loop-place.place in
    let self = c.loop-place.self in
    let within : place < length protocols = omega (arith, c.loop-place-test.true, c.requires.count, protocols_count layers) in
    let has = c.loop-place.invariant.0 c.requires.known.0 c.requires.known.1 in
    let is = proto_here layers place c.protocol.result within c.protocol.ensures in
    subst (λ (o : Option Tally). IfSome o HasRoom)
    (ap (λ (o : Option ℕ). option_and_then (slice_get self.tallies.items) o)
    (place_known self protocols place c.protocol.result c.in-Some.tally within is c.loop-place.invariant.1 c.in-Some.ensures has.recent))
    (room_kept self c.args.bytes place protocols (path_of (take (place + 1) protocols)) c.requires.known.0 within refl has c.requires.known.2)

pub loop-place-preserved : goal.loop-place-preserved
loop-place-preserved c =
    let layers = c.args.source.now.layers in
    let protocols = protocols_in layers in
    let place = c.loop-place.place in
    let self = c.loop-place.self in
    let text = path_of (take (place + 1) protocols) in
    let within : place < length protocols = omega (arith, c.loop-place-test.true, c.requires.count, protocols_count layers) in
    let is = proto_here layers place c.protocol.result within c.protocol.ensures in
    let same = c.loop-place.invariant.1 in
    let has = c.loop-place.invariant.0 c.requires.known.0 c.requires.known.1 in
    let found = place_known self protocols place c.protocol.result c.in-Some.tally within is same c.in-Some.ensures has.recent in
    let stays : recent_of c.raise.new.self ≡ recent_of self = λ i. map (λ (step : Step). step.proto) (c.raise.ensures.recent i).items in
    let long : place + 1 ≤ length (recent_of self) = long_more self protocols place c.protocol.result c.in-Some.tally within is same c.in-Some.ensures in (
      λ notes had.
          subst (λ (ns : List (List ℕ × ℕ)). HasPaths ns c.raise.new.self) (paths_step c.args.bytes protocols place text notes refl)
          (c.raise.ensures.raised text found _ (c.loop-place.invariant.0 notes had)),
      ap (λ (ps : List ℕ). take (place + 1) ps) stays ∙ same_more self protocols place c.protocol.result c.in-Some.tally within is same c.in-Some.ensures,
      subst (λ (ps : List ℕ). place + 1 ≤ length ps) (sym stays) long,
    )
