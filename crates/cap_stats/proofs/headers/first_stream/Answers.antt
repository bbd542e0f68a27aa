use Rattle.std.proofs.Common.{◌<◌, ℕ, length, Option, is_some, sym, ap, ◌∙◌, arith}
use Rattle.cap_stats.specs.Told.{has_stream}
use Rattle.cap_stats.proofs.PlaceLemmas.{further, position_found, stream_has}
use Rattle.cap_stats.proofs.headers.first_stream.Goals as goal

pub returns-in-Some-clause-place : goal.returns-in-Some-clause-place
returns-in-Some-clause-place c =
    let layers = c.args.outline.now.layers in
    let place = c.loop-place.place in
    let within : place < length layers = omega (arith, c.loop-place-test.true, c.layer_count-place-end.ensures) in
    position_found has_stream layers place within (sym (stream_has layers place) ∙ ap (λ (o : Option ℕ). is_some o) (sym c.in_ok-stream.ensures ∙ c.in-Some.is)) c.loop-place.invariant

pub loop-place-preserved : goal.loop-place-preserved
loop-place-preserved c =
    let layers = c.args.outline.now.layers in
    let place = c.loop-place.place in
    let within : place < length layers = omega (arith, c.loop-place-test.true, c.layer_count-place-end.ensures) in
    further has_stream layers place within (sym (stream_has layers place) ∙ ap (λ (o : Option ℕ). is_some o) (sym c.in_ok-stream.ensures ∙ c.in_default.is)) c.loop-place.invariant
