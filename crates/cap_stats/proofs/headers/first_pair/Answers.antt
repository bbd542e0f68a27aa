use Rattle.std.proofs.Common.{◌≡◌, ◌<◌, ◌≤◌, ℕ, length, Option, Some, IfSome, is_some, option_and_then, slice_get, sym, ap, subst, ◌∙◌, arith}
use Rattle.pk_tree.specs.declared.layer.Layer.{Layer}
use Rattle.cap_stats.specs.Places.{both_in}
use Rattle.cap_stats.specs.Told.{has_addresses}
use Rattle.cap_stats.proofs.PlaceLemmas.{find_found, find_none, further}
use Rattle.cap_stats.proofs.headers.first_pair.Goals as goal

pub returns-in-Some : goal.returns-in-Some
returns-in-Some c =
    let layers = c.args.outline.now.layers in
    let place = c.loop-place.place in
    let within : place < length layers = omega (arith, c.loop-place-test.true, c.layer_count-place-end.ensures) in
    let has = sym c.in_ok-pair.ensures.has ∙ ap (λ (o : Option (ℕ × ℕ)). is_some o) c.in-Some.is in
    subst (λ (o : Option (ℕ × ℕ)). IfSome o (λ both. Some both ≡ option_and_then both_in (slice_get layers place))) c.in-Some.is c.in_ok-pair.ensures.pair
    ∙ ap (λ (o : Option Layer). option_and_then both_in o) (find_found has_addresses layers place within has c.loop-place.invariant)

pub loop-place-preserved : goal.loop-place-preserved
loop-place-preserved c =
    let layers = c.args.outline.now.layers in
    let within : c.loop-place.place < length layers = omega (arith, c.loop-place-test.true, c.layer_count-place-end.ensures) in
    further has_addresses layers c.loop-place.place within (sym c.in_ok-pair.ensures.has ∙ ap (λ (o : Option (ℕ × ℕ)). is_some o) c.in_default.is) c.loop-place.invariant

pub returns : goal.returns
returns c =
    let layers = c.args.outline.now.layers in
    let over : length layers ≤ c.loop-place.place = omega (arith, c.loop-place-test.false, c.layer_count-place-end.ensures) in
    ap (λ (o : Option Layer). option_and_then both_in o) (find_none has_addresses layers c.loop-place.place over c.loop-place.invariant)
