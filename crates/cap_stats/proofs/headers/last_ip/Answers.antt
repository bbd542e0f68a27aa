use Rattle.std.proofs.Common.{◌≡◌, ◌==◌, ◌||◌, ◌+◌, ◌-◌, ◌<◌, ℕ, true, false, length, reverse, take, sym, ap, ◌∙◌, arith}
use Rattle.std.specs.List.{find}
use Rattle.pk_fields.specs.Ids.{IP, IPV6}
use Rattle.pk_tree.specs.Trees.{proto_at}
use Rattle.cap_stats.specs.Told.{is_ip}
use Rattle.cap_stats.proofs.PlaceLemmas.{one_back}
use Rattle.cap_stats.proofs.headers.last_ip.Goals as goal

pub loop-step-preserved : goal.loop-step-preserved
loop-step-preserved c =
    let layers = c.args.outline.now.layers in
    let at = c.args.at in
    let step = c.loop-step.step in
    let place = at - 1 - step in
    let within : place < length layers = omega (arith, c.requires) in
    let here : at - step ≡ place + 1 = omega (arith, c.loop-step-test.true) in
    let next : place ≡ at - (step + 1) = omega (arith, c.loop-step-test.true) in
    let is : (proto_at layers place == IP || proto_at layers place == IPV6) ≡ false
    = ap (λ (proto : ℕ). proto == IP || proto == IPV6) (sym c.protocol.ensures) ∙ sym c.is_ip.ensures ∙ c.if-is_ip.false in
    c.loop-step.invariant ∙ ap (λ (n : ℕ). find is_ip (reverse (take n layers))) here ∙ one_back layers place false within is
    ∙ ap (λ (n : ℕ). find is_ip (reverse (take n layers))) next

pub returns-then-is_ip-clause-header : goal.returns-then-is_ip-clause-header
returns-then-is_ip-clause-header c =
    let layers = c.args.outline.now.layers in
    let at = c.args.at in
    let step = c.loop-step.step in
    let place = at - 1 - step in
    let within : place < length layers = omega (arith, c.requires) in
    let here : at - step ≡ place + 1 = omega (arith, c.loop-step-test.true) in
    let is : (proto_at layers place == IP || proto_at layers place == IPV6) ≡ true
    = ap (λ (proto : ℕ). proto == IP || proto == IPV6) (sym c.protocol.ensures) ∙ sym c.is_ip.ensures ∙ c.if-is_ip.true in
    sym (c.loop-step.invariant ∙ ap (λ (n : ℕ). find is_ip (reverse (take n layers))) here ∙ one_back layers place true within is)

pub returns-clause-header : goal.returns-clause-header
returns-clause-header c =
    let layers = c.args.outline.now.layers in
    let none : c.args.at - c.loop-step.step ≡ 0 = omega (arith, c.loop-step-test.false) in
    sym (c.loop-step.invariant ∙ ap (λ (n : ℕ). find is_ip (reverse (take n layers))) none)
