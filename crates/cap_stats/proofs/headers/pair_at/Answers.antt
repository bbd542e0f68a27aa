use Rattle.std.proofs.Common.{◌≡◌, ◌==◌, ℕ, true, false, sym, ap, ◌∙◌}
use Rattle.pk_fields.specs.Ids.{IP, IP_DST, IP_SRC}
use Rattle.pk_tree.specs.Trees.{proto_at}
use Rattle.cap_stats.specs.Places.{both_told, four_there, has_there}
use Rattle.cap_stats.specs.Told.{has_addresses}
use Rattle.cap_stats.proofs.PlaceLemmas.{addresses_are, both_has, ok_has}
use Rattle.cap_stats.proofs.headers.pair_at.Goals as goal

pub returns-then-eq-clause-has : goal.returns-then-eq-clause-has
returns-then-eq-clause-has c =
    let layers = c.args.outline.now.layers in
    let place = c.args.place in
    let is : (proto_at layers place == IP) ≡ true = ap (λ (proto : ℕ). proto == IP) (sym c.protocol.ensures) ∙ sym c.eq.ensures ∙ c.if-eq.true in
    ok_has c.both_at.result (both_told (four_there layers place IP_SRC) (four_there layers place IP_DST)) (has_there has_addresses layers place)
    (both_has (four_there layers place IP_SRC) (four_there layers place IP_DST) ∙ addresses_are layers place true c.requires is) c.both_at.ensures

pub returns-else-eq-clause-has : goal.returns-else-eq-clause-has
returns-else-eq-clause-has c =
    let layers = c.args.outline.now.layers in
    let is : (proto_at layers c.args.place == IP) ≡ false = ap (λ (proto : ℕ). proto == IP) (sym c.protocol.ensures) ∙ sym c.eq.ensures ∙ c.if-eq.false in
    addresses_are layers c.args.place false c.requires is
