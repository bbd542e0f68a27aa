use Rattle.std.proofs.Common.{◌≡◌, ◌==◌, ℕ, true, false, Option, ap, sym, ◌∙◌}
use Rattle.std.specs.Option.{option_map}
use Rattle.pk_base.specs.declared.heads.Address.TheVariants.{Four, Six}
use Rattle.pk_fields.specs.Ids.{IP}
use Rattle.pk_tree.specs.Trees.{proto_at}
use Rattle.cap_stats.proofs.PlaceLemmas.{address_is}
use Rattle.cap_stats.proofs.headers.address_at.Goals as goal

pub returns-in_ok-address : goal.returns-in_ok-address
returns-in_ok-address c =
    let layers = c.args.outline.now.layers in
    let is : (proto_at layers c.args.place == IP) ≡ true = ap (λ (proto : ℕ). proto == IP) (sym c.protocol.ensures) ∙ sym c.eq.ensures ∙ c.if-eq.true in
    c.of_four.ensures ∙ ap (λ (o : Option ℕ). option_map Four o) c.in_ok-address.ensures
    ∙ address_is layers c.args.place c.args.four c.args.six true c.requires is

pub returns-in_ok-address-2 : goal.returns-in_ok-address-2
returns-in_ok-address-2 c =
    let layers = c.args.outline.now.layers in
    let is : (proto_at layers c.args.place == IP) ≡ false = ap (λ (proto : ℕ). proto == IP) (sym c.protocol.ensures) ∙ sym c.eq.ensures ∙ c.if-eq.false in
    c.of_six.ensures ∙ ap (λ (o : Option ℕ). option_map Six o) c.in_ok-address-2.ensures
    ∙ address_is layers c.args.place c.args.four c.args.six false c.requires is
