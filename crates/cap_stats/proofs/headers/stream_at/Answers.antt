use Rattle.std.proofs.Common.{◌≡◌, ◌==◌, ℕ, false, sym, ap, ◌∙◌}
use Rattle.pk_fields.specs.Ids.{TCP}
use Rattle.pk_tree.specs.Trees.{proto_at}
use Rattle.cap_stats.proofs.Elsewhere.{no_stream_there}
use Rattle.cap_stats.proofs.headers.stream_at.Goals as goal

pub returns-else-eq : goal.returns-else-eq
returns-else-eq c =
    let t = c.args.outline.now in
    let other : (proto_at t.layers c.args.place == TCP) ≡ false = ap (λ (proto : ℕ). proto == TCP) (sym c.protocol.ensures) ∙ sym c.eq.ensures ∙ c.if-eq.false in
    no_stream_there t c.args.place c.fits.ensures c.requires other
