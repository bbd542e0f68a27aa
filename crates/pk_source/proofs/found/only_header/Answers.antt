use Rattle.std.proofs.Common.{◌≡◌, ◌==◌, ◌<◌, true, false, length, rules, ap, sym, ◌∙◌}
use Rattle.pk_source.specs.declared.header.Header.{Header}
use Rattle.pk_source.proofs.OnlyLemmas.{one_more_other, only_found}
use Rattle.pk_source.proofs.found.only_header.Goals as goal

pub returns-then-eq : goal.returns-then-eq
returns-then-eq c =
    let inside : c.loop-at.at < length c.args.headers.now = search rules in
    let mine : (c.index-headers-at.result.proto == c.args.home) ≡ true = ap (λ (h : Header). h.proto == c.args.home) c.index-headers-at.is ∙ sym c.eq.ensures ∙ c.if-eq.true in
    only_found (λ lent. lent.now) c.args.home c.args.headers.now c.loop-at.at c.only_at.result c.index-headers-at.result inside c.index-headers-at.is mine c.loop-at.invariant c.only_at.ensures

pub loop-at-preserved : goal.loop-at-preserved
loop-at-preserved c =
    let inside : c.loop-at.at < length c.args.headers.now = search rules in
    let other : (c.index-headers-at.result.proto == c.args.home) ≡ false = ap (λ (h : Header). h.proto == c.args.home) c.index-headers-at.is ∙ sym c.eq.ensures ∙ c.if-eq.false in
    one_more_other c.args.home c.args.headers.now c.loop-at.at c.index-headers-at.result other inside c.index-headers-at.is c.loop-at.invariant
