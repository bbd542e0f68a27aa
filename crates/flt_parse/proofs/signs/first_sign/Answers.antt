use Rattle.std.proofs.Common.{nat_eq, arith, ap, sym, ◌∙◌, refl}
use Rattle.std.specs.List.{find, starts_with}
use Rattle.std.proofs.lemmas.List.{drop_all}
use Rattle.flt_syntax.specs.Tokens.{all_signs, sign_text}
use Rattle.flt_parse.proofs.Fronts.{found_fits, found_here, found_later}
use Rattle.flt_parse.proofs.signs.first_sign.Goals as goal

pub loop-sign-init : goal.loop-sign-init
loop-sign-init c = refl

pub returns-then-starts_with-clause-value : goal.returns-then-starts_with-clause-value
returns-then-starts_with-clause-value c =
    let bytes = c.args.bytes.now in
    sym (c.loop-sign.invariant ∙ found_here (λ s. starts_with nat_eq bytes (sign_text s)) all_signs c.loop-sign.sign-index _ (omega arith)
    (ap (starts_with nat_eq bytes) (sym c.sign_text.ensures) ∙ sym c.starts_with.ensures.value ∙ c.if-starts_with.true))

pub returns-then-starts_with-clause-within : goal.returns-then-starts_with-clause-within
returns-then-starts_with-clause-within c = found_fits c.args.bytes.now _ (returns-then-starts_with-clause-value c)

pub loop-sign-preserved : goal.loop-sign-preserved
loop-sign-preserved c =
    let bytes = c.args.bytes.now in
    c.loop-sign.invariant ∙ found_later (λ s. starts_with nat_eq bytes (sign_text s)) all_signs c.loop-sign.sign-index _ (omega arith)
    (ap (starts_with nat_eq bytes) (sym c.sign_text.ensures) ∙ sym c.starts_with.ensures.value ∙ c.if-starts_with.false)

pub returns-clause-value : goal.returns-clause-value
returns-clause-value c =
    let bytes = c.args.bytes.now in
    sym (c.loop-sign.invariant ∙ ap (find (λ s. starts_with nat_eq bytes (sign_text s))) (drop_all c.loop-sign.sign-index all_signs (omega arith)))
