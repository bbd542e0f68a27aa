use Rattle.std.proofs.Common.{arith, ap, sym, ◌∙◌, refl}
use Rattle.std.specs.List.{find}
use Rattle.std.specs.Str.{bytes_eq}
use Rattle.std.proofs.lemmas.List.{drop_all}
use Rattle.flt_syntax.specs.Tokens.{keyword_text, keywords}
use Rattle.flt_parse.proofs.Fronts.{found_here, found_later}
use Rattle.flt_parse.proofs.keywords.keyword_of.Goals as goal

pub loop-keyword-init : goal.loop-keyword-init
loop-keyword-init c = refl

pub returns-then-eq : goal.returns-then-eq
returns-then-eq c =
    let word = c.args.word.now in
    sym (c.loop-keyword.invariant ∙ found_here (λ k. bytes_eq (keyword_text k) word) keywords c.loop-keyword.keyword-index _ (omega arith)
    (ap (λ t. bytes_eq t word) (sym c.keyword_text.ensures) ∙ sym c.eq.ensures ∙ c.if-eq.true))

pub loop-keyword-preserved : goal.loop-keyword-preserved
loop-keyword-preserved c =
    let word = c.args.word.now in
    c.loop-keyword.invariant ∙ found_later (λ k. bytes_eq (keyword_text k) word) keywords c.loop-keyword.keyword-index _ (omega arith)
    (ap (λ t. bytes_eq t word) (sym c.keyword_text.ensures) ∙ sym c.eq.ensures ∙ c.if-eq.false)

pub returns : goal.returns
returns c =
    let word = c.args.word.now in
    sym (c.loop-keyword.invariant ∙ ap (find (λ k. bytes_eq (keyword_text k) word)) (drop_all c.loop-keyword.keyword-index keywords (omega arith)))
