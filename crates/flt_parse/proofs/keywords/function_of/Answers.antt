use Rattle.std.proofs.Common.{arith, ap, sym, ◌∙◌, refl}
use Rattle.std.specs.List.{find}
use Rattle.std.specs.Str.{bytes_eq}
use Rattle.std.proofs.lemmas.List.{drop_all}
use Rattle.flt_syntax.specs.Tokens.{function_text, functions}
use Rattle.flt_parse.proofs.Fronts.{found_here, found_later}
use Rattle.flt_parse.proofs.keywords.function_of.Goals as goal

pub loop-function-init : goal.loop-function-init
loop-function-init c = refl

pub returns-then-eq : goal.returns-then-eq
returns-then-eq c =
    let word = c.args.word.now in
    sym (c.loop-function.invariant ∙ found_here (λ k. bytes_eq (function_text k) word) functions c.loop-function.function-index _ (omega arith)
    (ap (λ t. bytes_eq t word) (sym c.function_text.ensures) ∙ sym c.eq.ensures ∙ c.if-eq.true))

pub loop-function-preserved : goal.loop-function-preserved
loop-function-preserved c =
    let word = c.args.word.now in
    c.loop-function.invariant ∙ found_later (λ k. bytes_eq (function_text k) word) functions c.loop-function.function-index _ (omega arith)
    (ap (λ t. bytes_eq t word) (sym c.function_text.ensures) ∙ sym c.eq.ensures ∙ c.if-eq.false)

pub returns : goal.returns
returns c =
    let word = c.args.word.now in
    sym (c.loop-function.invariant ∙ ap (find (λ k. bytes_eq (function_text k) word)) (drop_all c.loop-function.function-index functions (omega arith)))
