use Rattle.std.proofs.Common.{◌≡◌, true, false, nat_eq, length, drop, codes, arith, ap, sym, ◌∙◌}
use Rattle.std.specs.List.{starts_with}
use Rattle.flt_syntax.specs.Letters.{begins_word}
use Rattle.flt_syntax.specs.Tokens.{first_sign, plain_token, sign_lexeme}
use Rattle.flt_parse.proofs.Plain.{of_raw, of_sign, of_string, of_word, placed, token_of}
use Rattle.flt_parse.proofs.lexer.plain_token.Goals as goal

pub returns-then-starts_with : goal.returns-then-starts_with
returns-then-starts_with c =
    let rest = c.bytes_from-rest.result.now in
    let here : rest ≡ drop c.args.at c.args.text.now = c.bytes_from-rest.ensures ∙ ap (drop c.args.at) c.as_bytes.ensures.value in
    let quote : starts_with nat_eq rest (codes "\"") ≡ true = sym c.starts_with.ensures.value ∙ c.if-starts_with.true in
    placed c.args.at (plain_token c.args.mode c.args.at) rest c.args.text.now _ here (omega arith)
    (of_string c.args.mode c.args.at (length rest) rest _ quote c.string_token.ensures)

pub returns-then-starts_with-2 : goal.returns-then-starts_with-2
returns-then-starts_with-2 c =
    let rest = c.bytes_from-rest.result.now in
    let here : rest ≡ drop c.args.at c.args.text.now = c.bytes_from-rest.ensures ∙ ap (drop c.args.at) c.as_bytes.ensures.value in
    let quote : starts_with nat_eq rest (codes "\"") ≡ false = sym c.starts_with.ensures.value ∙ c.if-starts_with.false in
    let raw : starts_with nat_eq rest (codes "r\"") ≡ true = sym c.starts_with-2.ensures.value ∙ c.if-starts_with-2.true in
    placed c.args.at (plain_token c.args.mode c.args.at) rest c.args.text.now _ here (omega arith)
    (of_raw c.args.mode c.args.at (length rest) rest _ quote raw c.raw_token.ensures)

pub returns-then-begins_word : goal.returns-then-begins_word
returns-then-begins_word c =
    let rest = c.bytes_from-rest.result.now in
    let here : rest ≡ drop c.args.at c.args.text.now = c.bytes_from-rest.ensures ∙ ap (drop c.args.at) c.as_bytes.ensures.value in
    let quote : starts_with nat_eq rest (codes "\"") ≡ false = sym c.starts_with.ensures.value ∙ c.if-starts_with.false in
    let raw : starts_with nat_eq rest (codes "r\"") ≡ false = sym c.starts_with-2.ensures.value ∙ c.if-starts_with-2.false in
    let word : begins_word rest ≡ true = sym c.begins_word.ensures.value ∙ c.if-begins_word.true in
    placed c.args.at (plain_token c.args.mode c.args.at) rest c.args.text.now _ here (omega arith)
    (of_word c.args.mode c.args.at (length rest) rest _ quote raw word c.word_token.ensures)

pub returns : goal.returns
returns c =
    let rest = c.bytes_from-rest.result.now in
    let here : rest ≡ drop c.args.at c.args.text.now = c.bytes_from-rest.ensures ∙ ap (drop c.args.at) c.as_bytes.ensures.value in
    let quote : starts_with nat_eq rest (codes "\"") ≡ false = sym c.starts_with.ensures.value ∙ c.if-starts_with.false in
    let raw : starts_with nat_eq rest (codes "r\"") ≡ false = sym c.starts_with-2.ensures.value ∙ c.if-starts_with-2.false in
    let word : begins_word rest ≡ false = sym c.begins_word.ensures.value ∙ c.if-begins_word.false in
    placed c.args.at (plain_token c.args.mode c.args.at) rest c.args.text.now _ here (omega arith)
    (of_sign c.args.mode c.args.at (length rest) rest _ quote raw word (token_of c.args.at (length rest) (sign_lexeme c.args.mode c.args.at rest (first_sign rest)) _ c.sign_lexeme.ensures.ok c.sign_lexeme.ensures.within c.sign_lexeme.ensures.err))
