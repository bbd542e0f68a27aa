use Rattle.std.proofs.Common.{◌≡◌, ◌-◌, length, drop, arith, ap, ◌∙◌}
use Rattle.flt_syntax.specs.Tokens.{bracket_token}
use Rattle.flt_parse.proofs.Plain.{in_brackets, outside_brackets, placed, token_of}
use Rattle.flt_parse.proofs.lexer.token_at.Goals as goal

pub returns-in-InBrackets : goal.returns-in-InBrackets
returns-in-InBrackets c =
    let text = c.args.text.now in
    let rest = c.bytes_from.result.now in
    let here : rest ≡ drop c.args.at text = c.bytes_from.ensures ∙ ap (drop c.args.at) c.as_bytes.ensures.value in
    let told = c.bracket_token.ensures in
    in_brackets c.args.mode c.args.at (length text - c.args.at) (drop c.args.at text) _ c.in-InBrackets.is
    (placed c.args.at (bracket_token c.args.at) rest text _ here (omega arith)
    (token_of c.args.at (length rest) (bracket_token c.args.at rest) _ told.ok told.within told.err))

pub returns-in-Plain : goal.returns-in-Plain
returns-in-Plain c = outside_brackets c.args.mode c.args.at _ _ _ c.in-Plain.is c.plain_token.ensures
