use Rattle.std.proofs.Common.{◌≡◌, ◌<◌, false, length, get_or, arith, rules}
use Rattle.flt_syntax.specs.Letters.{is_blank}
use Rattle.flt_parse.proofs.Lexing.{begun, token_refused, token_taken}
use Rattle.flt_parse.proofs.lexer.tokens_in.Goals as goal

pub tokens-init : goal.tokens-init
tokens-init c = record { within = omega arith; read = rw c.new-tokens.ensures.items (begun c.args.text.now) }

pub tokens-preserved : goal.tokens-preserved
tokens-preserved c =
    let other : is_blank (get_or c.args.text.now c.tokens.at 0) ≡ false = search rules in
    let inside : c.tokens.at < length c.args.text.now = omega arith in
    let token = c.in-Ok.ensures in
    record {
      within = omega (arith, token.2);
      read = rw (c.in-Ok-push_back.ensures.items, c.mode_behind-mode.ensures)
          (token_taken c.args.text.now c.tokens.tokens.items c.tokens.mode c.tokens.at c.in-Ok.lexeme inside other token.0 token.1 c.tokens.invariant.read);
    }

pub returns-in-Err-clause-err : goal.returns-in-Err-clause-err
returns-in-Err-clause-err c =
    let other : is_blank (get_or c.args.text.now c.tokens.at 0) ≡ false = search rules in
    rw c.refused.ensures
    (token_refused c.args.text.now c.tokens.tokens.items c.tokens.mode c.tokens.at c.in-Err.error (omega arith) other c.tokens.invariant.read c.in-Err.ensures)
