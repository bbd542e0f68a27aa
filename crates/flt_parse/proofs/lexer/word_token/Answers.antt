use Rattle.flt_parse.proofs.Plain.{word_placed}
use Rattle.flt_parse.proofs.lexer.word_token.Goals as goal

pub returns : goal.returns
returns c =
    word_placed c.args.mode c.args.at c.args.text.now c.args.word.now c.bytes_from.result.now c.word_len.result c.in_ok-word_lexeme.field-0 c.requires.word
    c.word_len.ensures.value c.word_len.ensures.within c.bytes_from.ensures c.requires.some c.in_ok-word_lexeme.ensures.ok c.in_ok-word_lexeme.ensures.within
