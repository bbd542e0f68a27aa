use Rattle.std.proofs.Common.{◌≡◌, ◌∙◌, ap, drop}
use Rattle.flt_syntax.specs.Letters.{word_len}
use Rattle.flt_parse.proofs.Words.{word_begins, word_ends}
use Rattle.flt_parse.proofs.lexer.word_in.Goals as goal

pub range-requires-clause-start_boundary : goal.range-requires-clause-start_boundary
range-requires-clause-start_boundary c = λ _. word_begins c.args.text.now c.args.at c.requires.inside c.requires.word

pub range-requires-clause-end_boundary : goal.range-requires-clause-end_boundary
range-requires-clause-end_boundary c =
    let same : c.word_len.result ≡ word_len (drop c.args.at c.args.text.now) =
    c.word_len.ensures.value ∙ ap word_len (c.bytes_from.ensures ∙ ap (drop c.args.at) c.as_bytes.ensures.value) in
    rw same (word_ends c.args.text.now c.args.at c.utf8.text c.requires.inside c.requires.word)
