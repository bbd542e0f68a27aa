use Rattle.std.proofs.Common.{◌≤◌, length, arith}
use Rattle.flt_parse.proofs.Parsed.{text_read}
use Rattle.flt_parse.proofs.parser.parse.Goals as goal

pub returns-in-Ok-clause-ok : goal.returns-in-Ok-clause-ok
returns-in-Ok-clause-ok c =
    let short : length c.args.text.now ≤ 4096 = omega arith in
    text_read c.args.text.now c.in-Ok.tokens.items c.read_tokens.result short c.in-Ok.ensures.ok c.read_tokens.ensures.ok
