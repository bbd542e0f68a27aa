use Rattle.std.proofs.Common.{◌≡◌, length}
use Rattle.flt_syntax.specs.Filters.{most_open}
use Rattle.flt_parse.specs.Parser.Reading as reading
use Rattle.flt_parse.specs.Parser.Answers.{tokens_read}
use Rattle.flt_parse.specs.Parser.States.{state_of}
use Rattle.flt_parse.proofs.parser.read_tokens.Given as goal

abbrev pub invariant-tokens : goal.invariant-tokens
invariant-tokens l = tokens_read most_open reading.start l.fn.tokens.items ≡ tokens_read most_open (state_of l.state) l.rest.items

abbrev pub decreases-tokens : goal.decreases-tokens
decreases-tokens l = length l.rest.items
