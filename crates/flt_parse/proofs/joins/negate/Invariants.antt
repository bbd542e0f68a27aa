use Rattle.std.proofs.Common.{◌≡◌, vec_len}
use Rattle.flt_parse.specs.Parser.Reading as reading
use Rattle.flt_parse.specs.Parser.States.{reversed}
use Rattle.flt_syntax.specs.Written.{written}
use Rattle.flt_parse.proofs.joins.negate.Given as goal

abbrev pub invariant-nots : goal.invariant-nots
invariant-nots l = reading.negated (reversed (λ n. n) l.fn.nots.items) (written l.fn.filter) ≡ reading.negated (reversed (λ n. n) l.rest.items) (written l.all)

abbrev pub decreases-nots : goal.decreases-nots
decreases-nots l = vec_len l.rest
