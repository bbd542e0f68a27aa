use Rattle.std.proofs.Common.{◌≡◌, vec_len}
use Rattle.flt_parse.specs.Parser.Reading as reading
use Rattle.flt_parse.specs.Parser.States.{left_of, reversed}
use Rattle.flt_syntax.specs.Written.{written}
use Rattle.flt_parse.proofs.joins.settle.Given as goal

abbrev pub invariant-lefts : goal.invariant-lefts
invariant-lefts l = reading.settle l.join (reversed left_of l.initial.lefts.items) (written l.fn.filter) ≡ reading.settle l.join (reversed left_of l.lefts.items) (written l.all)

abbrev pub decreases-lefts : goal.decreases-lefts
decreases-lefts l = vec_len l.lefts
