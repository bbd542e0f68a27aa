use Rattle.std.proofs.Common.{◌≡◌, vec_len}
use Rattle.flt_parse.specs.Parser.Reading as reading
use Rattle.flt_parse.specs.Parser.States.{waiting_of}
use Rattle.flt_syntax.specs.Written.{operand_of}
use Rattle.flt_parse.proofs.links.link_all.Given as goal

abbrev pub invariant-waiting : goal.invariant-waiting
invariant-waiting l = reading.all_linked (waiting_of l.fn.waiting.items) (operand_of l.fn.operand) ≡ reading.all_linked (waiting_of l.rest.items) (operand_of l.all)

abbrev pub decreases-waiting : goal.decreases-waiting
decreases-waiting l = vec_len l.rest
