use Rattle.std.proofs.Common.{◌≡◌, vec_len}
use Rattle.flt_parse.specs.Parser.Reading as reading
use Rattle.flt_parse.specs.Parser.States.{waiting_of}
use Rattle.flt_syntax.specs.Written.{operand_of}
use Rattle.flt_parse.proofs.links.wait.Given as goal

abbrev pub invariant-waiting : goal.invariant-waiting
invariant-waiting l = reading.wait l.link (waiting_of l.initial.waiting.items) (operand_of l.fn.operand) ≡ reading.wait l.link (waiting_of l.waiting.items) (operand_of l.all)

abbrev pub decreases-waiting : goal.decreases-waiting
decreases-waiting l = vec_len l.waiting
