use Rattle.std.proofs.Common.{◌≡◌, drop}
use Rattle.shark_words.specs.Faults.{first_fault}
use Rattle.shark_words.proofs.faults.first_fault_behind.Given as goal

abbrev pub invariant-loop-used : goal.invariant-loop-used
invariant-loop-used l = first_fault l.fn.held l.uses ≡ first_fault l.held (drop l.used-index l.uses)
