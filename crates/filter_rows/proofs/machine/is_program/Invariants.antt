use Rattle.std.proofs.Common.{◌≡◌, ◌<◌, ℕ, Some, length}
use Rattle.std.specs.List.{slice_get}
use Rattle.flt_program.specs.Programs.{Fits}
use Rattle.flt_program.specs.declared.instr.Instr.{Instr}
use Rattle.filter_rows.proofs.machine.is_program.Given as goal

abbrev pub invariant-loop-at : goal.invariant-loop-at
invariant-loop-at l = (k : ℕ) (i : Instr) → k < l.at → slice_get l.code k ≡ Some i → Fits l.registers (length l.code) k i
