use Rattle.std.proofs.Common.{◌≡◌, ◌||◌, ◌<◌, ℕ, Some, true, drop, slice_get}
use Rattle.flt_program.specs.Asked.{HasField, asks_in}
use Rattle.flt_program.specs.declared.instr.Instr.{Instr}
use Rattle.flt_program.proofs.fields.add_asked.Given as goal
use Rattle.pk_fields.specs.FieldSets.{is_in}

abbrev pub invariant-loop-instr : goal.invariant-loop-instr
invariant-loop-instr l = record {
  fields : (k : ℕ) (i : Instr) → k < l.instr-index → slice_get l.code k ≡ Some i → HasField l.set i;
  added : (f : ℕ) → (asks_in (drop l.instr-index l.code) f || is_in l.set f) ≡ (asks_in l.fn.code f || is_in l.fn.set f);
  kept : (f : ℕ) → is_in l.fn.set f ≡ true → is_in l.set f ≡ true;
}
