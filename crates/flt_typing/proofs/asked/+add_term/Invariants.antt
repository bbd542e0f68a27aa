use Rattle.std.proofs.Common.{◌≡◌, ◌||◌, ◌≤◌, ℕ}
use Rattle.flt_typed.specs.Asked.{asks_term}
use Rattle.flt_typed.specs.declared.typed.Term.{size-Term}
use Rattle.flt_typing.proofs.asked.+add_term.Given as goal
use Rattle.pk_fields.specs.FieldSets.{is_in}

abbrev pub invariant-signs : goal.invariant-signs
invariant-signs l = record {
  size : size-Term l.first ≤ size-Term l.fn.term;
  rest : (f : ℕ) → (asks_term l.first f || is_in l.set f) ≡ (asks_term l.fn.term f || is_in l.fn.set f);
}
