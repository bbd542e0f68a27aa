use Rattle.std.proofs.Common.{◌≡◌, ◌||◌, ◌≤◌, ℕ}
use Rattle.flt_typed.specs.Asked.{asks}
use Rattle.flt_typed.specs.declared.typed.Typed.{size-Typed}
use Rattle.flt_typing.proofs.asked.+add_asked.Given as goal
use Rattle.pk_fields.specs.FieldSets.{is_in}

abbrev pub invariant-signs : goal.invariant-signs
invariant-signs l = record {
  size : size-Typed l.first ≤ size-Typed l.fn.filter;
  rest : (f : ℕ) → (asks l.first f || is_in l.set f) ≡ (asks l.fn.filter f || is_in l.fn.set f);
}
