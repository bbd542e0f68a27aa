use Rattle.std.proofs.Common.{◌≡◌, ◌<◌, ℕ, true, get_or}
use Rattle.pk_fields.specs.FieldSets.{is_in}
use Rattle.run_output.proofs.wanted.add_columns.Given as goal

abbrev pub invariant-loop-field : goal.invariant-loop-field
invariant-loop-field l = record {
  kept : (f : ℕ) → is_in l.initial.wanted f ≡ true → is_in l.wanted f ≡ true;
  there : (k : ℕ) → k < l.field-index → is_in l.wanted (get_or l.fields k 0) ≡ true;
}
