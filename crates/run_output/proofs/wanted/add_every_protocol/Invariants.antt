use Rattle.std.proofs.Common.{◌≡◌, ◌<◌, ℕ, true}
use Rattle.pk_fields.specs.Fields.{row_of}
use Rattle.pk_fields.specs.FieldSets.{is_in}
use Rattle.pk_tree.specs.Values.{is_proto}
use Rattle.run_output.proofs.wanted.add_every_protocol.Given as goal

abbrev pub invariant-loop-number : goal.invariant-loop-number
invariant-loop-number l = record {
  kept : (f : ℕ) → is_in l.initial.wanted f ≡ true → is_in l.wanted f ≡ true;
  there : (f : ℕ) → f < l.number → is_proto (row_of f).kind ≡ true → is_in l.wanted f ≡ true;
}
