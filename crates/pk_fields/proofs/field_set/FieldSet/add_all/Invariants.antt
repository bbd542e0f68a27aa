use Rattle.std.proofs.Common.{◌≡◌, ◌||◌, ℕ, drop}
use Rattle.pk_fields.specs.AddedFields.{adds}
use Rattle.pk_fields.specs.FieldSets.{is_in}
use Rattle.pk_fields.proofs.field_set.FieldSet.add_all.Given as goal

abbrev pub invariant-loop-field : goal.invariant-loop-field
invariant-loop-field l = (f : ℕ) → (adds (drop l.field-index l.fields) f || is_in l.self f) ≡ (adds l.fn.fields f || is_in l.fn.self f)
