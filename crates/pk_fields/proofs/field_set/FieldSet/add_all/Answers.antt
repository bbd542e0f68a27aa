use Rattle.std.proofs.Common.{◌≡◌, ◌<◌, ◌||◌, ◌∙◌, ℕ, sym, arith, length}
use Rattle.std.proofs.lemmas.List.{at_drop_all}
use Rattle.pk_fields.specs.AddedFields.{adds}
use Rattle.pk_fields.specs.FieldSets.{is_in}
use Rattle.pk_fields.proofs.AddedLemmas.{added_more, all_added, kept_by}
use Rattle.pk_fields.proofs.field_set.FieldSet.add_all.Goals as goal

pub loop-field-preserved : goal.loop-field-preserved
loop-field-preserved c = λ f.
    let inside : c.loop-field.field-index < length c.args.fields.now = omega arith in
    added_more c.loop-field.self c.add.new.self c.args.fields.now c.loop-field.field-index c.field-item.result f _ inside c.field-item.is (c.add.ensures f)
    (c.loop-field.invariant f)

-- what the set has once all are added
at_end : (c : goal.After-loop-field) (f : ℕ) → is_in c.loop-field.self f ≡ (adds c.args.fields.now f || is_in c.args.self.now f)
at_end c f =
    sym (at_drop_all (λ xs. adds xs f || is_in c.loop-field.self f) c.args.fields.now c.loop-field.field-index c.loop-field-test.false)
    ∙ c.loop-field.invariant f

pub returns-clause-fields : goal.returns-clause-fields
returns-clause-fields c = all_added c.loop-field.self c.args.self.now c.args.fields.now (at_end c)

pub returns-clause-kept : goal.returns-clause-kept
returns-clause-kept c = kept_by c.loop-field.self c.args.self.now c.args.fields.now (at_end c)
