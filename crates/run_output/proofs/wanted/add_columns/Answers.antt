use Rattle.std.proofs.Common.{◌≡◌, ℕ, true, get_or, sym, ◌∙◌, arith}
use Rattle.std.proofs.lemmas.Grind.{get_or_default_zero}
use borrow.Author.Count.{below_more}
use Rattle.pk_fields.specs.Fields.{row_of}
use Rattle.pk_fields.specs.FieldSets.{is_in}
use Rattle.run_output.proofs.EnoughLemmas.{added_before, added_now, each_at}
use Rattle.run_output.proofs.wanted.add_columns.Goals as goal

pub loop-field-preserved : goal.loop-field-preserved
loop-field-preserved c = record {
  kept = λ f is. added_before _ _ f _ _ (c.add.ensures f) (c.loop-field.invariant.kept f is);
  there = below_more (λ (k : ℕ). is_in c.add.new.self (get_or c.args.fields.now k 0) ≡ true) c.loop-field.field-index
      (λ k below. added_before _ _ (get_or c.args.fields.now k 0) _ _ (c.add.ensures (get_or c.args.fields.now k 0)) (c.loop-field.invariant.there k below))
      (added_now (get_or c.args.fields.now c.loop-field.field-index 0) c.field-item.result (row_of c.field-item.result).proto
      (is_in c.loop-field.wanted (get_or c.args.fields.now c.loop-field.field-index 0)) (is_in c.add.new.self (get_or c.args.fields.now c.loop-field.field-index 0))
      (sym (get_or_default_zero c.args.fields.now c.loop-field.field-index c.field-item.result (omega arith)) ∙ sym c.field-item.is) (c.add.ensures (get_or c.args.fields.now c.loop-field.field-index 0)));
}

pub returns-clause-all : goal.returns-clause-all
returns-clause-all c =
    each_at (λ field. is_in c.loop-field.wanted field ≡ true) c.args.fields.now (λ k below. c.loop-field.invariant.there k (omega arith))
