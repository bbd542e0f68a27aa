use Rattle.std.proofs.Common.{ℕ, List, subst}
use Rattle.run_frames.specs.Wanted.{HasFields}
use Rattle.run_output.proofs.EnoughLemmas.{grown_columns, still_asked}
use Rattle.run_output.proofs.wanted.wanted_fields.Goals as goal

pub returns : goal.returns
returns c = record {
  filter = still_asked c.add_filter.new.wanted c.add_summary.new.wanted c.args.plan.now.chosen c.add_filter.ensures
      (λ f is. c.add_summary.ensures.kept f (c.add_columns.ensures.kept f is));
  columns = grown_columns c.add_columns.new.wanted c.add_summary.new.wanted c.args.plan.now.fields
      (subst (λ (fields : List ℕ). HasFields c.add_columns.new.wanted fields) c.slice.ensures c.add_columns.ensures.all) c.add_summary.ensures.kept;
  summary = c.add_summary.ensures.summary;
}
