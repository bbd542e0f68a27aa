use Rattle.std.proofs.Common.{arith, suc}
use Rattle.run_frames.proofs.NoteLemmas.{noted_left, noted_more, tables_few}
use Rattle.run_frames.proofs.notes.Notes.note.Goals as goal

pub returns-then-verdict-clause-noted : goal.returns-then-verdict-clause-noted
returns-then-verdict-clause-noted c =
    noted_more c.note.result c.args.plan.now c.args.source.now c.args.verdict c.args.self.now c.totals_after-self.result c.note.new.self
    c.if-verdict.true c.requires.verdict c.totals_after-self.ensures.value c.note.ensures.noted

pub returns-then-verdict-clause-few : goal.returns-then-verdict-clause-few
returns-then-verdict-clause-few c = record {
  few = λ most few. record { totals = c.totals_after-self.ensures.few most few.totals; tables = c.note.ensures.few most few.tables };
}

pub returns-else-verdict-clause-noted : goal.returns-else-verdict-clause-noted
returns-else-verdict-clause-noted c =
    noted_left c.args.plan.now c.args.source.now c.args.verdict c.args.self.now c.totals_after-self.result c.if-verdict.false c.requires.verdict c.totals_after-self.ensures.value

pub returns-else-verdict-clause-few : goal.returns-else-verdict-clause-few
returns-else-verdict-clause-few c = record {
  few = λ most few. record {
    totals = c.totals_after-self.ensures.few most few.totals;
    tables = tables_few most (suc most) c.args.self.now.tables (omega arith) few.tables;
  };
}
