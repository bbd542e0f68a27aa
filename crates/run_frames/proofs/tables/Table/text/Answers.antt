use Rattle.std.proofs.Common.{◌∙◌, ap}
use Rattle.cap_stats.specs.Tables.{table_of}
use Rattle.cap_stats.specs.declared.kind.StatKind.{StatKind}
use Rattle.run_frames.proofs.tables.Table.text.Goals as goal

pub returns-in-Ok : goal.returns-in-Ok
returns-in-Ok c = λ plan kind trees is asked. c.in-Ok.ensures.table trees (is.stands asked) ∙ ap (λ (k : StatKind). table_of k trees) is.counts
