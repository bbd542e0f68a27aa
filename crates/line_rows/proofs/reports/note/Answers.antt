use Rattle.std.proofs.Common.{◌-◌, ◌^◌, arith}
use Rattle.cap_stats.proofs.FewLemmas.{few_more}
use Rattle.line_rows.proofs.reports.note.Goals as goal

pub note-requires : goal.note-requires
note-requires c = few_more 100 (2 ^ 32 - 1) c.args.stats.now (omega arith) c.requires
