use Rattle.std.proofs.Common.{◌-◌, ◌^◌, arith}
use Rattle.cap_stats.proofs.FewLemmas.{few_more}
use Rattle.run_frames.proofs.tables.Table.note.Goals as goal

pub note_source-requires : goal.note_source-requires
note_source-requires c = few_more (2 ^ 28) (2 ^ 32 - 1) c.args.self.now.stats (omega arith) c.requires
