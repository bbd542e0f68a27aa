use Rattle.std.proofs.Common.{arith, suc}
use Rattle.cap_stats.proofs.FewLemmas.{few_more}
use Rattle.cap_stats.specs.declared.kind.StatKind.TheVariants.{ConvTcp, ConvIp, Phs}
use Rattle.run_frames.proofs.tables.Tables.note.Goals as goal

pub returns-in-Ok-clause-noted : goal.returns-in-Ok-clause-noted
returns-in-Ok-clause-noted c = λ plan trees are. record {
  conv_tcp = c.in_ok-note.ensures.noted plan ConvTcp trees are.conv_tcp;
  conv_ip = c.in_ok-note-2.ensures.noted plan ConvIp trees are.conv_ip;
  phs = c.in-Ok.ensures.noted plan Phs trees are.phs;
}

pub returns-in_err-note-clause-few : goal.returns-in_err-note-clause-few
returns-in_err-note-clause-few c = λ most few. record {
  conv_tcp = c.note.ensures.few most few.conv_tcp;
  conv_ip = few_more most (suc most) c.args.self.now.conv_ip.stats (omega arith) few.conv_ip;
  phs = few_more most (suc most) c.args.self.now.phs.stats (omega arith) few.phs;
}

pub returns-in_err-note-2-clause-few : goal.returns-in_err-note-2-clause-few
returns-in_err-note-2-clause-few c = λ most few. record {
  conv_tcp = c.note.ensures.few most few.conv_tcp;
  conv_ip = c.note-2.ensures.few most few.conv_ip;
  phs = few_more most (suc most) c.args.self.now.phs.stats (omega arith) few.phs;
}

pub returns-in-Ok-clause-few : goal.returns-in-Ok-clause-few
returns-in-Ok-clause-few c = λ most few. record {
  conv_tcp = c.note.ensures.few most few.conv_tcp;
  conv_ip = c.note-2.ensures.few most few.conv_ip;
  phs = c.note-3.ensures.few most few.phs;
}

pub returns-in-Err-clause-few : goal.returns-in-Err-clause-few
returns-in-Err-clause-few c = λ most few. record {
  conv_tcp = c.note.ensures.few most few.conv_tcp;
  conv_ip = c.note-2.ensures.few most few.conv_ip;
  phs = c.note-3.ensures.few most few.phs;
}
