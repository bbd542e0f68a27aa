use Rattle.tcp_messages.proofs.Framed.{told_so}
use Rattle.tcp_messages.proofs.laws.told_law.Goals as goal

pub returns : goal.returns
returns c = told_so
