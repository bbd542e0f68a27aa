use Rattle.tcp_messages.proofs.Alone.{stands_alone, stands_renumbered}
use Rattle.tcp_messages.proofs.laws.messages_alone.Goals as goal

pub returns-clause-alone : goal.returns-clause-alone
returns-clause-alone c = stands_alone

pub returns-clause-renumbered : goal.returns-clause-renumbered
returns-clause-renumbered c = stands_renumbered
