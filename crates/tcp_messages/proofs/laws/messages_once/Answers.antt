use Rattle.tcp_messages.proofs.Growing.{each_once}
use Rattle.tcp_messages.proofs.laws.messages_once.Goals as goal

pub returns : goal.returns
returns c = each_once
