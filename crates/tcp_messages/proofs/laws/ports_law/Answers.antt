use Rattle.tcp_messages.proofs.Ports.{of_ports}
use Rattle.tcp_messages.proofs.laws.ports_law.Goals as goal

pub returns : goal.returns
returns c = of_ports
