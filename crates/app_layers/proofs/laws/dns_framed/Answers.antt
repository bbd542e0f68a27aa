use Rattle.app_layers.proofs.DnsFraming.{dns_framed}
use Rattle.app_layers.proofs.laws.dns_framed.Goals as goal

pub returns : goal.returns
returns c = dns_framed
