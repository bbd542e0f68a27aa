-- The rows of a message of multicast DNS are of it.
use Rattle.std.proofs.Common.{ℕ, List}
use Rattle.pk_fields.specs.Ids.{MDNS}
use Rattle.pk_tree.specs.Layouts.{StepsFit}
use Rattle.dis_dns.specs.Dns.{mdns_layout}
use Rattle.dis_dns.proofs.DnsFits.{mdns_layout_fits}

pub layout_fits : (bytes : List ℕ) → StepsFit MDNS (mdns_layout bytes)
layout_fits bytes = mdns_layout_fits bytes
