-- The rows of a message of DHCP are of it.
use Rattle.std.proofs.Common.{ℕ, List}
use Rattle.pk_fields.specs.Ids.{DHCP}
use Rattle.pk_tree.specs.Layouts.{StepsFit}
use Rattle.dis_hosts.specs.Dhcp.{dhcp_layout}
use Rattle.dis_hosts.proofs.DhcpLemmas.{layout_fits as rows_fit}

pub layout_fits : (bytes : List ℕ) → StepsFit DHCP (dhcp_layout bytes)
layout_fits bytes = rows_fit bytes
