-- Layouts of headers fit their protocol, and are read whole where all their bytes are there.
use Rattle.std.proofs.Common.{rules, ◌≡◌, ◌≤◌, ◌<◌, ◌+◌, ◌^◌, ℕ, Bool, List, length}
use Rattle.pk_fields.specs.Fields.{row_of}
use Rattle.pk_fields.specs.Ids.{ETH, VLAN, ARP, NULL, SLL, SLL2}
use Rattle.pk_fields.specs.Table.{rows}
use Rattle.pk_tree.specs.Layouts.{reach, step_reach, StepsFit}
use Rattle.pk_tree.specs.declared.layout.Reach.TheVariants.{All}
use Rattle.dis_link.specs.Arp.{arp_layout, is_ip_over_ether, hw_size, proto_size}
use Rattle.dis_link.specs.Ethernet.{eth_layout}
use Rattle.dis_link.specs.LinuxCooked.{sll_layout, sll2_layout}
use Rattle.dis_link.specs.Null.{family, null_layout}
use Rattle.dis_link.specs.Vlan.{vlan_layout}

pub eth_fits : (bytes : List ℕ) → StepsFit ETH (eth_layout bytes)
unfolding eth_layout StepsFit row_of rows
eth_fits bytes = search rules

pub eth_whole : (bytes : List ℕ) (end : ℕ) → 14 ≤ end → reach end (eth_layout bytes) ≡ All
unfolding eth_layout reach step_reach row_of rows
eth_whole bytes end all = search rules

pub vlan_fits : (bytes : List ℕ) → StepsFit VLAN (vlan_layout bytes)
unfolding vlan_layout StepsFit row_of rows
vlan_fits bytes = search rules

pub vlan_whole : (bytes : List ℕ) (end : ℕ) → 4 ≤ end → reach end (vlan_layout bytes) ≡ All
unfolding vlan_layout reach step_reach row_of rows
vlan_whole bytes end all = search rules

pub arp_fits : (bytes : List ℕ) → StepsFit ARP (arp_layout bytes)
unfolding arp_layout StepsFit row_of rows
arp_fits bytes = search rules

pub arp_whole : (bytes : List ℕ) (end : ℕ) → 8 + hw_size bytes + proto_size bytes + hw_size bytes + proto_size bytes ≤ end → reach end (arp_layout bytes) ≡ All
unfolding arp_layout is_ip_over_ether reach step_reach row_of rows
arp_whole bytes end all = search rules

pub null_fits : (little : Bool) (bytes : List ℕ) → family little bytes < 2 ^ 32 → StepsFit NULL (null_layout little bytes)
unfolding null_layout StepsFit row_of rows
null_fits little bytes bound = search rules

pub null_whole : (little : Bool) (bytes : List ℕ) (end : ℕ) → 4 ≤ end → reach end (null_layout little bytes) ≡ All
unfolding null_layout reach step_reach row_of rows
null_whole little bytes end all = search rules

pub sll_fits : (bytes : List ℕ) → StepsFit SLL (sll_layout bytes)
unfolding sll_layout StepsFit row_of rows
sll_fits bytes = search rules

pub sll_whole : (bytes : List ℕ) (end : ℕ) → 16 ≤ end → reach end (sll_layout bytes) ≡ All
unfolding sll_layout reach step_reach row_of rows
sll_whole bytes end all = search rules

pub sll2_fits : (bytes : List ℕ) → StepsFit SLL2 (sll2_layout bytes)
unfolding sll2_layout StepsFit row_of rows
sll2_fits bytes = search rules

pub sll2_whole : (bytes : List ℕ) → 20 ≤ length bytes → reach (length bytes) (sll2_layout bytes) ≡ All
unfolding sll2_layout reach step_reach row_of rows
sll2_whole bytes all = search rules
