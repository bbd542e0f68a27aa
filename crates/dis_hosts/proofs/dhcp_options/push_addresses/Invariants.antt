use Rattle.std.proofs.Common.{◌≡◌, ◌+◌, ◌-◌, ◌*◌}
use Rattle.pk_tree.specs.Entries.{behind, repeated}
use Rattle.dis_hosts.specs.DhcpOptions.{address}
use Rattle.dis_hosts.proofs.dhcp_options.push_addresses.Given as goal

-- what is left of the addresses leads where all of them do
abbrev pub invariant-loop-address : goal.invariant-loop-address
invariant-loop-address l = record {
  goes : behind l.steps.items (repeated (l.count - l._address) (address l.field) l.place) ≡ behind l.initial.steps.items (repeated l.count (address l.field) l.at);
  place_is : l.place ≡ l.at + 4 * l._address;
}
