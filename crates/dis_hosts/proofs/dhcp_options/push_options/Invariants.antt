use Rattle.std.proofs.Common.{◌≡◌, ◌-◌, length}
use Rattle.pk_tree.specs.Entries.{behind, repeated}
use Rattle.dis_hosts.specs.DhcpOptions.{option_at}
use Rattle.dis_hosts.proofs.dhcp_options.push_options.Given as goal

-- what is left of the options leads where all of them do
abbrev pub invariant-loop-option : goal.invariant-loop-option
invariant-loop-option l =
    behind l.steps.items (repeated (length l.bytes - l._option) (option_at l.bytes) l.at) ≡ behind l.initial.steps.items (repeated (length l.bytes) (option_at l.bytes) 240)
