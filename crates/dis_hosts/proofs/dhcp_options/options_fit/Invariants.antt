use Rattle.std.proofs.Common.{◌≡◌, ◌-◌, length}
use Rattle.pk_tree.specs.Entries.{repeated}
use Rattle.pk_tree.specs.Layouts.{reach}
use Rattle.dis_hosts.specs.DhcpOptions.{dhcp_options, option_at}
use Rattle.dis_hosts.proofs.dhcp_options.options_fit.Given as goal

-- what is left of the options is read as far as all of them are
abbrev pub invariant-loop-option : goal.invariant-loop-option
invariant-loop-option l =
    reach (length l.bytes) (dhcp_options l.bytes).steps ≡ reach (length l.bytes) (repeated (length l.bytes - l._option) (option_at l.bytes) l.at).steps
