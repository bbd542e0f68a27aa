use Rattle.std.proofs.Common.{◌≡◌, ◌-◌}
use Rattle.pk_tree.specs.Entries.{behind, repeated}
use Rattle.dis_ports.specs.TcpOptions.{option_at}
use Rattle.dis_ports.proofs.tcp_options.push_options.Given as goal

-- what is left of the options leads where all of them do
abbrev pub invariant-loop-option : goal.invariant-loop-option
invariant-loop-option l =
    behind l.steps.items (repeated (40 - l._option) (option_at l.header) l.at) ≡ behind l.initial.steps.items (repeated 40 (option_at l.header) 20)
