use Rattle.std.proofs.Common.{◌≡◌, ◌+◌, ◌-◌, ◌*◌}
use Rattle.pk_tree.specs.Entries.{behind, repeated}
use Rattle.dis_ports.specs.TcpOptions.{sack_block}
use Rattle.dis_ports.proofs.tcp_options.push_blocks.Given as goal

-- what is left of the blocks leads where all of them do
abbrev pub invariant-loop-block : goal.invariant-loop-block
invariant-loop-block l = record {
  goes : behind l.steps.items (repeated (l.count - l._block) sack_block l.place) ≡ behind l.initial.steps.items (repeated l.count sack_block l.at);
  place_is : l.place ≡ l.at + 8 * l._block;
}
