use Rattle.std.proofs.Common.{◌≡◌, ◌++◌, drop}
use Rattle.stream_messages.specs.Sides.{heads_in}
use Rattle.tcp_messages.proofs.readers.push_heads.Given as goal

abbrev pub invariant-loop-message : goal.invariant-loop-message
invariant-loop-message l = l.heads.items ++ heads_in (drop l.message-index l.messages) ≡ l.fn.heads.items ++ heads_in l.messages
