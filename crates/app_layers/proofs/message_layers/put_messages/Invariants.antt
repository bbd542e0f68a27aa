use Rattle.std.proofs.Common.{◌≡◌, ◌≤◌, ◌+◌, ◌*◌, length, drop}
use Rattle.app_layers.specs.MessageLayers.{messages_over}
use Rattle.app_layers.proofs.MessageBuffers.{GrowsBy}
use Rattle.app_layers.proofs.message_layers.put_messages.Given as goal

-- what is left of the messages leads where all of them do, and each adds few layers and buffers
abbrev pub invariant-loop-message : goal.invariant-loop-message
invariant-loop-message l = record {
  shown : messages_over l.app l.cut l.span l.tree (drop l.message-index l.messages) ≡ messages_over l.app l.cut l.span l.initial.tree l.messages;
  grows : GrowsBy (2 * l.message-index) l.initial.tree.buffers l.tree.buffers;
  few : length l.tree.layers ≤ length l.initial.tree.layers + 2 * l.message-index;
}
