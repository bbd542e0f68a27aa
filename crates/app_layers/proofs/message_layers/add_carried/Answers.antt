use Rattle.std.proofs.Common.{All, List, ℕ, subst, sym}
use Rattle.pk_tree.specs.Buffers.{bytes_of}
use Rattle.tcp_messages.specs.declared.met.ShownMessage.{ShownMessage}
use Rattle.tcp_messages.specs.Shown.{IsWholeIn}
use Rattle.app_layers.proofs.message_layers.add_carried.Goals as goal

pub put_messages-requires-clause-whole : goal.put_messages-requires-clause-whole
put_messages-requires-clause-whole c =
    subst (λ (ms : List ShownMessage). All (IsWholeIn (bytes_of c.tell_segments.new.tree.buffers c.args.span)) ms) (sym c.slice-2.ensures)
    (subst (λ (buffers : List (List ℕ)). All (IsWholeIn (bytes_of buffers c.args.span)) c.args.met.now.messages) (sym c.tell_segments.ensures.buffers) c.requires.whole)
