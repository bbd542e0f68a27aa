use Rattle.std.proofs.Common.{All, List, ℕ, subst, sym, ap, ◌∙◌}
use Rattle.pk_tree.specs.Buffers.{bytes_of}
use Rattle.tcp_messages.specs.Shown.{IsWholeIn}
use Rattle.dissect.proofs.state.State.show_met.Goals as goal

pub add_carried-requires-clause-whole : goal.add_carried-requires-clause-whole
add_carried-requires-clause-whole c =
    subst (λ (bytes : List ℕ). All (IsWholeIn bytes) c.args.met.now.messages)
    (c.requires.payload ∙ ap (λ (buffers : List (List ℕ)). bytes_of buffers c.args.span) (sym c.tell_segment.ensures.buffers)) c.requires.whole
