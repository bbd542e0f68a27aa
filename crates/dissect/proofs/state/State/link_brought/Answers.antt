use Rattle.std.proofs.Common.{All, List, ℕ, subst, sym}
use Rattle.tcp_messages.specs.Shown.{IsWholeIn}
use Rattle.dissect.proofs.state.State.link_brought.Goals as goal

pub link_segment-requires : goal.link_segment-requires
link_segment-requires c = record {
  whole = subst (λ (bytes : List ℕ). All (IsWholeIn bytes) c.args.brought.met.messages) (sym c.own.ensures.bytes) c.requires.showable.whole;
}
