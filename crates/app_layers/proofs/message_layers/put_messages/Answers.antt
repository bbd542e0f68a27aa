use Rattle.std.proofs.Common.{◌*◌, List, ℕ, sym, subst, arith}
use Rattle.std.proofs.lemmas.List.Elements.{All-get_or}
use Rattle.pk_tree.specs.Buffers.{bytes_of}
use Rattle.pk_tree.specs.Trees.{TreeShown}
use Rattle.tcp_messages.specs.declared.met.ShownMessage.{ShownMessage}
use Rattle.tcp_messages.specs.Shown.{IsWholeIn}
use Rattle.app_layers.proofs.MessageBuffers.{GrowsBy, bytes_stay}
use Rattle.app_layers.proofs.MessageLemmas.{message_grows, messages_next, grows_next}
use Rattle.app_layers.proofs.message_layers.put_messages.Goals as goal

pub put_message-requires-clause-whole : goal.put_message-requires-clause-whole
put_message-requires-clause-whole c =
    let i = c.loop-message.message-index in
    let payload = bytes_of c.args.tree.now.buffers c.args.span in
    subst (λ (bytes : List ℕ). IsWholeIn bytes c.message-item.result) (sym (bytes_stay c.args.tree.now.buffers c.loop-message.tree.buffers (2 * i) c.args.span c.loop-message.invariant.grows c.requires.inside))
    (subst (λ (m : ShownMessage). IsWholeIn payload m) (sym c.message-item.is) (All-get_or (IsWholeIn payload) c.args.messages.now i c.message-item.result c.loop-message-test.true c.requires.whole))

pub loop-message-preserved : goal.loop-message-preserved
loop-message-preserved c =
    let i = c.loop-message.message-index in
    let t = c.loop-message.tree in
    let new = c.put_message.new.tree in
    record {
      shown = messages_next c.args.app c.args.cut c.args.span t new _ c.args.messages.now i c.message-item.result c.loop-message-test.true c.message-item.is c.loop-message.invariant.shown c.in_ok-put_message.ensures.tree;
      grows = grows_next i c.args.tree.now.buffers t.buffers new.buffers c.loop-message.invariant.grows
          (subst (λ (u : TreeShown). GrowsBy 2 t.buffers u.buffers) (sym c.in_ok-put_message.ensures.tree) (message_grows c.args.app c.args.cut c.args.span t c.message-item.result));
      few = omega (arith, c.loop-message.invariant.few, c.in_ok-put_message.ensures.most);
    }
