use Rattle.std.proofs.Common.{◌≡◌, ◌++◌, List, sym, ap, ◌∙◌, append-nil}
use Rattle.std.proofs.lemmas.List.{drop_all}
use Rattle.range_bytes.proofs.Ascending.{all_put, sorted_is}
use Rattle.tcp_messages.specs.declared.met.ShownMessage.{ShownMessage}
use Rattle.tcp_messages.proofs.Sources.{all_frames, all_told}
use Rattle.tcp_messages.proofs.locating.frames_told.Goals as goal

pub returns : goal.returns
returns c =
    let all : c.loop-message.frames.items ≡ all_frames c.args.shown.now =
    sym (append-nil c.loop-message.frames.items)
    ∙ ap (λ (ms : List ShownMessage). c.loop-message.frames.items ++ all_frames ms) (sym (drop_all c.loop-message.message-index c.args.shown.now c.loop-message-test.false))
    ∙ c.loop-message.invariant in
    c.from_vec.ensures
    ∙ sorted_is c.loop-message.frames.items c.sort_unstable.new.self.items c.dedup.new.self.items c.sort_unstable.ensures.permutation c.sort_unstable.ensures.sorted c.dedup.ensures.filtered
    ∙ ap all_put all
    ∙ all_told c.args.shown.now
