use Rattle.std.proofs.Common.{◌∙◌, ap, subst, sym, arith}
use Rattle.std.proofs.lemmas.Result.{IfOk-weaker}
use Rattle.pk_tree.specs.Buffers.{bytes_of}
use Rattle.app_layers.specs.Heads.{head_after, head_read}
use Rattle.dissect.specs.Stands.{IsWalked, bytes_behind}
use Rattle.dissect.specs.Walks.{Walk, followed, head_met}
use Rattle.dissect.proofs.HeadWords.{head_followed, rest_words}
use Rattle.dissect.proofs.Opens.{adds-ok, ready-behind}
use Rattle.dissect.proofs.Shrinking.{less-behind}
use Rattle.dissect.proofs.Told.{walked_alike}
use Rattle.dissect.proofs.state.State.head.Goals as goal

pub returns-clause-walked : goal.returns-clause-walked
returns-clause-walked c =
    let rules = c.args.rules.now in
    let frame = c.args.frame.now in
    let head = c.args.head.now in
    let t = c.args.tree.now in
    walked_alike rules c.args.self.now c.follow.new.self (λ es. head_met rules frame head t es)
    (λ es. followed rules frame head.packet c.mode_after-mode.result c.read_head.new.tree es c.in_ok-after.after) c.follow.new.tree c.follow.result
    (head_followed rules frame head c.mode_after-mode.result t c.read_head.new.tree c.in_ok-after.after (sym c.is_rest.ensures ∙ c.if-is_rest.false) c.mode_after-mode.ensures
    (c.in_ok-after.ensures.layer ∙ ap (λ b. head_read head.which head.mode b head.span t) c.is_cut.ensures)
    (c.in_ok-after.ensures.after ∙ ap (λ b. head_after head.which head.packet head.mode b head.span (bytes_of t.buffers head.span)) c.is_cut.ensures))
    c.follow.ensures.walked

pub returns-then-is_rest-clause-walked : goal.returns-then-is_rest-clause-walked
returns-then-is_rest-clause-walked c =
    let rules = c.args.rules.now in
    let head = c.args.head.now in
    IfOk-weaker c.rest.result _ _
    (λ todo walked es stands. subst (λ (w : Walk). IsWalked rules w c.rest.new.self c.rest.new.tree todo)
    (rest_words rules c.args.frame.now head c.args.tree.now es head.which (sym c.is_rest.ensures ∙ c.if-is_rest.true)) (walked rules es stands))
    c.rest.ensures.walked

pub follow-requires-clause-ready : goal.follow-requires-clause-ready
follow-requires-clause-ready c =
    ready-behind 4 6 (bytes_behind c.in_ok-after.after) c.args.head.now.span.len c.args.self.now c.args.tree.now c.read_head.new.tree (omega arith)
    (less-behind c.in_ok-after.after _ _ _ _ c.args.head.now.span _ c.in_ok-after.ensures.after) c.in_ok-after.ensures.most c.read_head.ensures.buffers c.requires.ready

pub returns-clause-adds : goal.returns-clause-adds
returns-clause-adds c =
    adds-ok (bytes_behind c.in_ok-after.after) c.args.head.now.span.len c.args.self.now c.follow.new.self c.follow.result
    (less-behind c.in_ok-after.after _ _ _ _ c.args.head.now.span _ c.in_ok-after.ensures.after) c.follow.ensures.adds

pub returns-then-is_rest-clause-adds : goal.returns-then-is_rest-clause-adds
returns-then-is_rest-clause-adds c = adds-ok 0 c.args.head.now.span.len c.args.self.now c.rest.new.self c.rest.result (omega arith) c.rest.ensures.adds
