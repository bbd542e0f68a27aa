use Rattle.std.proofs.Common.{◌≡◌, ◌∙◌, length, refl, ap, subst, sym, arith}
use Rattle.pk_base.specs.declared.span.Span.{Span}
use Rattle.pk_tree.specs.Buffers.{bytes_of}
use Rattle.pk_base.specs.declared.heads.After.{After}
use Rattle.app_layers.specs.Payloads.{ComesBehind}
use Rattle.app_layers.proofs.Behind.{link_behind}
use Rattle.dissect.specs.declared.todo.Todo.TheVariants as todos
use Rattle.dissect.specs.Stands.{IsWalked, bytes_behind}
use Rattle.dissect.specs.Walks.{Walk, followed, link_met, stop}
use Rattle.pk_base.specs.declared.heads.Mode.TheVariants.{Plain}
use Rattle.dissect.proofs.FirstHead.{link_followed}
use Rattle.dissect.proofs.Opens.{adds-ok, ready-first}
use Rattle.dissect.proofs.Shrinking.{less-first}
use Rattle.dissect.proofs.Told.{link_none, walked_alike, walked_same}
use Rattle.dissect.proofs.state.State.link.Goals as goal

pub returns-then-captured-eq0-clause-walked : goal.returns-then-captured-eq0-clause-walked
returns-then-captured-eq0-clause-walked c = λ es stands.
    let rules = c.args.rules.now in
    let frame = c.args.frame.now in
    let t = c.args.tree.now in
    let none : length frame.bytes ≡ 0 = sym c.captured.ensures ∙ c.if-captured-eq0.true in
    subst (λ (w : Walk). IsWalked rules w c.args.self.now t todos.Done) (sym (link_none rules frame t es none))
    (walked_same rules (stop t es) c.args.self.now t todos.Done stands refl refl)

pub returns-clause-walked : goal.returns-clause-walked
returns-clause-walked c =
    let rules = c.args.rules.now in
    let frame = c.args.frame.now in
    let read = c.read_link.new.b in
    walked_alike rules c.args.self.now c.follow.new.self (λ es. link_met rules frame c.args.tree.now es)
    (λ es. followed rules frame c.no_packet.result Plain read es c.in_ok-after.after) c.follow.new.tree c.follow.result
    (link_followed rules frame c.no_packet.result c.frame_span-span.result c.is_cut.result c.args.tree.now read c.in_ok-after.after
    (λ none. c.if-captured-eq0.false (c.captured.ensures ∙ none)) c.no_packet.ensures c.frame_span-span.ensures c.is_cut.ensures c.in_ok-after.ensures.tree c.in_ok-after.ensures.after)
    c.follow.ensures.walked

pub follow-requires-clause-last : goal.follow-requires-clause-last
follow-requires-clause-last c =
    subst (λ (after : After). ComesBehind after c.read_link.new.b.layers) (sym c.in_ok-after.ensures.after)
    (link_behind c.read_link.new.b.layers c.args.frame.now.link c.args.frame.now.little c.frame_span-span.result (bytes_of c.args.tree.now.buffers c.frame_span-span.result))

pub follow-requires-clause-ready : goal.follow-requires-clause-ready
follow-requires-clause-ready c =
    ready-first 4 (bytes_behind c.in_ok-after.after) (length c.args.frame.now.bytes) c.args.self.now c.args.tree.now c.read_link.new.b (omega arith)
    (less-first c.in_ok-after.after c.args.frame.now.link c.args.frame.now.little c.frame_span-span.result (bytes_of c.args.tree.now.buffers c.frame_span-span.result) (length c.args.frame.now.bytes) c.in_ok-after.ensures.after (ap (λ (s : Span). s.len) c.frame_span-span.ensures))
    c.requires.room (ap length c.requires.frame) c.in_ok-after.ensures.most c.read_link.ensures.buffers c.requires.few

pub returns-clause-adds : goal.returns-clause-adds
returns-clause-adds c =
    adds-ok (bytes_behind c.in_ok-after.after) (length c.args.frame.now.bytes) c.args.self.now c.follow.new.self c.follow.result
    (less-first c.in_ok-after.after c.args.frame.now.link c.args.frame.now.little c.frame_span-span.result (bytes_of c.args.tree.now.buffers c.frame_span-span.result) (length c.args.frame.now.bytes) c.in_ok-after.ensures.after (ap (λ (s : Span). s.len) c.frame_span-span.ensures)) c.follow.ensures.adds
