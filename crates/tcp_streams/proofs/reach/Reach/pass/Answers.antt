use Rattle.std.proofs.Common.{◌+◌, ◌∙◌, List, sym, subst, refl, arith}
use Rattle.pk_base.specs.declared.lost.Lost.{Lost}
use Rattle.tcp_streams.specs.Gaps.{AreBetween}
use Rattle.tcp_streams.specs.Numbers.{window}
use Rattle.tcp_streams.specs.Reaches.{numbers_of}
use Rattle.tcp_streams.proofs.ReachLemmas.{PassesOn, passes_begin, passes_more, passes_end, between_push, between_higher, acked_head}
use Rattle.tcp_streams.proofs.reach.Reach.pass.Goals as goal

pub loop-next-init : goal.loop-next-init
loop-next-init c = (
  refl,
  refl,
  c.requires.near,
  omega arith,
  omega arith,
  subst (λ (lost : List Lost). AreBetween c.args.self.now.end lost c.args.self.now.end) (sym c.new-lost.ensures.items) (omega arith),
  λ w way is. subst (λ (lost : List Lost). PassesOn w lost (numbers_of c.args.self.now)) (sym c.new-lost.ensures.items) (passes_begin w (numbers_of c.args.self.now) way is),
)

pub loop-next-preserved : goal.loop-next-preserved
loop-next-preserved c =
    let old = c.args.self.now in
    let now = c.loop-next.self in
    let new = c.move_to.new.self in
    let next = c.in-Some.next in
    let top = old.end + window in
    let was = c.loop-next.invariant in
    let at = acked_head now.end now.ahead.entries top now.acked next was.2 (sym c.next_acked.ensures ∙ c.in-Some.is) in
    let joined = c.move_to.ensures.joined in
    let moved = joined.ahead now.end top was.2 at.1 in (
      c.move_to.ensures.origin ∙ was.0,
      c.move_to.ensures.acked ∙ was.1,
      moved.0,
      omega (arith, was.3, at.0, joined.order),
      moved.1,
      subst (λ (lost : List Lost). AreBetween old.end lost new.end) (sym c.in_ok-push.ensures.items)
          (between_push old.end c.loop-next.lost.items now.end next new.end was.5 at.0 joined.order),
      λ w way is. subst (λ (lost : List Lost). PassesOn w lost (numbers_of new)) (sym c.in_ok-push.ensures.items)
          (passes_more w c.loop-next.lost.items (numbers_of now) (numbers_of new) next top (was.6 w way is) (was.1 ∙ is.acked) was.2 (sym c.next_acked.ensures ∙ c.in-Some.is) at.0 at.1 joined),
    )

pub returns-clause-passed : goal.returns-clause-passed
returns-clause-passed c = λ w way is.
    let was = c.loop-next.invariant in
    passes_end w c.loop-next.lost.items (numbers_of c.loop-next.self) (c.args.self.now.end + window) (was.6 w way is) (was.1 ∙ is.acked) was.2 (sym c.next_acked.ensures ∙ c.in_default.is)

pub returns-clause-between : goal.returns-clause-between
returns-clause-between c =
    let was = c.loop-next.invariant in
    between_higher c.args.self.now.end c.loop-next.lost.items c.loop-next.self.end (c.args.self.now.end + window) was.5 was.4
