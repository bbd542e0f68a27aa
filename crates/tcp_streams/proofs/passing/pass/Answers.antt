use Rattle.std.proofs.Common.{ℕ, List, ◌≡◌, ◌++◌, ◌∷◌, [], ◌∙◌, sym, ap, subst, arith}
use Rattle.pk_base.specs.declared.lost.Lost.{Lost}
use Rattle.pk_base.specs.declared.stretch.Stretch.{Stretch}
use Rattle.range_bytes.specs.Joined.{front_end}
use Rattle.tcp_streams.proofs.GapLemmas.{IsPassing, passing_more, passing_nears, near_room, found_next, next_past, before_next, begun_free, stretch_bytes}
use Rattle.tcp_streams.proofs.passing.pass.Goals as goal

pub next_within-requires : goal.next_within-requires
next_within-requires c = near_room (front_end c.args.held.now) (front_end c.loop-next.held) c.requires.room c.loop-next.invariant.0.near

pub begin-requires-clause-past : goal.begin-requires-clause-past
begin-requires-clause-past c =
    let now = c.loop-next.held in
    next_past now.held c.args.acked (front_end now) c.in-Some.next (sym c.next_within.ensures ∙ c.in-Some.is)

pub begin-requires-clause-free : goal.begin-requires-clause-free
begin-requires-clause-free c =
    let now = c.loop-next.held in
    let held = c.args.held.now.held in
    before_next held now.held now.start c.args.acked (front_end now) c.in-Some.next c.loop-next.invariant.1 c.loop-next.invariant.0.place
    (found_next held now.held c.args.acked (front_end now) c.in-Some.next c.next_within.result c.loop-next.invariant.1 c.next_within.ensures c.in-Some.is)

pub loop-next-smaller : goal.loop-next-smaller
loop-next-smaller c =
    let now = c.loop-next.held in
    let held = c.args.held.now.held in
    let new = c.begin.new.self in
    passing_nears held c.args.acked (front_end now) c.in-Some.next (front_end new)
    (found_next held now.held c.args.acked (front_end now) c.in-Some.next c.next_within.result c.loop-next.invariant.1 c.next_within.ensures c.in-Some.is)
    (begun_free new held c.in-Some.next c.in_ok-bytes.ensures.joined (c.in_ok-bytes.ensures.held ∙ c.loop-next.invariant.1) c.in_ok-bytes.ensures.start)

pub loop-next-preserved : goal.loop-next-preserved
loop-next-preserved c =
    let now = c.loop-next.held in
    let old = c.args.held.now in
    let new = c.begin.new.self in
    let next = c.in-Some.next in
    let lost = c.loop-next.passed.lost.items in
    let left = c.loop-next.passed.left.items in
    let same = c.in_ok-bytes.ensures.held ∙ c.loop-next.invariant.1 in
    let more = passing_more old.held old.start (front_end old) c.args.acked lost left now.start (front_end now) next (front_end new) c.in_ok-bytes.bytes
    c.loop-next.invariant.0
    (found_next old.held now.held c.args.acked (front_end now) next c.next_within.result c.loop-next.invariant.1 c.next_within.ensures c.in-Some.is)
    (begun_free new old.held next c.in_ok-bytes.ensures.joined same c.in_ok-bytes.ensures.start)
    (c.in_ok-bytes.ensures.bytes ∙ stretch_bytes now old.held c.loop-next.invariant.1 c.loop-next.invariant.2) in
    let begun : IsPassing old.held old.start (front_end old) c.args.acked (lost ++ record { from = front_end now; to = next } ∷ []) (left ++ record { start = now.start; bytes = c.in_ok-bytes.bytes } ∷ []) new.start (front_end new) =
    subst (λ (p : ℕ). IsPassing old.held old.start (front_end old) c.args.acked (lost ++ record { from = front_end now; to = next } ∷ []) (left ++ record { start = now.start; bytes = c.in_ok-bytes.bytes } ∷ []) p (front_end new))
    (sym c.in_ok-bytes.ensures.start) more in
    let lost_is : lost ++ record { from = front_end now; to = next } ∷ [] ≡ c.push-in-Some.new.self.items =
    sym (c.in_ok-push-2.ensures.items ∙ ap (λ (p : ℕ). lost ++ record { from = p; to = next } ∷ []) c.end-end.ensures) in
    let left_is : left ++ record { start = now.start; bytes = c.in_ok-bytes.bytes } ∷ [] ≡ c.push.new.self.items =
    sym (c.in_ok-push.ensures.items ∙ ap (λ (p : ℕ). left ++ record { start = p; bytes = c.in_ok-bytes.bytes } ∷ []) c.start-start.ensures) in (
      subst (λ (xs : List Lost). IsPassing old.held old.start (front_end old) c.args.acked xs c.push.new.self.items new.start (front_end new)) lost_is
          (subst (λ (xs : List Stretch). IsPassing old.held old.start (front_end old) c.args.acked (lost ++ record { from = front_end now; to = next } ∷ []) xs new.start (front_end new)) left_is begun),
      same,
      c.in_ok-bytes.ensures.joined.order.bytes,
      omega (arith, c.loop-next.invariant.3, c.in_ok-bytes.ensures.order),
    )
