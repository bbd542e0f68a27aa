use Rattle.std.proofs.Common.{rules, ◌≡◌, ◌+◌, ◌++◌, ◌<◌, ◌^◌, ℕ, List, refl, sym, ap, ◌∙◌, subst, arith}
use Rattle.pk_base.specs.declared.stretch.Stretch.{Stretch}
use Rattle.pk_base.specs.declared.lost.Lost.{Lost}
use Rattle.range_bytes.specs.Held.{Held}
use Rattle.range_bytes.specs.Joined.{front_end}
use Rattle.tcp_streams.specs.Gaps.{left_behind, AreBetween}
use Rattle.tcp_streams.specs.Numbers.{window}
use Rattle.tcp_streams.specs.Ways.{end_of, lost_in, start_for, held_with, AreApart, IsPlace}
use Rattle.tcp_streams.specs.States.{state_of}
use Rattle.tcp_streams.proofs.WayLemmas.{end_small, step_is, own_apart, near_is, lost_between, joined_free, joined_front, apart_later}
use Rattle.tcp_streams.proofs.way.Way.take.Goals as goal

pub invariant_of-self : goal.invariant_of-self
invariant_of-self c = record { apart = apart_later 0 c.args.self.now.earlier.items c.args.self.now.held.start c.pass.new.held.start c.args.self.now.apart c.pass.ensures.later }

pub put-requires-clause-room : goal.put-requires-clause-room
put-requires-clause-room c = end_small (front_end c.args.self.now.held) (front_end c.pass.new.held) c.requires.room c.in_ok-passed.ensures.near

pub invariant_of-self-in-Break-branch-2 : goal.invariant_of-self-in-Break-branch-2
invariant_of-self-in-Break-branch-2 c = record {
  apart = subst (λ (p : ℕ). AreApart 0 c.args.self.now.earlier.items p) (sym c.put.ensures.start)
      (apart_later 0 c.args.self.now.earlier.items c.args.self.now.held.start c.pass.new.held.start c.args.self.now.apart c.pass.ensures.later);
}

pub invariant_of-self-in-Break-branch-3 : goal.invariant_of-self-in-Break-branch-3
invariant_of-self-in-Break-branch-3 c = record {
  apart = subst (λ (xs : List Stretch). AreApart 0 xs c.put.new.held.start) (sym c.in_err-append.ensures.items)
      (subst (λ (p : ℕ). AreApart 0 c.args.self.now.earlier.items p) (sym c.put.ensures.start)
      (apart_later 0 c.args.self.now.earlier.items c.args.self.now.held.start c.pass.new.held.start c.args.self.now.apart c.pass.ensures.later));
}

pub invariant_of-self-2 : goal.invariant_of-self-2
invariant_of-self-2 c =
    let w = state_of c.args.self.now in
    let start : c.put.new.held.start ≡ start_for w = c.put.ensures.start ∙ c.in_ok-passed.ensures.start in
    let earlier : c.append.new.self.items ≡ w.earlier ++ left_behind w.held w.start (lost_in w) =
    c.in_ok-append.ensures.items ∙ ap (λ (left : List Stretch). w.earlier ++ left) c.in_ok-passed.ensures.left in
    record {
      apart = subst (λ (p : ℕ). AreApart 0 c.append.new.self.items p) (sym start) (subst (λ (xs : List Stretch). AreApart 0 xs (start_for w)) (sym earlier) (own_apart w c.requires.way));
    }

pub position_ahead-requires : goal.position_ahead-requires
position_ahead-requires c =
    let small : front_end c.pass.new.held < 2 ^ 61 = end_small (front_end c.args.self.now.held) (front_end c.pass.new.held) c.requires.room c.in_ok-passed.ensures.near in
    omega (arith, small, c.end-end.ensures)

pub returns-clause-between : goal.returns-clause-between
returns-clause-between c =
    let w = state_of c.args.self.now in
    let lost = sym c.in_ok-passed.ensures.lost ∙ sym c.from_vec.ensures in
    subst (λ (gaps : List Lost). AreBetween (end_of w) gaps (end_of w + window)) lost (lost_between w c.requires.way)

pub returns-clause-step : goal.returns-clause-step
returns-clause-step c =
    let w = state_of c.args.self.now in
    let s = c.args.s.now in
    let mid = c.pass.new.held in
    let new = c.put.new.held in
    let u = c.ahead-ahead.result in
    let place = subst (λ (p : ℕ). IsPlace w.held p (front_end mid)) (sym c.put.ensures.start) c.in_ok-passed.ensures.place in
    step_is w s c.origin_for-origin.result new.held c.append.new.self.items new.start (front_end mid) u (front_end new) new.front
    (search rules)
    (c.put.ensures.start ∙ c.in_ok-passed.ensures.start)
    c.in_ok-passed.ensures.end
    (search rules)
    (c.in_ok-put.ensures.held
    ∙ ap (λ (h : Held). held_with h mid.start (front_end mid) u s) c.in_ok-passed.ensures.held
    ∙ ap (λ (p : ℕ). held_with w.held p (front_end mid) u s) (sym c.put.ensures.start))
    (c.in_ok-append.ensures.items ∙ ap (λ (left : List Stretch). w.earlier ++ left) c.in_ok-passed.ensures.left)
    place (joined_free new (front_end mid) c.in_ok-put.ensures.joined place.order c.in_ok-put.ensures.grown) (joined_front new new.start c.in_ok-put.ensures.joined.order refl)

pub returns-clause-near : goal.returns-clause-near
returns-clause-near c = near_is (state_of c.args.self.now) _ c.args.s.now c.requires.way c.requires.room (returns-clause-step c)
