use Rattle.std.proofs.Common.{◌≡◌, ◌+◌, ◌-◌, sym, subst, Option, ℕ, Some, None}
use Rattle.range_bytes.specs.Held.{IsNextHeld}
use Rattle.tcp_streams.specs.Gaps.{next_from}
use Rattle.tcp_streams.proofs.GapLemmas.{here, beyond, nowhere}
use Rattle.tcp_streams.proofs.passing.next_within.Goals as goal

pub returns-in-Some : goal.returns-in-Some
returns-in-Some c =
    let held = c.args.held.now.held in
    let front = c.end-front.result in
    let first = subst (λ (o : Option ℕ). IsNextHeld held (front + 1) o) c.in-Some.is c.next_held.ensures in
    subst (λ (n : ℕ). Some c.in-Some.next ≡ next_from (c.args.acked - n) held (n + 1)) c.end-front.ensures (sym (here held c.args.acked front c.in-Some.next first c.if-next-acked.true))

pub returns-in_default : goal.returns-in_default
returns-in_default c =
    let held = c.args.held.now.held in
    let front = c.end-front.result in
    let first = subst (λ (o : Option ℕ). IsNextHeld held (front + 1) o) c.in-Some.is c.next_held.ensures in
    subst (λ (n : ℕ). None ≡ next_from (c.args.acked - n) held (n + 1)) c.end-front.ensures (sym (beyond held c.args.acked front c.in-Some.next first c.if-next-acked.false c.if-acked-front.false))

pub returns-in_default-2 : goal.returns-in_default-2
returns-in_default-2 c =
    let held = c.args.held.now.held in
    let front = c.end-front.result in
    let none = subst (λ (o : Option ℕ). IsNextHeld held (front + 1) o) c.in_default.is c.next_held.ensures in
    subst (λ (n : ℕ). None ≡ next_from (c.args.acked - n) held (n + 1)) c.end-front.ensures (sym (nowhere held c.args.acked front none))
