use Rattle.std.proofs.Common.{◌≡◌, ◌≤◌, ◌+◌, length, refl, inr, sym, ap, ◌∙◌, subst, arith}
use Rattle.std.specs.FinMap.{get}
use Rattle.range_bytes.specs.Held.{Held}
use Rattle.range_bytes.specs.Joined.{Joined, IsInOrder, front_end}
use Rattle.range_bytes.proofs.Joining.{in_order, held_outside}
use Rattle.range_bytes.proofs.joined_ranges.JoinedRanges.join.Goals as goal

pub loop-self-init : goal.loop-self-init
loop-self-init c =
    let row = c.self.inside.row in
    let same : front_end c.args.self.now ≤ front_end c.args.self.now = omega arith in (
      refl,
      refl,
      same,
      subst IsInOrder c.self.view_is (in_order c.self.inside.rest row.start row.end row.bytes.items row.marks.items c.self.invariant),
    )

pub returns-clause-joined : goal.returns-clause-joined
returns-clause-joined c =
    let old = c.self.inside.row in
    let new = c.self-in-loop-self.inside.row in
    let at = front_end c.loop-self.self in
    let begun : old.start + length old.bytes.items ≡ front_end c.args.self.now = ap front_end c.self.view_is in
    let ended : new.start + length new.bytes.items ≡ at = ap front_end c.self-in-loop-self.view_is in
    let grown : front_end c.args.self.now ≤ at = c.loop-self.invariant.2 in
    record {
      order = c.loop-self.invariant.3;
      free =
          ap (λ (h : Held). get h at) (c.loop-self.invariant.0 ∙ sym (ap (λ (j : Joined). j.held) c.self.view_is))
          ∙ held_outside c.self.inside.rest old.start old.end old.bytes.items old.marks.items at c.self.invariant (inr (omega (arith, begun, grown, c.self.invariant.end_is)))
          ∙ c.end-top.ensures at (omega (arith, ended, c.self-in-loop-self.invariant.end_is, c.loop-self-test.false));
    }
