use Rattle.std.proofs.Common.{◌<◌, ◌≤◌, ◌⊎◌, inl, inr, subst}
use Rattle.range_bytes.specs.Held.{IsFreeFrom}
use Rattle.range_bytes.specs.Joined.{Joined}
use Rattle.range_bytes.proofs.Joining.{free_inside, free_outside}
use Rattle.range_bytes.proofs.joined_ranges.JoinedRanges.first_free.Goals.{else-self-from-via-then-self-from+else-from-self, else-self-from-via-else-self-from}
use Rattle.range_bytes.proofs.joined_ranges.JoinedRanges.first_free.Goals as goal

pub returns-then-from-self : goal.returns-then-from-self
returns-then-from-self c =
    let row = c.self.inside.row in
    subst (λ (j : Joined). IsFreeFrom j.held c.args.from c.first_free.result) c.self.view_is
    (free_inside c.self.inside.rest row.start row.end row.bytes.items row.marks.items c.args.from c.first_free.result c.self.invariant c.if-self-from.true c.if-from-self.true c.first_free.ensures)

pub returns : goal.returns
returns c =
    let row = c.self.inside.row in
    let out : (c.args.from < row.start) ⊎ (row.end ≤ c.args.from) = elim c.else-self-from.branch [
      | else-self-from-via-then-self-from+else-from-self w ↦ inr w.if-from-self.false
      | else-self-from-via-else-self-from w ↦ inl w.if-self-from.false
    ] in
    subst (λ (j : Joined). IsFreeFrom j.held c.args.from c.first_free-2.result) c.self.view_is
    (free_outside c.self.inside.rest row.start row.end row.bytes.items row.marks.items c.args.from c.first_free-2.result c.self.invariant out c.first_free-2.ensures)
