use Rattle.std.proofs.Common.{◌≤◌, ◌+◌, length, inr, sym, subst, arith, ◌≡◌}
use Rattle.range_bytes.specs.Held.{IsNextHeld}
use Rattle.range_bytes.specs.Pieces.{put_pieces}
use Rattle.range_bytes.specs.Joined.{Joined, cut, front_end}
use Rattle.range_bytes.proofs.Joining.{next_same, held_outside}
use Rattle.range_bytes.proofs.joined_ranges.JoinedRanges.next_held.Goals as goal

pub returns : goal.returns
returns c =
    let row = c.self.inside.row in
    let rest = c.self.inside.rest in
    let low : row.start + length row.bytes.items ≤ c.args.from = subst (λ (j : Joined). front_end j ≤ c.args.from) (sym c.self.view_is) c.requires in
    let at : row.start + length row.bytes.items ≡ row.end = c.self.invariant.end_is in
    subst (λ (j : Joined). IsNextHeld j.held c.args.from c.next_held.result) c.self.view_is
    (next_same rest (put_pieces rest (cut row.start row.bytes.items row.marks.items)) c.args.from c.next_held.result
    (λ q order. held_outside rest row.start row.end row.bytes.items row.marks.items q c.self.invariant (inr (omega arith))) c.next_held.ensures)
