use Rattle.std.proofs.Common.{◌≡◌, ◌+◌, None, length, sym, ap, ◌∙◌, subst}
use Rattle.std.specs.FinMap.{get}
use Rattle.range_bytes.specs.Held.{Held}
use Rattle.range_bytes.specs.Pieces.{put_pieces}
use Rattle.range_bytes.specs.Joined.{Joined, IsInOrder, cut}
use Rattle.range_bytes.proofs.Joining.{joined_of, in_order, joining_free, joining_out, joining_moved, held_moved}
use Rattle.range_bytes.proofs.joined_ranges.JoinedRanges.join_one.Goals as goal

pub returns-in_default-clause-order : goal.returns-in_default-clause-order
returns-in_default-clause-order c =
    let row = c.self.inside.row in
    subst (λ (h : Held). IsInOrder (joined_of h row.start row.bytes.items row.marks.items)) (sym c.in_default.ensures.same)
    (in_order c.self.inside.rest row.start row.end row.bytes.items row.marks.items c.self.invariant)

pub returns-in_default-clause-last : goal.returns-in_default-clause-last
returns-in_default-clause-last c = λ _.
    let row = c.self.inside.row in
    subst (λ (h : Held). get (put_pieces h (cut row.start row.bytes.items row.marks.items)) (row.start + length row.bytes.items) ≡ None) (sym c.in_default.ensures.same)
    (joining_free c.self.inside.rest row.start row.end row.bytes.items row.marks.items c.self.invariant c.in_default.ensures.free)

pub invariant_of-self-in_err-push : goal.invariant_of-self-in_err-push
invariant_of-self-in_err-push c =
    let row = c.self.inside.row in
    rw (c.in_err-push.ensures.start, c.in_err-push.ensures.same_end, c.in_err-push.ensures.same_bytes, c.in_err-push.ensures.same_marks)
    (joining_out c.self.inside.rest c.take_at.new.self row.start row.end row.bytes.items row.marks.items row.end c.in-Some.piece c.self.invariant c.in-Some.ensures.some)

pub invariant_of-self-2 : goal.invariant_of-self-2
invariant_of-self-2 c =
    let row = c.self.inside.row in
    rw (c.in_ok-push.ensures.start, c.in_ok-push.ensures.end, c.in_ok-push.ensures.bytes, c.in_ok-push.ensures.marks, c.bytes.ensures)
    (joining_moved c.self.inside.rest c.take_at.new.self row.start row.end row.bytes.items row.marks.items c.in-Some.piece c.self.invariant c.in-Some.ensures.some)

pub returns-clause-held : goal.returns-clause-held
returns-clause-held c =
    let row = c.self.inside.row in
    rw (c.in_ok-push.ensures.start, c.in_ok-push.ensures.bytes, c.in_ok-push.ensures.marks, c.bytes.ensures)
    (held_moved c.self.inside.rest c.take_at.new.self row.start row.end row.bytes.items row.marks.items c.in-Some.piece c.self.invariant c.in-Some.ensures.some
    ∙ ap (λ (j : Joined). j.held) c.self.view_is)

pub returns-clause-order : goal.returns-clause-order
returns-clause-order c =
    in_order c.take_at.new.self c.push.new.self.start c.push.new.self.end c.push.new.self.bytes.items c.push.new.self.marks.items (invariant_of-self-2 c)
