use Rattle.std.proofs.Common.{◌≡◌, ◌<◌, ◌+◌, ◌-◌, None, length, sym, ap, ◌∙◌, subst, arith}
use Rattle.std.specs.FinMap.{get}
use Rattle.range_bytes.specs.declared.in_order.InOrder.{InOrder}
use Rattle.range_bytes.specs.Joined.{Joined, front_end, cut}
use Rattle.range_bytes.proofs.Joining.{joining_new, rest_free}
use Rattle.range_bytes.proofs.joined_ranges.JoinedRanges.begin.Goals as goal

pub invariant_of-self : goal.invariant_of-self
invariant_of-self c =
    let row = c.self.inside.row in
    let none = rest_free c.self.inside.rest (cut row.start row.bytes.items row.marks.items) (c.args.start - 1)
    (subst (λ (j : Joined). get j.held (c.args.start - 1) ≡ None) (sym c.self.view_is) c.requires.free) in
    rw (c.replace-at.ensures.after, c.new.ensures.start, c.new.ensures.end, c.new.ensures.bytes, c.new.ensures.marks) (joining_new c.self.inside.rest c.args.start none)

pub invariant_of-self-in_err-keep : goal.invariant_of-self-in_err-keep
invariant_of-self-in_err-keep c =
    let row = c.self.inside.row in
    let none = rest_free c.self.inside.rest (cut row.start row.bytes.items row.marks.items) (c.args.start - 1)
    (subst (λ (j : Joined). get j.held (c.args.start - 1) ≡ None) (sym c.self.view_is) c.requires.free) in
    let at : c.replace-at.result.start ≡ row.start = ap (λ (r : InOrder). r.start) c.replace-at.ensures.value in
    let size : length c.in_ok-bytes.bytes ≡ length row.bytes.items = ap length (c.in_ok-bytes.ensures ∙ ap (λ (r : InOrder). r.bytes.items) c.replace-at.ensures.value) in
    let past : row.start + length row.bytes.items < c.args.start = subst (λ (j : Joined). front_end j < c.args.start) (sym c.self.view_is) c.requires.past in
    rw (c.replace-at.ensures.after, c.new.ensures.start, c.new.ensures.end, c.new.ensures.bytes, c.new.ensures.marks)
    (joining_new c.keep.new.rest c.args.start (c.keep.ensures.free (c.args.start - 1) (omega (arith, at, size, past)) none))
