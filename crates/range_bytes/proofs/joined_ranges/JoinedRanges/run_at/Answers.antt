use Rattle.std.proofs.Common.{◌≡◌, None, subst, refl}
use Rattle.std.specs.FinMap.{get}
use Rattle.range_bytes.specs.Joined.{Joined, cut, IsRunAt}
use Rattle.range_bytes.proofs.Joining.{run_inside, run_outside, none_at}
use Rattle.range_bytes.proofs.joined_ranges.JoinedRanges.run_at.Goals as goal

pub returns-in-Some-clause-some : goal.returns-in-Some-clause-some
returns-in-Some-clause-some c =
    let row = c.self.inside.row in
    subst (λ (j : Joined). IsRunAt j.held c.args.at c.in-Some.mark) c.self.view_is
    (run_inside c.self.inside.rest row.start row.end row.bytes.items row.marks.items c.args.at c.in-Some.mark c.self.invariant c.in-Some.ensures.some)

pub returns-in_err-piece-clause-none : goal.returns-in_err-piece-clause-none
returns-in_err-piece-clause-none c =
    let row = c.self.inside.row in
    let none = subst (λ (j : Joined). get j.held c.args.at ≡ None) c.self.view_is
    (none_at c.self.inside.rest (cut row.start row.bytes.items row.marks.items) c.args.at c.in_default.ensures.none c.in_err-piece.ensures.none) in
    rw c.from_residual.ensures none

pub returns-clause-some : goal.returns-clause-some
returns-clause-some c =
    let row = c.self.inside.row in
    let piece = c.in_ok-piece.piece.now in
    subst (λ (j : Joined). IsRunAt j.held c.args.at (record { end = piece.end; frame = piece.frame })) c.self.view_is
    (run_outside c.self.inside.rest (cut row.start row.bytes.items row.marks.items) c.args.at piece (record { end = piece.end; frame = piece.frame }) c.in_ok-piece.ensures.some refl refl)
