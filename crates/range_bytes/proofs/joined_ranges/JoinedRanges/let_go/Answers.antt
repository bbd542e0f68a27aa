use Rattle.std.proofs.Common.{subst}
use Rattle.range_bytes.specs.Joined.{Joined}
use Rattle.range_bytes.specs.LetGo.{IsLetGo}
use Rattle.range_bytes.proofs.Joining.{joined_of}
use Rattle.range_bytes.proofs.LettingGo.{let_go_is}
use Rattle.range_bytes.proofs.joined_ranges.JoinedRanges.let_go.Goals as goal

pub returns : goal.returns
returns c =
    let row = c.let_go.new.self in
    subst (λ (j : Joined). IsLetGo j (joined_of c.let_go-2.new.self row.start row.bytes.items row.marks.items) c.args.to) c.self.view_is
    (let_go_is c.self.inside.rest c.let_go-2.new.self c.self.inside.row row c.args.to c.self.invariant c.in_ok-let_go.ensures.ok
    (record { gone = c.let_go-2.ensures.gone; same = c.let_go-2.ensures.same }))
