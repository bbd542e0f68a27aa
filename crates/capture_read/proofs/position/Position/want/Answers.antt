use Rattle.std.proofs.Common.{ap, refl, sym, subst, ◌∙◌}
use Rattle.capture_read.specs.Reader.{Reader, IsKept}
use Rattle.capture_read.proofs.ReaderTurns.{turn_beyond, turn_ended}
use Rattle.capture_read.proofs.position.Position.want.Goals as goal

pub returns-in-Ended-clause-sees : goal.returns-in-Ended-clause-sees
returns-in-Ended-clause-sees c = λ found left.
    rw c.cut.ensures (turn_ended c.args.self.now left c.args.need (subst IsKept c.self.view_is c.self.invariant)
    (ap (λ (r : Reader). r.seen) (sym c.self.view_is) ∙ c.in-Ended.is) c.requires.needs)

pub returns-in-Beyond-clause-sees : goal.returns-in-Beyond-clause-sees
returns-in-Beyond-clause-sees c = λ found left.
    rw c.cut-in-Beyond.ensures (turn_beyond c.args.self.now left c.args.need (subst IsKept c.self.view_is c.self.invariant)
    (ap (λ (r : Reader). r.seen) (sym c.self.view_is) ∙ c.in-Beyond.is) c.requires.needs)

pub returns-in-Open-clause-sees : goal.returns-in-Open-clause-sees
returns-in-Open-clause-sees c = λ found. (refl, ap (λ (r : Reader). r.seen) (sym c.self.view_is) ∙ c.in-Open.is, c.requires.few, c.requires.needs)
