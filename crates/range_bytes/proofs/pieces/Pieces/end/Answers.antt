use Rattle.std.proofs.Common.{◌≡◌, ℕ, ◌≤◌, None, subst}
use Rattle.std.specs.FinMap.{get}
use Rattle.range_bytes.specs.Held.{Held}
use Rattle.range_bytes.proofs.Kept.{past_end}
use Rattle.range_bytes.proofs.pieces.Pieces.end.Goals as goal

pub returns : goal.returns
returns c = subst (λ (held : Held). (position : ℕ) → c.self.inside.end ≤ position → get held position ≡ None) c.self.view_is
    (past_end c.self.inside.row.items c.self.inside.late.entries c.self.inside.end c.self.invariant)
