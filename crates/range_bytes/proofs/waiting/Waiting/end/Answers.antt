use Rattle.std.proofs.Common.{◌≡◌, ℕ, ◌≤◌, None, subst, ◌∙◌}
use Rattle.std.specs.Map.{values_of}
use Rattle.std.specs.FinMap.{get}
use Rattle.range_bytes.specs.Held.{Held}
use Rattle.range_bytes.proofs.PieceLemmas.{get-held_of, found_after}
use Rattle.range_bytes.proofs.waiting.Waiting.end.Goals as goal

pub returns : goal.returns
returns c = subst (λ (held : Held). (position : ℕ) → c.self.inside.end ≤ position → get held position ≡ None) c.self.view_is
    (λ position past. get-held_of (values_of c.self.inside.pieces.entries) position ∙ found_after 0 (values_of c.self.inside.pieces.entries) c.self.inside.end position c.self.invariant.1 past)
