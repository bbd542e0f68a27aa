use Rattle.std.proofs.Common.{◌≡◌, ◌⊎◌, ◌-◌, List, ℕ, None, IfSome, IfNone, sym, subst}
use Rattle.std.specs.Map.{values_of}
use Rattle.std.specs.FinMap.{get}
use Rattle.range_bytes.specs.declared.piece.Piece.{Piece}
use Rattle.range_bytes.specs.Held.{Held}
use Rattle.range_bytes.specs.Pieces.{held_of}
use Rattle.range_bytes.specs.Joined.{IsTakenOut}
use Rattle.range_bytes.proofs.TakenOut.{late_without, out_some, out_free}
use Rattle.range_bytes.proofs.waiting.Waiting.take_at.Goals as goal

pub invariant_of-self : goal.invariant_of-self
invariant_of-self c =
    let after = late_without c.self.inside.pieces.entries 0 c.self.inside.end c.args.at (record { keyed = c.self.invariant.0; apart = c.self.invariant.1 }) in
    rw c.remove.ensures.entries (after.keyed, after.apart)

pub returns-clause-some : goal.returns-clause-some
returns-clause-some c =
    let out = out_some c.self.inside.pieces.entries c.self.inside.end c.args.at c.remove.result (record { keyed = c.self.invariant.0; apart = c.self.invariant.1 }) c.remove.ensures.value in
    subst (λ (held : Held). IfSome c.remove.result (IsTakenOut held (held_of (values_of c.remove.new.self.entries)) c.args.at)) c.self.view_is
    (subst (λ (fs : List (ℕ × Piece)). IfSome c.remove.result (IsTakenOut (held_of (values_of c.self.inside.pieces.entries)) (held_of (values_of fs)) c.args.at)) (sym c.remove.ensures.entries) out)

pub returns-clause-free : goal.returns-clause-free
returns-clause-free c =
    subst (λ (held : Held). IfNone c.remove.result (get held c.args.at ≡ None)) c.self.view_is
    (out_free c.self.inside.pieces.entries c.self.inside.end c.args.at c.remove.result (record { keyed = c.self.invariant.0; apart = c.self.invariant.1 }) c.remove.ensures.value
    (subst (λ (held : Held). (c.args.at ≡ 0) ⊎ (get held (c.args.at - 1) ≡ None)) (sym c.self.view_is) c.requires))
