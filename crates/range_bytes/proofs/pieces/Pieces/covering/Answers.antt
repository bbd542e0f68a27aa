use Rattle.std.proofs.Common.{List, subst, ap, ◌∙◌, sym}
use Rattle.std.specs.FinMap.{get}
use Rattle.range_bytes.specs.declared.piece.Piece.{Piece}
use Rattle.range_bytes.specs.Held.{Held}
use Rattle.range_bytes.specs.Pieces.{IsCover, held_of}
use Rattle.range_bytes.proofs.Kept.{row_cover, late_cover, both_none, if_some, if_none}
use Rattle.range_bytes.proofs.pieces.Pieces.covering.Goals as goal

pub returns-in-Some-clause-some : goal.returns-in-Some-clause-some
returns-in-Some-clause-some c =
    subst (λ (held : Held). IsCover held c.args.at c.in-Some.piece.now) c.self.view_is
    (row_cover c.self.inside.row.items c.self.inside.late.entries c.args.at _ (subst (λ (row : List Piece). IsCover (held_of row) c.args.at c.in-Some.piece.now) c.deref.ensures.value c.in-Some.ensures.some))

pub returns-in-None-clause-some : goal.returns-in-None-clause-some
returns-in-None-clause-some c =
    if_some c.covering-in-None.result _ _ (λ piece cover. subst (λ (held : Held). IsCover held c.args.at piece.now) c.self.view_is
    (late_cover c.self.inside.row.items c.self.inside.late.entries c.self.inside.end c.args.at piece.now c.self.invariant cover)) c.covering-in-None.ensures.some

pub returns-in-None-clause-none : goal.returns-in-None-clause-none
returns-in-None-clause-none c =
    if_none c.covering-in-None.result (λ none. sym (ap (λ (held : Held). get held c.args.at) c.self.view_is)
    ∙ both_none c.self.inside.row.items c.self.inside.late.entries c.args.at (sym (ap (λ (row : List Piece). get (held_of row) c.args.at) c.deref.ensures.value) ∙ c.in-None.ensures.none) none) c.covering-in-None.ensures.none
