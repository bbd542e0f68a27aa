use Rattle.std.proofs.Common.{◌≡◌, ℕ, List, None, Option, subst, ap, sym, ◌∙◌}
use Rattle.std.specs.FinMap.{get}
use Rattle.range_bytes.specs.declared.piece.Piece.{Piece}
use Rattle.range_bytes.specs.Held.{Held, IsNextHeld}
use Rattle.range_bytes.specs.Pieces.{held_of, least_of}
use Rattle.range_bytes.proofs.Kept.{row_none, late_none, both_next, none_if}
use Rattle.range_bytes.proofs.pieces.Pieces.next_held.Goals as goal

pub next_start-requires-clause-free : goal.next_start-requires-clause-free
next_start-requires-clause-free c =
    let none : get c.args.self.now c.args.from ≡ None = none_if c.covering.result (sym c.is_some.ensures ∙ c.if-is_some.false) c.covering.ensures.none in
    ap (λ (row : List Piece). get (held_of row) c.args.from) c.deref.ensures.value
    ∙ row_none c.self.inside.row.items c.self.inside.late.entries c.args.from (ap (λ (held : Held). get held c.args.from) c.self.view_is ∙ none)

pub next_start-requires-2-clause-free : goal.next_start-requires-2-clause-free
next_start-requires-2-clause-free c =
    let none : get c.args.self.now c.args.from ≡ None = none_if c.covering.result (sym c.is_some.ensures ∙ c.if-is_some.false) c.covering.ensures.none in
    late_none c.self.inside.row.items c.self.inside.late.entries c.args.from (ap (λ (held : Held). get held c.args.from) c.self.view_is ∙ none)

pub returns : goal.returns
returns c =
    let next = both_next c.self.inside.row.items c.self.inside.late.entries c.args.from c.next_start.result c.next_start-2.result
    (subst (λ (row : List Piece). IsNextHeld (held_of row) c.args.from c.next_start.result) c.deref.ensures.value c.next_start.ensures) c.next_start-2.ensures in
    let least = least_of c.next_start.result c.next_start-2.result in
    subst (λ (o : Option ℕ). IsNextHeld c.args.self.now c.args.from o) (sym c.least.ensures)
    (subst (λ (held : Held). IsNextHeld held c.args.from least) c.self.view_is next)
