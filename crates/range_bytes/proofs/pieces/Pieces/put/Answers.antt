use Rattle.std.proofs.Common.{◌≡◌, ◌++◌, List, ℕ, sym, ap, ◌∙◌, subst, arith, max}
use Rattle.std.specs.Map.{values_of}
use Rattle.range_bytes.specs.declared.piece.Piece.{Piece}
use Rattle.range_bytes.specs.Held.{Held, put_run}
use Rattle.range_bytes.specs.Pieces.{held_of, AreGaps, AreFree, with_pieces}
use Rattle.range_bytes.proofs.Gaps.{pushed, kept_pushed, gaps_free, gaps_put, kept_put}
use Rattle.range_bytes.proofs.pieces.Pieces.put.Goals as goal

pub invariant_of-self-then-self-new : goal.invariant_of-self-then-self-new
invariant_of-self-then-self-new c =
    let new = c.args.new in
    let top : max c.self.inside.end new.end ≡ c.max-end.result = omega (arith, c.max-end.ensures) in
    rw (c.in_ok-push.ensures.ok, sym top) (kept_pushed c.self.inside.row.items c.self.inside.late.entries c.self.inside.end new c.self.invariant c.requires.sized c.requires.some c.if-self-new.true)

pub returns-then-self-new-clause-ok : goal.returns-then-self-new-clause-ok
returns-then-self-new-clause-ok c =
    let new = c.args.new in
    ap (λ (row : List Piece). held_of (row ++ values_of c.self.inside.late.entries)) c.in_ok-push.ensures.ok
    ∙ pushed c.self.inside.row.items c.self.inside.late.entries c.self.inside.end new c.self.invariant c.requires.sized c.if-self-new.true
    ∙ ap (λ (held : Held). put_run held new.start new.bytes new.frame) c.self.view_is

pub put_all-requires : goal.put_all-requires
put_all-requires c =
    let gaps = subst (λ (held : Held). AreGaps held c.args.new c.in_ok-gaps.gaps.items) (sym c.self.view_is) c.in_ok-gaps.ensures in
    subst (λ (pieces : List Piece). AreFree c.self.inside.late.entries pieces) (sym c.deref.ensures.value)
    (gaps_free c.self.inside.row.items c.self.inside.late.entries c.self.inside.end c.args.new c.in_ok-gaps.gaps.items c.self.invariant gaps)

pub invariant_of-self-2 : goal.invariant_of-self-2
invariant_of-self-2 c =
    let new = c.args.new in
    let gaps = subst (λ (held : Held). AreGaps held new c.in_ok-gaps.gaps.items) (sym c.self.view_is) c.in_ok-gaps.ensures in
    let top : max c.self.inside.end new.end ≡ c.max-end.result = omega (arith, c.max-end.ensures) in
    rw (c.in_ok-put_all.ensures.ok, c.deref.ensures.value, sym top) (kept_put c.self.inside.row.items c.self.inside.late.entries c.self.inside.end new c.in_ok-gaps.gaps.items c.self.invariant gaps)

pub returns-clause-ok : goal.returns-clause-ok
returns-clause-ok c =
    let new = c.args.new in
    let row = c.self.inside.row.items in
    let late = c.self.inside.late.entries in
    let gaps = subst (λ (held : Held). AreGaps held new c.in_ok-gaps.gaps.items) (sym c.self.view_is) c.in_ok-gaps.ensures in
    ap (λ (es : List (ℕ × Piece)). held_of (row ++ values_of es)) (c.in_ok-put_all.ensures.ok ∙ ap (λ (pieces : List Piece). with_pieces late pieces) c.deref.ensures.value)
    ∙ gaps_put row late c.self.inside.end new c.in_ok-gaps.gaps.items c.self.invariant gaps
    ∙ ap (λ (held : Held). put_run held new.start new.bytes new.frame) c.self.view_is
