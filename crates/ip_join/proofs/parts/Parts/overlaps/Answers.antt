use Rattle.std.proofs.Common.{◌≡◌, ℕ, nat_lt, sym, subst, ap, ◌∙◌, arith}
use Rattle.std.specs.List.{list_any}
use Rattle.range_bytes.specs.Held.{IsFirstHeld}
use Rattle.ip_join.specs.Fragments.{overlaps}
use Rattle.ip_join.proofs.KeptLemmas.{next_overlaps, none_overlaps}
use Rattle.ip_join.proofs.parts.Parts.overlaps.Goals as goal

pub returns-in-Some : goal.returns-in-Some
returns-in-Some c =
    let new = c.args.new.now in
    let at : c.from.result ≡ new.head.offset = omega (arith, c.from.ensures) in
    ap (λ (n : ℕ). nat_lt c.in-Some.next n) c.end.ensures
    ∙ sym (next_overlaps new c.self.inside.counted.items c.self.inside.held c.in-Some.next c.self.invariant.held_is
    (subst (λ (p : ℕ). IsFirstHeld c.self.inside.held p c.in-Some.next) at c.in-Some.ensures))
    ∙ ap (list_any (overlaps new)) c.self.view_is

pub returns-in-None : goal.returns-in-None
returns-in-None c =
    let new = c.args.new.now in
    sym (none_overlaps new c.self.inside.counted.items c.self.inside.held c.self.invariant.held_is (λ q low. c.in-None.ensures q (omega (arith, c.from.ensures, low))))
    ∙ ap (list_any (overlaps new)) c.self.view_is
