use Rattle.std.proofs.Common.{Bool, not, ◌&&◌, sym, ap, ◌∙◌}
use Rattle.std.specs.List.{list_any}
use Rattle.ip_join.specs.Fragments.{repeats}
use Rattle.ip_join.proofs.KeptLemmas.{overlap_has}
use Rattle.ip_join.proofs.parts.Parts.overlaps_anew.Goals as goal

pub returns-then-overlaps : goal.returns-then-overlaps
returns-then-overlaps c = λ first.
    let new = c.args.new.now in
    let gs = c.args.self.now in
    let over = sym c.overlaps.ensures ∙ c.if-overlaps.true in
    ap not (c.repeats.ensures first (overlap_has new gs over))
    ∙ sym (ap (λ (b : Bool). b && not (list_any (repeats new) gs)) over)
