use Rattle.std.proofs.Common.{◌-◌, List, drop, refl, ap, ◌∙◌, subst}
use Rattle.range_bytes.specs.declared.in_order.Mark.{Mark}
use Rattle.range_bytes.specs.LetGo.{AreMarksPast}
use Rattle.range_bytes.proofs.LettingGo.{shorter_is}
use Rattle.range_bytes.proofs.in_order.InOrder.shorten.Goals as goal

pub returns-clause-ok : goal.returns-clause-ok
returns-clause-ok c =
    let row = c.args.self.now in
    shorter_is row (record { start = c.args.to; end = row.end; bytes = c.in_ok-self.field-0; marks = c.in_ok-marks.marks }) c.args.to c.requires.end c.requires.marked c.requires.low c.requires.high refl refl
    (c.in_ok-self.ensures ∙ ap (drop (c.args.to - row.start)) c.deref-2.ensures.value)
    (subst (λ (marks : List Mark). AreMarksPast marks c.args.to c.in_ok-marks.marks.items) c.deref.ensures.value c.in_ok-marks.ensures)
