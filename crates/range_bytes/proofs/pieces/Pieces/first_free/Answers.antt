use Rattle.std.proofs.Common.{sym, ap, ◌∙◌}
use Rattle.std.specs.FinMap.{get}
use Rattle.range_bytes.specs.Held.{Held}
use Rattle.range_bytes.proofs.Kept.{past_end}
use Rattle.range_bytes.proofs.pieces.Pieces.first_free.Goals as goal

pub returns : goal.returns
returns c = record {
  order = c.loop-at.invariant.0;
  run = c.loop-at.invariant.1;
  free = sym (ap (λ (held : Held). get held c.loop-at.at) c.self.view_is)
      ∙ past_end c.self.inside.row.items c.self.inside.late.entries c.self.inside.end c.self.invariant c.loop-at.at c.loop-at-test.false;
}
