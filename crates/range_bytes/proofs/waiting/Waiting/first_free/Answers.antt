use Rattle.std.proofs.Common.{sym, ap, ◌∙◌}
use Rattle.std.specs.Map.{values_of}
use Rattle.std.specs.FinMap.{get}
use Rattle.range_bytes.specs.Held.{Held}
use Rattle.range_bytes.proofs.PieceLemmas.{get-held_of, found_after}
use Rattle.range_bytes.proofs.waiting.Waiting.first_free.Goals as goal

pub returns : goal.returns
returns c = record {
  order = c.loop-at.invariant.0;
  run = c.loop-at.invariant.1;
  free = sym (ap (λ (held : Held). get held c.loop-at.at) c.self.view_is)
      ∙ get-held_of (values_of c.self.inside.pieces.entries) c.loop-at.at ∙ found_after 0 (values_of c.self.inside.pieces.entries) c.self.inside.end c.loop-at.at c.self.invariant.1 c.loop-at-test.false;
}
