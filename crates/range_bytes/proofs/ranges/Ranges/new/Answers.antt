use Rattle.std.proofs.Common.{sym, subst}
use Rattle.range_bytes.specs.Held.{Held, IsFront}
use Rattle.range_bytes.proofs.Fronts.{front_none}
use Rattle.range_bytes.proofs.ranges.Ranges.new.Goals as goal

pub invariant_of-result : goal.invariant_of-result
invariant_of-result c = subst (λ (held : Held). IsFront held 0) (sym c.new.ensures) front_none
