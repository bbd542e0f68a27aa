use Rattle.std.proofs.Common.{◌≡◌, ◌-◌, ℕ, suc, length}
use Rattle.out_lines.specs.Places.{place_in}
use Rattle.out_lines.proofs.columns.make_room.Given as goal

abbrev pub invariant-loop-places : goal.invariant-loop-places
invariant-loop-places l = (f : ℕ) → place_in l.places.items f ≡ place_in l.initial.places.items f

abbrev pub decreases-loop-places : goal.decreases-loop-places
decreases-loop-places l = suc l.number - length l.places.items
