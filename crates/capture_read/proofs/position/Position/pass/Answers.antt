use Rattle.std.proofs.Common.{ℕ, ◌+◌, ap, arith, length, length-drop, subst, sym}
use Rattle.capture_formats.specs.Sections.{IsStepWithin}
use Rattle.capture_formats.specs.declared.step.BlockStep.TheVariants as step
use Rattle.capture_read.specs.Reader.{Reader, IsPlaced}
use Rattle.capture_read.proofs.ReaderBounds.{number_few, place_few}
use Rattle.capture_read.proofs.position.Position.pass.Goals as goal

pub overflow_add-self : goal.overflow_add-self
overflow_add-self c = omega (arith, number_few _ c.self.invariant)

pub overflow_add-self-2 : goal.overflow_add-self-2
overflow_add-self-2 c =
    let within = subst (λ (r : Reader). IsStepWithin (step.Item c.args.found.now) (length r.held)) (sym c.self.view_is) c.requires.within in
    omega (arith, place_few _ c.self.invariant, within.1)

pub invariant_of-self : goal.invariant_of-self
invariant_of-self c =
    let found = c.args.found.now in
    let within = subst (λ (r : Reader). IsStepWithin (step.Item found) (length r.held)) (sym c.self.view_is) c.requires.within in
    let placed = subst (λ (r : Reader). (number : ℕ) → (at : ℕ) → IsPlaced r.kind r.scope number at) (sym c.self.view_is) c.requires.placed in
    record {
      few = omega (arith, c.self.invariant.few, within.0);
      within = omega (arith, ap length c.pass.ensures, length-drop found.end c.self.inside.held, c.self.invariant.within, within.1);
      placed = placed (c.self.inside.number + 1) (c.self.inside.at + found.end);
      offsets = c.self.invariant.offsets;
    }
