use Rattle.std.proofs.Common.{◌≡◌, ◌≢◌, None, subst, sym}
use Rattle.capture_formats.specs.Sections.{Scope, block_in, scope_with}
use Rattle.capture_formats.specs.declared.block.BlockRead.{BlockRead}
use Rattle.capture_formats.specs.declared.block.BlockRead.TheVariants.{Whole}
use Rattle.capture_formats.proofs.FirstSection.{Begun, begun, when_taken}
use Rattle.capture_formats.proofs.sections.Sections.next_block.Goals as goal

pub returns-in_ok-take-in-Whole-clause-begun : goal.returns-in_ok-take-in-Whole-clause-begun
returns-in_ok-take-in-Whole-clause-begun c =
    let is : block_in c.args.self.now c.args.rest.now ≡ Whole c.in-Whole.block c.in-Whole.end = cc in
    let known : (scope_with c.args.self.now c.in-Whole.block).order ≢ None =
    subst (λ (read : BlockRead). Begun c.args.self.now read) is (begun c.args.self.now c.args.rest.now c.requires) in
    when_taken c.step_of_block.result (c.take.new.self.order ≢ None)
    (subst (λ (scope : Scope). scope.order ≢ None) (sym c.in_ok-take-in-Whole.ensures.scope) known)
