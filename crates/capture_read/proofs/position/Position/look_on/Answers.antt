use Rattle.std.proofs.Common.{arith}
use Rattle.capture_read.proofs.ReaderBounds.{lessened_by, step_few}
use Rattle.capture_read.proofs.ReaderTurns.{bad_by, found_by, skipped_by, need_by}
use Rattle.capture_read.proofs.position.Position.look_on.Goals as goal

pub overflow_add-self : goal.overflow_add-self
overflow_add-self c =
    omega (arith, step_few _ c.bytes.result.now _ _ c.self.invariant c.bytes.ensures c.in-Skipped.is c.in_ok-need.ensures.within)

pub returns-in-Bad-clause-sees : goal.returns-in-Bad-clause-sees
returns-in-Bad-clause-sees c = λ left.
    bad_by c.args.self.now _ c.bytes.result.now c.in_ok-need.field-0 c.look.new.kind c.look.new.sections c.damage_at-ending.result left c.in-Bad.reason
    c.self.view_is c.self.invariant (record { held = c.bytes.ensures; found = c.in_ok-need.ensures.step; kind_is = c.in_ok-need.ensures.kind; scope_is = c.in_ok-need.ensures.scope })
    c.in-Bad.is c.in_ok-need.ensures.untaken c.damage_at-ending.ensures

pub returns-in-Item-clause-sees : goal.returns-in-Item-clause-sees
returns-in-Item-clause-sees c = λ left.
    found_by c.args.self.now _ c.bytes.result.now c.in_ok-need.field-0 c.look.new.kind c.look.new.sections left c.in-Item.item
    c.self.view_is c.self.invariant (record { held = c.bytes.ensures; found = c.in_ok-need.ensures.step; kind_is = c.in_ok-need.ensures.kind; scope_is = c.in_ok-need.ensures.scope })
    c.in-Item.is c.in_ok-need.ensures.within c.in_ok-need.ensures.taken (c.in_ok-need.ensures.timely c.self.invariant.offsets)

pub returns-in-Skipped-clause-sees : goal.returns-in-Skipped-clause-sees
returns-in-Skipped-clause-sees c = λ left.
    skipped_by c.args.self.now _ c.bytes.result.now c.pass.new.self c.in_ok-need.field-0 c.look.new.kind c.look.new.sections left c.in-Skipped.size
    c.self.view_is c.self.invariant (record { held = c.bytes.ensures; found = c.in_ok-need.ensures.step; kind_is = c.in_ok-need.ensures.kind; scope_is = c.in_ok-need.ensures.scope })
    c.in-Skipped.is c.in_ok-need.ensures.within c.pass.ensures

pub returns-in-Need-clause-sees : goal.returns-in-Need-clause-sees
returns-in-Need-clause-sees c =
    need_by c.want.result c.args.found.now c.args.self.now _ c.in_ok-need.field-0 c.look.new.kind c.look.new.sections c.in-Need.need c.self.view_is c.in-Need.is c.in_ok-need.ensures.untaken (c.want.ensures.sees c.args.found.now)

pub returns-in-Skipped-clause-counts : goal.returns-in-Skipped-clause-counts
returns-in-Skipped-clause-counts c =
    lessened_by c.args.self.now _ c.bytes.result.now c.pass.new.self c.in_ok-need.field-0 c.look.new.kind c.look.new.sections c.in-Skipped.size
    c.self.view_is c.self.invariant c.bytes.ensures c.in-Skipped.is c.in_ok-need.ensures.within c.pass.ensures
