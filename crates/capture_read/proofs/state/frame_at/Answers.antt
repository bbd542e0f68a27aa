use Rattle.std.proofs.Common.{arith, refl, ◌∙◌}
use Rattle.capture_read.proofs.Limit.{length-held_part, slice_range-held_part}
use Rattle.capture_read.proofs.state.frame_at.Goals as goal

pub overflow_add-start : goal.overflow_add-start
overflow_add-start c = omega (arith, c.requires, length-held_part c.args.file.now)

pub overflow_add-start-2 : goal.overflow_add-start-2
overflow_add-start-2 c = omega (arith, c.requires, length-held_part c.args.file.now)

pub returns : goal.returns
returns c =
    rw (c.in_ok-part.ensures ∙ slice_range-held_part c.args.file.now c.args.place.at c.args.found.now.start c.args.found.now.len c.requires) refl
