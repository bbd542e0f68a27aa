use Rattle.std.specs.Prelude.{◌≢◌, None}
use Rattle.capture_rows.proofs.blocks.are_steps.Given as goal

-- every block stands behind a section
abbrev pub invariant-loop-word : goal.invariant-loop-word
invariant-loop-word l = l.sections.order ≢ None
