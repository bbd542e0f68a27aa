-- Layouts that stand in tables: slots, whose conditions and sizes have numbers.
use Rattle.std.specs.Prelude.{ℕ, Bool, false, List, map}
use Rattle.std.specs.List.{slice_index_or}
use Rattle.pk_tree.specs.declared.layout.Step.{Step}
use Rattle.pk_tree.specs.declared.layout.Step.TheVariants as steps
use Rattle.pk_tree.specs.declared.table.Slot.{Slot}
use Rattle.pk_tree.specs.declared.table.Slot.TheVariants as slots

-- a slot's step, by the conditions and the sizes; a condition that isn't there doesn't hold, and a size is 0
abbrev pub step_of : List Bool → List ℕ → Slot → Step
step_of holds sizes (slots.Row field at) = steps.Row field at
step_of holds sizes (slots.Part field at size) = steps.Part field at (slice_index_or sizes size 0)
step_of holds sizes (slots.PartAt field at size) =
    steps.Part field (slice_index_or sizes at 0) (slice_index_or sizes size 0)
step_of holds sizes (slots.Whole field at size) = steps.Whole field at (slice_index_or sizes size 0)
step_of holds sizes (slots.Check test) = steps.Check (slice_index_or holds test false)
step_of holds sizes (slots.Room test) = steps.Room (slice_index_or holds test false)

unfoldable pub steps_of : List Bool → List ℕ → List Slot → List Step
steps_of holds sizes table = map (step_of holds sizes) table
