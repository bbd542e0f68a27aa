-- Where the frames of a run come from.
use Rattle.std.specs.Prelude.{ℕ, List, [], Bool, true, false}
use Rattle.shark_words.specs.declared.options.Source.{Source}
use Rattle.shark_words.specs.declared.options.Source.TheVariants as asked
use Rattle.run_frames.specs.declared.source.PlanSource.{PlanSource}
use Rattle.run_frames.specs.declared.source.PlanSource.TheVariants.{Named, Generated}

-- the source that words ask for
abbrev pub source_in : Source → PlanSource
source_in (asked.Named name) = Named name
source_in (asked.Generated start frames) = Generated (record { start = start; frames = frames })

-- the name of the file; a generated capture has none
abbrev pub name_by : PlanSource → List ℕ
name_by (Named name) = name
name_by (Generated capture) = []

abbrev pub is_generated_by : PlanSource → Bool
is_generated_by (Named name) = false
is_generated_by (Generated capture) = true

-- P, where a file is read
abbrev pub IfNamed : PlanSource → Type 0 → Type 0
IfNamed (Named name) P = P
IfNamed (Generated capture) P = Unit {0}
