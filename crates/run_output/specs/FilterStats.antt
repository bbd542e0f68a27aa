-- What is told of a plan's program: its listing, and its steps over the trees of all frames that were read.
use Rattle.std.specs.Prelude.{ℕ, ◌+◌, if◌then◌else◌, List, [], ◌∷◌, ◌++◌, codes, decimal, length, Option, None, Some}
use Rattle.capture_read.specs.declared.frame.Frame.{Frame}
use Rattle.flt_program.specs.Listing.{listing_of}
use Rattle.pk_tree.specs.Trees.{TreeShown}
use Rattle.run_frames.specs.Accessors.{compiled_of, stats_of}
use Rattle.run_frames.specs.Compiled.{CompiledShown}
use Rattle.run_frames.specs.Job.{Job}
use Rattle.run_frames.specs.Satisfied.{judged}
use Rattle.run_frames.specs.Trees.{trees_of}

-- the steps of the runs over trees
abbrev pub steps_over : Option CompiledShown → List TreeShown → ℕ
steps_over chosen [] = 0
steps_over chosen (tree ∷ trees) = steps_over chosen trees + (judged chosen tree).steps

-- how many instructions and steps there are, and the listing
abbrev pub stats_text : CompiledShown → ℕ → List ℕ
stats_text compiled steps =
    codes "filter " ++ (decimal (length compiled.program.items)
    ++ (codes " instructions " ++ (decimal steps
    ++ (codes " steps\n" ++ listing_of compiled.program compiled.filter))))

-- the same of a plan's program, where there is one
abbrev pub stats_by : Option CompiledShown → ℕ → List ℕ
stats_by None steps = []
stats_by (Some compiled) steps = stats_text compiled steps

-- where it is asked for, over frames of which the newest stands first
abbrev pub stats_lines : Job → List Frame → List ℕ
stats_lines job past =
    if stats_of job.plan then stats_by (compiled_of job.plan) (steps_over (compiled_of job.plan) (trees_of job past)) else []
