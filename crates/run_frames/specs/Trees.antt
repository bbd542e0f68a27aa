-- The trees of a plan's frames, and which of them its filter lets through. Each frame is read by those before it; lists of frames
-- have the newest first.
use Rattle.std.specs.Prelude.{Bool, List, [], ◌∷◌}
use Rattle.capture_read.specs.declared.frame.Frame.{Frame}
use Rattle.dissect.specs.Trees.{tree_at}
use Rattle.pk_tree.specs.Trees.{TreeShown}
use Rattle.run_frames.specs.declared.plan.Plan.{Plan}
use Rattle.run_frames.specs.Accessors.{compiled_of, rules_of}
use Rattle.run_frames.specs.Job.{Job, with_links}
use Rattle.run_frames.specs.Satisfied.{satisfies}

-- the tree of a frame, given the frames before it, with its links to later ones as far as these are known
abbrev pub tree_of : Job → List Frame → Frame → TreeShown
tree_of job past frame = with_links job.passes frame.number (tree_at (rules_of job.plan) past frame)

-- the trees of frames
abbrev pub trees_of : Job → List Frame → List TreeShown
trees_of job [] = []
trees_of job (frame ∷ past) = tree_of job past frame ∷ trees_of job past

-- whether the plan's program lets a tree through
abbrev pub lets : Plan → TreeShown → Bool
lets plan tree = satisfies (compiled_of plan) tree

-- whether it lets the tree of a frame through
abbrev pub lets_frame : Job → List Frame → Frame → Bool
lets_frame job past frame = lets job.plan (tree_of job past frame)
