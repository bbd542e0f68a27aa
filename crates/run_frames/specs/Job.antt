-- What the lines of frames are made from: a plan, and how often the frames are read.
use Rattle.std.specs.Prelude.{ℕ, Bool, true, false, List, [], ◌∷◌, reverse}
use Rattle.capture_read.specs.declared.frame.Frame.{Frame}
use Rattle.dissect.specs.Trees.{tree_at}
use Rattle.pk_tree.specs.Trees.{TreeShown}
use Rattle.pk_fields.specs.declared.rules.PortRule.{PortRule}
use Rattle.second_pass.specs.Forward.{forwarded}
use Rattle.second_pass.specs.Named.{Noted, noted_as}
use Rattle.run_frames.specs.declared.plan.Plan.{Plan}
use Rattle.run_frames.specs.Accessors.{rules_of, two_of}

-- the frames are read once, or twice: then the trees of the first reading are known, the newest first
pub data Passes : Type 0 where
  One : Passes
  Two : List Noted → Passes

pub record Job : Type 0 where
  pub plan : Plan
  pub passes : Passes

-- the trees of a first reading, by these rules for ports
abbrev pub noted_of : List PortRule → List Frame → List Noted
noted_of rules [] = []
noted_of rules (frame ∷ past) = noted_as frame.number (tree_at rules past frame) ∷ noted_of rules past

-- the passes over frames, which stand in their order
abbrev pub passes_by : Bool → List PortRule → List Frame → Passes
passes_by false rules frames = One
passes_by true rules frames = Two (noted_of rules (reverse frames))

abbrev pub job_in : Plan → Passes → Job
job_in plan passes = record { plan = plan; passes = passes }

abbrev pub job_over : Plan → List Frame → Job
job_over plan frames = job_in plan (passes_by (two_of plan) (rules_of plan) frames)

-- where the frames are read once
abbrev pub once : Plan → Job
once plan = job_in plan One

abbrev pub IfOnce : Bool → Type 0 → Type 0
IfOnce false P = P
IfOnce true P = Unit {0}

-- a frame's tree with its links to later frames, as far as these are known
abbrev pub with_links : Passes → ℕ → TreeShown → TreeShown
with_links One frame tree = tree
with_links (Two noted) frame tree = forwarded noted frame tree
