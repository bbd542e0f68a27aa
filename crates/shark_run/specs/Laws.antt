-- What holds of the plans of every list of words.
use Rattle.std.specs.Prelude.{◌≡◌, ℕ, false, List}
use Rattle.capture_read.specs.declared.frame.Frame.{Frame}
use Rattle.pk_tree.specs.Trees.{TreeShown}
use Rattle.run_frames.specs.declared.plan.Plan.{Plan}
use Rattle.run_frames.specs.Accessors.{source_of, stats_of}
use Rattle.run_frames.specs.Job.{Passes, job_in}
use Rattle.run_frames.specs.Trees.{lets}
use Rattle.run_output.specs.Lines.{output_of}
use Rattle.run_passes.specs.Reading.{frames_read}
use Rattle.run_words.specs.Plan.{IsPlan}

-- two plans have the same source and read the same of it, let the same trees through, and write the same over any frames, in the same
-- passes; where their programs are told, these may differ
pub record AreAlike (one other : Plan) : Type 0 where
  pub source : source_of one ≡ source_of other
  pub read : (file : List ℕ) → frames_read one file ≡ frames_read other file
  pub lets : (tree : TreeShown) → lets one tree ≡ lets other tree
  pub written : stats_of one ≡ false → (passes : Passes) (frames : List Frame)
      → output_of (job_in one passes) frames ≡ output_of (job_in other passes) frames

-- all plans of the same words are alike
abbrev pub PlansAreAlike : Type 0
PlansAreAlike = (words : List (List ℕ)) (one other : Plan) → IsPlan words one → IsPlan words other → AreAlike one other
