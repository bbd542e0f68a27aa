-- What is counted of frames, one after the other.
use Rattle.std.specs.Prelude.{ℕ, suc, ◌+◌, ◌*◌, ◌^◌, ◌≤◌, Bool, if◌then◌else◌, List, [], ◌∷◌}
use Rattle.capture_read.specs.declared.frame.Frame.{Frame}
use Rattle.flt_vm.specs.declared.run.Verdict.{Verdict}
use Rattle.pk_fields.specs.Ids.{DNS, HTTP}
use Rattle.pk_tree.specs.Trees.{TreeShown, layers_of}
use Rattle.run_frames.specs.declared.plan.Plan.{Plan}
use Rattle.run_frames.specs.declared.totals.Totals.{Totals}
use Rattle.run_frames.specs.Accessors.{compiled_of, is_generated, stats_of}
use Rattle.run_frames.specs.Job.{Job}
use Rattle.run_frames.specs.Satisfied.{judged}
use Rattle.run_frames.specs.Trees.{tree_of}

-- one tree more, which the filter lets through or not
abbrev pub with_tree : TreeShown → Bool → Totals → Totals
with_tree tree shown totals = record {
  frames = suc totals.frames;
  shown = if shown then suc totals.shown else totals.shown;
  dns = totals.dns + layers_of DNS tree.layers;
  http = totals.http + layers_of HTTP tree.layers;
  steps = totals.steps;
}

-- the same where the capture is generated; over a file nothing is counted of a tree
abbrev pub tree_counted : Plan → TreeShown → Bool → Totals → Totals
tree_counted plan tree shown totals = if is_generated plan then with_tree tree shown totals else totals

-- the steps that a run adds, where steps are counted
abbrev pub steps_told : Plan → Verdict → ℕ
steps_told plan verdict = if stats_of plan then verdict.steps else 0

-- one tree more, of which the program answers this
abbrev pub counts_by : Plan → Verdict → TreeShown → Totals → Totals
counts_by plan verdict tree totals =
    record (tree_counted plan tree verdict.holds totals) { steps = totals.steps + steps_told plan verdict }

abbrev pub counts_with : Plan → TreeShown → Totals → Totals
counts_with plan tree totals = counts_by plan (judged (compiled_of plan) tree) tree totals

-- what is counted of frames, the newest first, one after the other
abbrev pub nothing_counted : Totals
nothing_counted = record { frames = 0; shown = 0; dns = 0; http = 0; steps = 0 }

abbrev pub counts_of : Job → List Frame → Totals
counts_of job [] = nothing_counted
counts_of job (frame ∷ past) = counts_with job.plan (tree_of job past frame) (counts_of job past)

-- so many frames were counted at most
pub record AreFew (most : ℕ) (totals : Totals) : Type 0 where
  pub frames : totals.frames ≤ most
  pub shown : totals.shown ≤ most
  pub dns : totals.dns ≤ most * 2 ^ 32
  pub http : totals.http ≤ most * 2 ^ 32
  pub steps : totals.steps ≤ most * 2 ^ 32
