-- What is told of the program.
use Rattle.std.proofs.Common.{◌≡◌, ◌+◌, ℕ, Bool, true, false, List, [], ◌∷◌, Option, None, Some, refl, sym, ap, ◌∙◌, if◌then◌else◌}
use Rattle.capture_read.specs.declared.frame.Frame.{Frame}
use Rattle.run_frames.specs.Accessors.{compiled_of, stats_of}
use Rattle.run_frames.specs.Compiled.{CompiledShown}
use Rattle.run_output.specs.FilterStats.{stats_by, stats_lines, stats_text, steps_over}
use Rattle.run_frames.specs.Totals.{steps_told, counts_of}
use Rattle.run_frames.specs.Job.{Job}
use Rattle.run_frames.specs.Notes.{AreNotes}
use Rattle.run_frames.specs.Satisfied.{judged}
use Rattle.run_frames.specs.Trees.{tree_of, trees_of}
use Rattle.run_frames.specs.declared.notes.Notes.{Notes}
use Rattle.run_frames.specs.declared.totals.Totals.{Totals}

-- where they are told, the steps that were counted are those over all trees
steps_so_far : (job : Job) (past : List Frame) → stats_of job.plan ≡ true
    → (counts_of job past).steps ≡ steps_over (compiled_of job.plan) (trees_of job past)
steps_so_far job [] told = refl
steps_so_far job (frame ∷ past) told =
    ap (λ (n : ℕ). n + steps_told job.plan (judged (compiled_of job.plan) (tree_of job past frame))) (steps_so_far job past told)
    ∙ ap (λ (b : Bool). steps_over (compiled_of job.plan) (trees_of job past) + (if b then (judged (compiled_of job.plan) (tree_of job past frame)).steps else 0)) told

pub stats_told : (job : Job) (past : List Frame) (compiled : CompiledShown) (notes : Notes) (text : List ℕ) → stats_of job.plan ≡ true
    → compiled_of job.plan ≡ Some compiled → AreNotes job past notes → text ≡ stats_text compiled notes.totals.steps → text ≡ stats_lines job past
stats_told job past compiled notes text told some noted is =
    is
    ∙ ap (λ (t : Totals). stats_text compiled t.steps) noted.totals
    ∙ ap (stats_text compiled) (steps_so_far job past told)
    ∙ sym (ap (λ (chosen : Option CompiledShown). stats_by chosen (steps_over (compiled_of job.plan) (trees_of job past))) some)
    ∙ sym (ap (λ (b : Bool). if b then stats_by (compiled_of job.plan) (steps_over (compiled_of job.plan) (trees_of job past)) else []) told)

-- where nothing is told
pub stats_untold : (job : Job) (past : List Frame) → stats_of job.plan ≡ false → [] ≡ stats_lines job past
stats_untold job past untold =
    sym (ap (λ (b : Bool). if b then stats_by (compiled_of job.plan) (steps_over (compiled_of job.plan) (trees_of job past)) else []) untold)

either_way : (b : Bool) (text : List ℕ) → (if b then text else text) ≡ text
either_way true text = refl
either_way false text = refl

pub stats_of_none : (job : Job) (past : List Frame) → compiled_of job.plan ≡ None → [] ≡ stats_lines job past
stats_of_none job past none =
    sym (ap (λ (chosen : Option CompiledShown). if stats_of job.plan then stats_by chosen (steps_over (compiled_of job.plan) (trees_of job past)) else []) none
    ∙ either_way (stats_of job.plan) [])
