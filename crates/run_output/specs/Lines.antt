-- The output: the line of the fields' names, where it is asked for, one line for each frame that the filter lets through, the
-- reports, what is told of the program, and over a generated capture the line of what was counted. In place of all this, the bytes of a capture may be asked for.
use Rattle.std.specs.Prelude.{ℕ, Bool, false, not, ◌&&◌, List, [], ◌++◌, Option, None, Some, if◌then◌else◌, reverse}
use Rattle.capture_read.specs.declared.frame.Frame.{Frame}
use Rattle.capture_write.specs.Kept.{written}
use Rattle.capture_write.specs.declared.format.Format.{Format}
use Rattle.out_lines.specs.Lines.{header_of}
use Rattle.shark_words.specs.declared.options.LineKind.{LineKind}
use Rattle.shark_words.specs.declared.options.LineKind.TheVariants.{Text, Fields, Json}
use Rattle.run_frames.specs.declared.plan.Plan.{Plan}
use Rattle.run_frames.specs.Accessors.{fields_of, is_generated, is_quiet, kind_of, reports_of, style_of, written_of}
use Rattle.run_frames.specs.Chosen.{chosen, end_in}
use Rattle.run_output.specs.FilterStats.{stats_lines}
use Rattle.run_frames.specs.Job.{Job}
use Rattle.run_output.specs.Reports.{reports_text}
use Rattle.run_output.specs.SelfRun.{self_run_line}
use Rattle.run_frames.specs.Pieces.{pieces}

-- whether the line of the fields' names is written
abbrev pub is_headed : LineKind → Plan → Bool
is_headed Text plan = false
is_headed Json plan = false
is_headed Fields plan = (style_of plan).header && not (is_quiet plan)

-- what stands before the frames' lines
abbrev pub opening_by : Option Format → Plan → List ℕ
opening_by None plan = if is_headed (kind_of plan) plan then header_of (fields_of plan) (style_of plan) else []
opening_by (Some format) plan = []

unfoldable pub opening : Plan → List ℕ
opening plan = opening_by (written_of plan) plan

-- over a generated capture, the line of what was counted
abbrev pub counted_line : Job → List Frame → List ℕ
counted_line job past = if is_generated job.plan then self_run_line job past else []

-- what stands behind the frames' lines, over frames of which the newest stands first
abbrev pub closing_by : Option Format → Job → List Frame → List ℕ
closing_by None job past = reports_text job past (reports_of job.plan) ++ (stats_lines job past ++ counted_line job past)
closing_by (Some format) job past = end_in format job past

unfoldable pub closing : Job → List Frame → List ℕ
closing job past = closing_by (written_of job.plan) job past

-- the whole output over the frames that were read
abbrev pub output_by : Option Format → Job → List Frame → List ℕ
output_by None job frames = opening job.plan ++ (pieces job [] frames ++ closing job (reverse frames))
output_by (Some format) job frames = written format (chosen job [] frames)

unfoldable pub output_of : Job → List Frame → List ℕ
output_of job frames = output_by (written_of job.plan) job frames
