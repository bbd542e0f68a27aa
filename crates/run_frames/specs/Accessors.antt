-- What a plan asks for. Only these words look into it.
use Rattle.std.specs.Prelude.{ℕ, Bool, true, false, ◌||◌, List, Option, option_map}
use Rattle.std.specs.List.{list_any}
use Rattle.cap_stats.specs.declared.kind.StatKind.TheVariants.{ConvTcp, ConvIp, Phs}
use Rattle.capture_write.specs.declared.format.Format.{Format}
use Rattle.flt_typed.specs.declared.typed.Typed.{Typed}
use Rattle.out_lines.specs.declared.style.Style.{Style}
use Rattle.pk_fields.specs.declared.rules.PortRule.{PortRule}
use Rattle.shark_words.specs.declared.options.LineKind.{LineKind}
use Rattle.shark_words.specs.declared.options.Report.{Report}
use Rattle.shark_words.specs.declared.options.Report.TheVariants as reports
use Rattle.run_frames.specs.Compiled.{CompiledShown}
use Rattle.run_frames.specs.declared.plan.Plan.{Plan}
use Rattle.run_frames.specs.declared.source.PlanSource.{PlanSource}
use Rattle.run_frames.specs.Source.{is_generated_by, name_by}

-- where the frames come from
abbrev pub source_of : Plan → PlanSource
source_of plan = plan.source

-- the format of the capture that is written in place of lines, where one is
abbrev pub written_of : Plan → Option Format
written_of plan = plan.written

-- the name of the file
abbrev pub name_of : Plan → List ℕ
name_of plan = name_by (source_of plan)

-- whether the capture is generated
abbrev pub is_generated : Plan → Bool
is_generated plan = is_generated_by (source_of plan)

-- the filter with its program, where there is one
abbrev pub compiled_of : Plan → Option CompiledShown
compiled_of plan = plan.chosen

-- what a frame's tree has to satisfy
abbrev pub filter_of : Plan → Option Typed
filter_of plan = option_map (λ (compiled : CompiledShown). compiled.filter) (compiled_of plan)

-- the rules that take the place of the usual applications of ports
abbrev pub rules_of : Plan → List PortRule
rules_of plan = plan.decode

-- the reports behind the lines
abbrev pub reports_of : Plan → List Report
reports_of plan = plan.reports

-- the kind of line
abbrev pub kind_of : Plan → LineKind
kind_of plan = plan.kind

-- the columns of the lines of fields, and how they are written
abbrev pub fields_of : Plan → List ℕ
fields_of plan = plan.fields

abbrev pub style_of : Plan → Style
style_of plan = plan.style

-- whether the listing and the steps of the program are told
abbrev pub stats_of : Plan → Bool
stats_of plan = plan.stats

-- whether the frames are read twice
abbrev pub two_of : Plan → Bool
two_of plan = plan.two

-- how many frames are read at most
abbrev pub most_of : Plan → Option ℕ
most_of plan = plan.most

-- whether a report is told by a stream of TCP; tables are told by the frames' trees
abbrev pub is_of_streams : Report → Bool
is_of_streams (reports.Follow stream) = true
is_of_streams (reports.Table ConvTcp) = false
is_of_streams (reports.Table ConvIp) = false
is_of_streams (reports.Table Phs) = false

-- whether something behind the lines is
abbrev pub needs_streams : Plan → Bool
needs_streams plan = is_generated plan || list_any is_of_streams (reports_of plan)

-- whether no lines of frames are written: so it is asked for, or the capture is generated
abbrev pub is_quiet : Plan → Bool
is_quiet plan = is_generated plan || plan.quiet
