-- The reports that stand behind the lines: a stream over all frames that were read, a table over those that the filter lets
-- through. Lists of frames and of segments have the newest first.
use Rattle.std.specs.Prelude.{◌≡◌, ℕ, Bool, true, false, nat_lt, List, [], ◌∷◌, ◌++◌, Option, None, Some}
use Rattle.cap_stats.specs.Tables.{table_of}
use Rattle.capture_read.specs.declared.frame.Frame.{Frame}
use Rattle.dissect.specs.Segments.{segments_of}
use Rattle.dissect.specs.Trees.{events_of}
use Rattle.out_lines.specs.Follow.{follow_of}
use Rattle.out_lines.specs.declared.follow.Fronts.{Fronts}
use Rattle.shark_words.specs.declared.options.Report.{Report}
use Rattle.shark_words.specs.declared.options.Report.TheVariants as reports
use Rattle.tcp_streams.specs.Labels.{labels, opened}
use Rattle.tcp_streams.specs.Standing.{way_for}
use Rattle.tcp_streams.specs.Ways.{stretches}
use Rattle.tcp_streams.specs.declared.segment.Segment.{Segment}
use Rattle.run_frames.specs.declared.plan.Plan.{Plan}
use Rattle.run_frames.specs.Job.{Job}
use Rattle.run_frames.specs.Tables.{asks_table, trees_let}

-- the stretches of both directions of a stream, where there is one
abbrev pub fronts_if : Bool → List Segment → ℕ → Option Fronts
fronts_if false segments stream = None
fronts_if true segments stream = Some (record {
  zero = stretches (way_for segments stream 0);
  one = stretches (way_for segments stream 1);
})

abbrev pub fronts_in : List Segment → ℕ → Option Fronts
fronts_in segments stream = fronts_if (nat_lt stream (opened (labels segments))) segments stream

-- the segments of TCP that frames brought
abbrev pub tcp_segments : List Frame → List Segment
tcp_segments past = segments_of (events_of past)

-- a report over frames
abbrev pub report_text : Job → List Frame → Report → List ℕ
report_text job past (reports.Follow stream) = follow_of stream (fronts_in (tcp_segments past) stream)
report_text job past (reports.Table kind) = table_of kind (trees_let job past)

-- reports, one after the other
abbrev pub reports_text : Job → List Frame → List Report → List ℕ
reports_text job past [] = []
reports_text job past (report ∷ reports) = report_text job past report ++ reports_text job past reports

-- where a report is a table, one of its kind is asked for
abbrev pub IsAsked : Plan → Report → Type 0
IsAsked plan (reports.Follow stream) = Unit {0}
IsAsked plan (reports.Table kind) = asks_table plan kind ≡ true
