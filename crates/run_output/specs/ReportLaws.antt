-- What a report of a followed stream rests on.
use Rattle.std.specs.Prelude.{◌≡◌, ℕ, decimal, codes, List, [], ◌∷◌, ◌++◌}
use Rattle.capture_read.specs.declared.frame.Frame.{Frame}
use Rattle.shark_words.specs.declared.options.Report.TheVariants.{Follow}
use Rattle.tcp_streams.specs.Isolation.{HaveSameBetween, streams_of}
use Rattle.tcp_streams.specs.Labels.{labels}
use Rattle.tcp_streams.specs.declared.segment.Segment.{Segment}
use Rattle.run_frames.specs.Job.{Job}
use Rattle.run_output.specs.Reports.{report_text, tcp_segments}

-- the reports of two streams, each over frames of its own, are the same but for the streams' numbers in their first lines
pub record IsSameReport (job : Job) (past others : List Frame) (j k : ℕ) : Type 0 where
  pub lines : List ℕ
  pub one : report_text job past (Follow j) ≡ codes "follow tcp " ++ (decimal j ++ lines)
  pub other : report_text job others (Follow k) ≡ codes "follow tcp " ++ (decimal k ++ lines)

-- the same of the streams of two lists, in order
abbrev pub AreSameReports : Job → List Frame → List Frame → List ℕ → List ℕ → Type 0
AreSameReports job past others [] [] = Unit {0}
AreSameReports job past others (j ∷ js) (k ∷ ks) = IsSameReport job past others j k × AreSameReports job past others js ks
AreSameReports job past others [] (k ∷ ks) = ⊥
AreSameReports job past others (j ∷ js) [] = ⊥

-- the numbers of the streams of a segment's conversation
abbrev pub streams_between : Segment → List Frame → List ℕ
streams_between s past = streams_of s (labels (tcp_segments past))

-- frames that brought the same segments of a conversation, in the same order and whatever comes between, have the same reports
-- of its streams
abbrev pub FollowsAlone : Type 0
FollowsAlone = (job : Job) (s : Segment) (past others : List Frame) → HaveSameBetween s (tcp_segments past) (tcp_segments others)
    → AreSameReports job past others (streams_between s past) (streams_between s others)
