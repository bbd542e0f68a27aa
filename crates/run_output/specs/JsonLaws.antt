-- What the lines of JSON show of the messages of streams. Lists of frames have the newest first.
use Rattle.std.specs.Prelude.{◌≡◌, Bool, false, ℕ, List, [], ◌∷◌, ◌++◌, None}
use Rattle.capture_read.specs.declared.frame.Frame.{Frame}
use Rattle.out_json.specs.Lines.{json_line_of}
use Rattle.dissect.specs.MessageLaws.{app_of_stream, trees_show, whole_messages}
use Rattle.shark_words.specs.declared.options.LineKind.TheVariants.{Json}
use Rattle.stream_messages.specs.declared.framer.Framer.{Framer}
use Rattle.stream_messages.specs.Messages.{of_stretches}
use Rattle.stream_messages.specs.Sides.{asked_in, noted, shown_in}
use Rattle.tcp_messages.specs.Brought.{brought}
use Rattle.tcp_streams.specs.Labels.{Label, labels, way_of}
use Rattle.tcp_streams.specs.Ways.{stretches}
use Rattle.run_frames.specs.declared.plan.Plan.{Plan}
use Rattle.run_frames.specs.Accessors.{filter_of, is_quiet, kind_of, rules_of, written_of}
use Rattle.run_frames.specs.Job.{Job}
use Rattle.run_frames.specs.Pieces.{pieces_of}
use Rattle.run_output.specs.Reports.{tcp_segments}
use Rattle.run_frames.specs.Trees.{tree_of}

-- lines of JSON, and no filter
pub record ShowsAll (plan : Plan) : Type 0 where
  pub lines : written_of plan ≡ None
  pub loud : is_quiet plan ≡ false
  pub json : kind_of plan ≡ Json
  pub all : filter_of plan ≡ None

-- the line of each frame's tree
abbrev pub json_lines : Job → List Frame → List ℕ
json_lines job [] = []
json_lines job (frame ∷ past) = json_lines job past ++ json_line_of (tree_of job past frame)

-- the segments that frames brought, each with its stream and side
abbrev pub labels_in : List Frame → List Label
labels_in past = labels (tcp_segments past)

-- each frame has a line, which shows its tree, and the messages that the frames show of a direction of a stream, one frame
-- behind the other, are those of its stretches in their order: each in one line. So are those that stand in the very trees of
-- these lines, behind the last layer of TCP, each with its application and its bytes
pub record IsToldOnce (job : Job) (past : List Frame) : Type 0 where
  pub lines : pieces_of job past ≡ json_lines job past
  pub once : (framer : Framer) (stream : ℕ) (side : Bool)
      → shown_in side (noted framer (brought stream (labels_in past)))
      ≡ of_stretches framer (asked_in side (noted framer (brought stream (labels_in past)))) 0 (stretches (way_of stream side (labels_in past)))
  pub trees : (stream : ℕ) (side : Bool)
      → trees_show (tree_of job) stream side past
      ≡ whole_messages (app_of_stream (rules_of job.plan) stream (labels_in past)) stream side (labels_in past)

abbrev pub MessagesToldOnce : Type 0
MessagesToldOnce = (job : Job) (past : List Frame) → ShowsAll job.plan → IsToldOnce job past
