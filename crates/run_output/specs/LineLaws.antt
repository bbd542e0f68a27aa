-- What lines of columns rest on, where these and the filter ask for no numbers of frames or streams and no times since earlier frames: other
-- conversations' frames may be taken out of a capture. Lists of frames have the newest first.
use Rattle.std.specs.Prelude.{◌≡◌, ℕ, Bool, true, List, [], ◌∷◌, ◌++◌, None, if◌then◌else◌}
use Rattle.capture_read.specs.declared.frame.Frame.{Frame}
use Rattle.dissect.specs.Isolation.{brought}
use Rattle.dissect.specs.Numbering.{ConversationsStay, DatagramsStay, FragmentsStay, HasNoNumbering, events_staying, frame_renumbered, staying}
use Rattle.dissect.specs.Trees.{events_of}
use Rattle.shark_words.specs.declared.options.LineKind.TheVariants.{Fields}
use Rattle.run_frames.specs.declared.plan.Plan.{Plan}
use Rattle.run_frames.specs.Accessors.{kind_of, written_of}
use Rattle.run_frames.specs.Job.{Job}
use Rattle.run_frames.specs.Pieces.{piece, pieces_of}
use Rattle.run_frames.specs.Wanted.{HasPlan}

-- lines of columns are written, and neither these nor the filter ask for a field that numbers
pub record AsksNoNumbers (wanted : List ℕ) (plan : Plan) : Type 0 where
  pub lines : written_of plan ≡ None
  pub columns : kind_of plan ≡ Fields
  pub asked : HasPlan wanted plan
  pub none : HasNoNumbering wanted

-- all fragments of a frame's datagrams and all segments of its conversation are among the frames that stay
pub record ItsOwnStay (renumber : ℕ → ℕ) (stays : Frame → Bool) (past : List Frame) (frame : Frame) : Type 0 where
  pub fragments : FragmentsStay (brought past frame) (events_of past) (events_staying stays past)
  pub segments : ConversationsStay renumber (brought past frame) (events_of past) (events_staying stays past)

-- the frame's line, or that it has none, is then the same
abbrev pub LinesButNumbers : Type 0
LinesButNumbers = (wanted : List ℕ) (job other : Job) (renumber : ℕ → ℕ) (stays : Frame → Bool) (past : List Frame) (frame : Frame)
    → AsksNoNumbers wanted job.plan → other.plan ≡ job.plan → DatagramsStay stays past → ItsOwnStay renumber stays past frame
    → piece other (staying stays renumber past) (frame_renumbered renumber frame) ≡ piece job past frame

-- so it is for each frame that stays
abbrev pub TheirOwnStay : (ℕ → ℕ) → (Frame → Bool) → List Frame → Type 0
TheirOwnStay renumber stays [] = Unit {0}
TheirOwnStay renumber stays (frame ∷ past) = (stays frame ≡ true → ItsOwnStay renumber stays past frame) × TheirOwnStay renumber stays past

-- the lines of the frames that stay
abbrev pub lines_staying : Job → (Frame → Bool) → List Frame → List ℕ
lines_staying job stays [] = []
lines_staying job stays (frame ∷ past) = lines_staying job stays past ++ (if stays frame then piece job past frame else [])

-- and these are then the lines of the capture without the others
abbrev pub OthersLinesTakenOut : Type 0
OthersLinesTakenOut = (wanted : List ℕ) (job other : Job) (renumber : ℕ → ℕ) (stays : Frame → Bool) (past : List Frame)
    → AsksNoNumbers wanted job.plan → other.plan ≡ job.plan → TheirOwnStay renumber stays past
    → pieces_of other (staying stays renumber past) ≡ lines_staying job stays past
