-- What is written of each frame: the line of one that the filter lets through, or the bytes of a packet where a capture is written.
use Rattle.std.specs.Prelude.{ℕ, List, [], ◌∷◌, ◌++◌, Option, None, Some, if◌then◌else◌}
use Rattle.pk_tree.specs.Trees.{TreeShown}
use Rattle.capture_read.specs.declared.frame.Frame.{Frame}
use Rattle.capture_write.specs.Kept.{written}
use Rattle.capture_write.specs.declared.format.Format.{Format}
use Rattle.out_json.specs.Lines.{json_line_of}
use Rattle.out_lines.specs.Lines.{field_line_of}
use Rattle.out_lines.specs.Summary.{summary_of}
use Rattle.shark_words.specs.declared.options.LineKind.{LineKind}
use Rattle.shark_words.specs.declared.options.LineKind.TheVariants.{Text, Fields, Json}
use Rattle.run_frames.specs.declared.plan.Plan.{Plan}
use Rattle.run_frames.specs.Accessors.{fields_of, is_quiet, kind_of, style_of, written_of}
use Rattle.run_frames.specs.Chosen.{packet_in}
use Rattle.run_frames.specs.Job.{Job}
use Rattle.run_frames.specs.Trees.{lets, tree_of}

-- the line of a tree, of this kind
abbrev pub line_by : LineKind → Plan → TreeShown → List ℕ
line_by Text plan tree = summary_of tree
line_by Fields plan tree = field_line_of (fields_of plan) tree (style_of plan)
line_by Json plan tree = json_line_of tree

abbrev pub line_of : Plan → TreeShown → List ℕ
line_of plan tree = line_by (kind_of plan) plan tree

-- the line of a tree, or nothing
abbrev pub shown : Plan → TreeShown → List ℕ
shown plan tree = if is_quiet plan then [] else if lets plan tree then line_of plan tree else []

-- what is written of a frame, given those before it, of which the newest stands first
abbrev pub piece_by : Option Format → Job → List Frame → Frame → List ℕ
piece_by None job past frame = shown job.plan (tree_of job past frame)
piece_by (Some format) job past frame = packet_in format job past frame

abbrev pub piece : Job → List Frame → Frame → List ℕ
piece job past frame = piece_by (written_of job.plan) job past frame

-- what is written of the frames behind those of the past
abbrev pub pieces : Job → List Frame → List Frame → List ℕ
pieces job past [] = []
pieces job past (frame ∷ frames) = piece job past frame ++ pieces job (frame ∷ past) frames

-- what is written of frames of which the newest stands first
abbrev pub pieces_of : Job → List Frame → List ℕ
pieces_of job [] = []
pieces_of job (frame ∷ past) = pieces_of job past ++ piece job past frame
