-- The first layer of a frame, which tells of the frame itself.
use Rattle.std.specs.Prelude.{ℕ, Bool, nat_lt, ◌||◌, ℤ, List, [], ◌∷◌, ◌++◌, length, Option, Some, None}
use Rattle.pk_base.specs.declared.span.Span.{Span}
use Rattle.pk_fields.specs.FieldSets.{is_in, every_field}
use Rattle.pk_fields.specs.Ids.{FRAME, FRAME_NUMBER, FRAME_TIME_EPOCH, FRAME_TIME_RELATIVE, FRAME_TIME_DELTA, FRAME_LEN, FRAME_CAP_LEN}
use Rattle.pk_base.specs.declared.heads.Mode.TheVariants.{Plain}
use Rattle.pk_tree.specs.declared.layout.Step.{Step}
use Rattle.pk_tree.specs.declared.layout.Step.TheVariants.{Made}
use Rattle.pk_base.specs.declared.value.Value.TheVariants.{Uint, Time}
use Rattle.pk_tree.specs.Layouts.{layer_read}
use Rattle.pk_tree.specs.Trees.{TreeShown}
use Rattle.capture_read.specs.declared.frame.Frame.{Frame}
use Rattle.app_layers.specs.declared.times.Times.{Times}
use Rattle.app_layers.specs.Times.{since}

-- whether fewer bytes were captured than the frame had
abbrev pub is_cut : Frame → Bool
is_cut frame = nat_lt (length frame.bytes) frame.original

-- all of the frame's bytes, which are its tree's first buffer
abbrev pub frame_span : Frame → Span
frame_span frame = record { buffer = 0; start = 0; len = length frame.bytes }

-- the frame's time: since 1970, since the first frame that has a time, and since the latest one before it that has one
abbrev pub time_steps : Times → Option ℤ → List Step
time_steps before None = []
time_steps before (Some time) =
    Made FRAME_TIME_EPOCH (Time time) ∷
    Made FRAME_TIME_RELATIVE (Time (since before.first time)) ∷
    Made FRAME_TIME_DELTA (Time (since before.latest time)) ∷
    []

-- the lengths are that on the wire and that of what was captured
unfoldable pub frame_layout : Times → Frame → List Step
frame_layout before frame =
    Made FRAME_NUMBER (Uint frame.number) ∷
    time_steps before frame.time ++
    Made FRAME_LEN (Uint frame.original) ∷
    Made FRAME_CAP_LEN (Uint (length frame.bytes)) ∷
    []

-- one of this layer's fields but the number is asked
abbrev pub asks_measure : List ℕ → Bool
asks_measure wanted =
    is_in wanted FRAME_TIME_EPOCH
    || is_in wanted FRAME_TIME_RELATIVE
    || is_in wanted FRAME_TIME_DELTA
    || is_in wanted FRAME_LEN
    || is_in wanted FRAME_CAP_LEN

-- the tree with this layer alone and the items of some fields, given the times of the frames before
unfoldable pub kept_frame : List ℕ → Times → Frame → TreeShown
kept_frame wanted before frame =
    layer_read (record { layers = []; buffers = frame.bytes ∷ []; wanted = wanted }) FRAME (frame_span frame) (frame_layout before frame) Plain (is_cut frame)

-- the same with the items of all fields
abbrev pub frame_tree : Times → Frame → TreeShown
frame_tree before frame = kept_frame every_field before frame
