-- The layer of the frame itself, where none of its fields is asked.
use Rattle.std.proofs.Common.{◌≡◌, ◌||◌, ℕ, Bool, true, false, List, [], ◌∷◌, ◌++◌, length, Option, Some, None, refl, sym, true≢false}
use Rattle.std.specs.Prelude.{ℤ}
use Rattle.std.specs.List.{AllByRecursion as Each}
use Rattle.pk_fields.specs.FieldSets.{is_in}
use Rattle.pk_fields.specs.Ids.{FRAME, FRAME_NUMBER, FRAME_TIME_EPOCH, FRAME_TIME_RELATIVE, FRAME_TIME_DELTA, FRAME_LEN, FRAME_CAP_LEN}
use Rattle.pk_base.specs.declared.heads.Mode.TheVariants.{Plain}
use Rattle.pk_tree.specs.declared.layout.Reach.TheVariants.{All}
use Rattle.pk_tree.specs.declared.layout.Step.{Step}
use Rattle.pk_tree.specs.declared.layout.Step.TheVariants.{Made}
use Rattle.pk_base.specs.declared.value.Value.TheVariants.{Uint}
use Rattle.pk_tree.specs.Layouts.{step_reach, reach, layer_read}
use Rattle.pk_tree.specs.Trees.{TreeShown}
use Rattle.pk_tree.proofs.KeptLemmas.{Unasked, none_asked}
use Rattle.pk_tree.proofs.UnaskedLemmas.{front_alone}
use Rattle.capture_read.specs.declared.frame.Frame.{Frame}
use Rattle.app_layers.specs.declared.times.Times.{Times}
use Rattle.app_layers.specs.FrameLayer.{asks_measure, frame_span, frame_layout, is_cut, kept_frame, time_steps}

-- the layer's steps but the number, by the frame's time
measures_at : Times → Frame → Option ℤ → List Step
measures_at before frame time = time_steps before time ++ Made FRAME_LEN (Uint frame.original) ∷ Made FRAME_CAP_LEN (Uint (length frame.bytes)) ∷ []

number_at : Frame → Step
number_at frame = Made FRAME_NUMBER (Uint frame.number)

none_of : (a b c d e : Bool) → (a || b || c || d || e) ≡ false → (a ≡ false) × (b ≡ false) × (c ≡ false) × (d ≡ false) × (e ≡ false)
none_of true b c d e none = absurd (true≢false none)
none_of false true c d e none = absurd (true≢false none)
none_of false false true d e none = absurd (true≢false none)
none_of false false false true e none = absurd (true≢false none)
none_of false false false false true none = absurd (true≢false none)
none_of false false false false false none = (refl, refl, refl, refl, refl)

unasked_at : (wanted : List ℕ) (before : Times) (frame : Frame) (time : Option ℤ) → asks_measure wanted ≡ false → Each (Unasked wanted) (measures_at before frame time)
unfolding measures_at
unasked_at wanted before frame None unasked =
    let none = none_of (is_in wanted FRAME_TIME_EPOCH) (is_in wanted FRAME_TIME_RELATIVE) (is_in wanted FRAME_TIME_DELTA) (is_in wanted FRAME_LEN) (is_in wanted FRAME_CAP_LEN) unasked in
    (none.3, (none.4, tt))
unasked_at wanted before frame (Some time) unasked =
    let none = none_of (is_in wanted FRAME_TIME_EPOCH) (is_in wanted FRAME_TIME_RELATIVE) (is_in wanted FRAME_TIME_DELTA) (is_in wanted FRAME_LEN) (is_in wanted FRAME_CAP_LEN) unasked in
    (none.0, (none.1, (none.2, (none.3, (none.4, tt)))))

read_at : (before : Times) (frame : Frame) (time : Option ℤ) (end : ℕ) → reach end (measures_at before frame time) ≡ All
unfolding measures_at reach step_reach
read_at before frame None end = refl
read_at before frame (Some time) end = refl

all_read_at : (before : Times) (frame : Frame) (time : Option ℤ) (end : ℕ) → reach end (number_at frame ∷ measures_at before frame time) ≡ All
unfolding number_at measures_at reach step_reach
all_read_at before frame None end = refl
all_read_at before frame (Some time) end = refl

-- the layer with its number alone is that layer, where nothing else of it is asked
pub number_alone : (wanted : List ℕ) (before : Times) (frame : Frame) → asks_measure wanted ≡ false
    → layer_read (record { layers = []; buffers = frame.bytes ∷ []; wanted = wanted }) FRAME (frame_span frame) (Made FRAME_NUMBER (Uint frame.number) ∷ []) Plain (is_cut frame)
    ≡ kept_frame wanted before frame
unfolding kept_frame frame_layout measures_at
number_alone wanted before frame unasked =
    let t : TreeShown = record { layers = []; buffers = frame.bytes ∷ []; wanted = wanted } in
    sym (front_alone t FRAME (frame_span frame) (Made FRAME_NUMBER (Uint frame.number) ∷ []) (measures_at before frame frame.time) Plain (is_cut frame)
    (read_at before frame frame.time (length frame.bytes))
    (none_asked wanted t.buffers (frame_span frame) (measures_at before frame frame.time) (unasked_at wanted before frame frame.time unasked)))

-- and without steps, where its number isn't asked either
pub frame_passed : (wanted : List ℕ) (before : Times) (frame : Frame) → asks_measure wanted ≡ false → is_in wanted FRAME_NUMBER ≡ false
    → layer_read (record { layers = []; buffers = frame.bytes ∷ []; wanted = wanted }) FRAME (frame_span frame) [] Plain (is_cut frame) ≡ kept_frame wanted before frame
unfolding kept_frame frame_layout measures_at number_at
frame_passed wanted before frame unasked none =
    let t : TreeShown = record { layers = []; buffers = frame.bytes ∷ []; wanted = wanted } in
    let steps = number_at frame ∷ measures_at before frame frame.time in
    sym (front_alone t FRAME (frame_span frame) [] steps Plain (is_cut frame) (all_read_at before frame frame.time (length frame.bytes))
    (none_asked wanted t.buffers (frame_span frame) steps (none, unasked_at wanted before frame frame.time unasked)))
