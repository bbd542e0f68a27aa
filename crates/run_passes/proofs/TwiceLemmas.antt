-- Going over kept frames: how far it came, and what was written then.
use Rattle.std.proofs.Common.{◌≡◌, ◌<◌, ◌≤◌, ℕ, ◌+◌, ◌-◌, ◌^◌, Bool, true, false, if◌then◌else◌, List, [], ◌∷◌, ◌++◌, length, map, Option, refl, sym, ◌∙◌, ap, subst, append-nil, reverse, take, drop, get_or, arith}
use Rattle.std.specs.Io.KnownBytes.{Appends}
use Rattle.std.proofs.KnownBytes.{Appends-nil, Appends-trans}
use Rattle.std.proofs.lemmas.List.{reverse-reverse, take_all}
use Rattle.pk_base.specs.Limits.{file_limit}
use Rattle.pk_outside.specs.Outside.{AppendsPart}
use Rattle.pk_outside.proofs.Parts.{part_after, part_more}
use Rattle.pk_tree.specs.Trees.{TreeShown, IsKept}
use Rattle.pk_fields.specs.declared.rules.PortRule.{PortRule}
use Rattle.capture_read.specs.declared.ending.Ending.{Ending}
use Rattle.capture_read.specs.declared.frame.Frame.{Frame}
use Rattle.capture_write.specs.Kept.{Kept}
use Rattle.capture_write.specs.declared.format.Format.{Format}
use Rattle.std.specs.List.{AllByRecursion as Each}
use Rattle.dissect.specs.Followed.{asks_streams}
use Rattle.dissect.specs.Heads.{IsHeaderLayer}
use Rattle.dissect.specs.Stands.{DissectorShown, StandsWithin}
use Rattle.dissect.specs.Trees.{tree_at}
use Rattle.second_pass.specs.Laws.{kept_noted}
use Rattle.second_pass.proofs.OtherLemmas.{others_pass}
use Rattle.second_pass.specs.Named.{Noted, noted_as}
use Rattle.second_pass.specs.Stands.{Stands}
use Rattle.second_pass.specs.declared.links.Links.{Links}
use Rattle.run_frames.specs.declared.later.Later.{Later}
use Rattle.run_frames.specs.declared.later.Later.TheVariants.{Known}
use Rattle.run_frames.specs.declared.notes.Notes.{Notes}
use Rattle.run_frames.specs.declared.plan.Plan.{Plan}
use Rattle.run_frames.specs.declared.run_ending.RunEnding.{RunEnding}
use Rattle.run_frames.specs.declared.run_ending.RunEnding.TheVariants.{Read, Unfit}
use Rattle.run_frames.specs.Accessors.{rules_of, two_of, written_of}
use Rattle.run_frames.specs.Ended.{CanClose}
use Rattle.run_frames.specs.Fitting.{FramesRead, before, fitting, is_unfit, over}
use Rattle.run_frames.specs.Job.{Job, Passes, noted_of, passes_by}
use Rattle.run_frames.specs.Later.{ServesKept}
use Rattle.run_frames.specs.Pieces.{pieces, pieces_of, piece}
use Rattle.run_passes.specs.Reading.{fitting_of}
use Rattle.run_frames.specs.Notes.{AreFewNotes}
use Rattle.run_frames.specs.Steps.{IsAfterFrame, KeepsUp, fit_piece}
use Rattle.run_passes.specs.Noting.{HasNotedOne}
use Rattle.run_passes.specs.Takeable.{AreTakeable}
use Rattle.run_passes.proofs.KeepLemmas.{frames_past}
use Rattle.run_frames.proofs.PacketLemmas.{reverse_more}
use Rattle.run_frames.proofs.NoteLemmas.{notes_few}
use Rattle.run_frames.specs.Wanted.{IsEnough}
use Rattle.run_frames.proofs.WantedLemmas.{header_others, links_streams}
use Rattle.run_passes.proofs.WayLemmas.{AreFit, can_close, can_end, ending_read, fit_pieces, fitting_past, pieces_read, reverse_past, with_read}

-- frames of which the first ones were gone over, the newest first, and the rest is left
pub all_past : (past frames : List Frame) → reverse past ++ [] ≡ frames → past ≡ reverse frames
all_past past frames joined = sym (reverse-reverse past) ∙ ap (λ (all : List Frame). reverse all) (sym (append-nil (reverse past)) ∙ joined)

pub joined_more : (frame : Frame) (past more frames : List Frame) → reverse past ++ (frame ∷ more) ≡ frames → reverse (frame ∷ past) ++ more ≡ frames
joined_more frame past more frames joined = reverse_more frame past more ∙ joined

-- the first of the frames that are left
pub first_left : (left : List Frame) (frame : Frame) → frame ≡ get_or left 0 frame → 1 ≤ length left → left ≡ frame ∷ take (length left - 1) (drop 1 left)
first_left [] frame is some = absurd (omega (arith, some))
first_left (first ∷ left) frame is some =
    let all : take (length (first ∷ left) - 1) left ≡ left = take_all (length (first ∷ left) - 1) left (omega arith) in
    ap (λ (f : Frame). f ∷ left) (sym is) ∙ ap (λ (rest : List Frame). frame ∷ rest) (sym all)

pub left_first : (past left frames : List Frame) (frame : Frame) → frame ≡ get_or left 0 frame → 1 ≤ length left → reverse past ++ left ≡ frames
    → reverse past ++ (frame ∷ take (length left - 1) (drop 1 left)) ≡ frames
left_first past left frames frame is some joined = ap (λ (rest : List Frame). reverse past ++ rest) (sym (first_left left frame is some)) ∙ joined

pub left_more : (past left frames : List Frame) (frame : Frame) → frame ≡ get_or left 0 frame → 1 ≤ length left → reverse past ++ left ≡ frames
    → reverse (frame ∷ past) ++ take (length left - 1) (drop 1 left) ≡ frames
left_more past left frames frame is some joined =
    joined_more frame past (take (length left - 1) (drop 1 left)) frames (left_first past left frames frame is some joined)

pub first_takeable : (taken captured : ℕ) (left : List Frame) (frame : Frame) → frame ≡ get_or left 0 frame → 1 ≤ length left → AreTakeable taken captured left
    → AreTakeable taken captured (frame ∷ take (length left - 1) (drop 1 left))
first_takeable taken captured left frame is some are = subst (AreTakeable taken captured) (first_left left frame is some) are

-- the trees of a first reading
pub noted_more : (rules : List PortRule) (past : List Frame) (frame : Frame) (tree : TreeShown) (wanted : List ℕ) (links : Links)
    → IsKept wanted (tree_at rules past frame) tree → Stands (noted_as frame.number tree ∷ map (kept_noted wanted) (noted_of rules past)) links
    → Stands (map (kept_noted wanted) (noted_of rules (frame ∷ past))) links
noted_more rules past frame tree wanted links kept stands =
    subst (λ (t : TreeShown). Stands (noted_as frame.number t ∷ map (kept_noted wanted) (noted_of rules past)) links) kept.same stands

-- a frame whose tree was noted
pub noted_by_tree : (frame : Frame) (old took new : DissectorShown) (tree : TreeShown) (before after : Links) → new ≡ took
    → ((past : List Frame) → StandsWithin past old → IsKept old.wanted (tree_at old.decode.rules past frame) tree)
    → ((past : List Frame) → StandsWithin past old → StandsWithin (frame ∷ past) took)
    → ((past : List Noted) → Stands past before → Stands (noted_as frame.number tree ∷ past) after)
    → took.taken ≡ old.taken + 1 → took.captured ≡ old.captured + length frame.bytes → took.decode ≡ old.decode → took.wanted ≡ old.wanted → took.sparing ≡ old.sparing
    → HasNotedOne frame old new before after
noted_by_tree frame old took new tree before after still kept stands noted taken captured rules wanted sparing =
    subst (λ (d : DissectorShown). HasNotedOne frame old d before after) (sym still)
    (record {
      stands = stands;
      noted = λ past stood notes. noted_more old.decode.rules past frame tree old.wanted after (kept past stood) (noted (map (kept_noted old.wanted) (noted_of old.decode.rules past)) notes);
      taken = taken;
      captured = captured;
      rules = rules;
      wanted = wanted;
      sparing = sparing;
    })

-- and one that its headers tell
pub noted_by_heads : (frame : Frame) (old new : DissectorShown) (tree : TreeShown) (links : Links)
    → ((past : List Frame) → StandsWithin past old → IsKept old.wanted (tree_at old.decode.rules past frame) tree)
    → ((past : List Frame) → StandsWithin past old → StandsWithin (frame ∷ past) new) → Each IsHeaderLayer tree.layers
    → new.taken ≡ old.taken + 1 → new.captured ≡ old.captured + length frame.bytes → new.decode ≡ old.decode → new.wanted ≡ old.wanted → new.sparing ≡ old.sparing
    → HasNotedOne frame old new links links
noted_by_heads frame old new tree links kept stands alone taken captured rules wanted sparing =
    noted_by_tree frame old new new tree links links refl kept stands
    (λ past notes. others_pass past (noted_as frame.number tree) links (header_others tree.layers alone) notes)
    taken captured rules wanted sparing

-- where the frames are read twice, streams are asked
pub twice_streams : (wanted : List ℕ) (plan : Plan) → two_of plan ≡ true → IsEnough wanted plan → asks_streams wanted ≡ true
twice_streams wanted plan two enough = links_streams wanted (enough.twice two)

-- the links stand for all of them
pub serves_twice : (plan : Plan) (wanted : List ℕ) (frames : List Frame) (links : Links) → two_of plan ≡ true
    → Stands (map (kept_noted wanted) (noted_of (rules_of plan) (reverse frames))) links
    → ServesKept wanted (two_of plan) (passes_by (two_of plan) (rules_of plan) frames) (Known links)
serves_twice plan wanted frames links two stands =
    subst (λ (t : Bool). ServesKept wanted t (passes_by t (rules_of plan) frames) (Known links)) (sym two) stands

-- for a dissector that asks for the same fields
pub serves_still : (old now : List ℕ) (plan : Plan) (passes : Passes) (later : Later) → now ≡ old → ServesKept old (two_of plan) passes later
    → ServesKept now (two_of plan) passes later
serves_still old now plan passes later same serves = subst (λ (fields : List ℕ). ServesKept fields (two_of plan) passes later) (sym same) serves

-- what is read of kept frames
pub kept_way : (job : Job) (frames past left : List Frame) (ending : Ending) → reverse past ++ left ≡ frames → AreFit job past
    → fitting job [] frames ending ≡ with_read past (fitting job past left ending)
kept_way job frames past left ending joined fit =
    ap (λ (all : List Frame). fitting job [] all ending) (sym joined)
    ∙ ap (fitting_of job) (sym (frames_past past (record { frames = left; ending = ending })))
    ∙ fitting_past job past (record { frames = left; ending = ending }) fit

pub kept_whole : (job : Job) (past : List Frame) (ending : RunEnding) (read : FramesRead) (old now : Option (List ℕ)) → read ≡ with_read past (over job ending)
    → Appends old now (pieces_of job past) → Appends old now (pieces job [] read.frames) × (ending ≡ read.ending)
kept_whole job past ending read old now is wrote = (
  subst (λ (bytes : List ℕ). Appends old now bytes)
      (sym (ap (λ (all : FramesRead). pieces job [] all.frames) is ∙ pieces_read job past (over job ending) ∙ append-nil (pieces_of job past))) wrote,
  sym (ap (λ (all : FramesRead). all.ending) is ∙ ending_read past (over job ending)),
)

pub kept_closes : (written : Option Format) (job : Job) (past : List Frame) (ending : RunEnding) (read : FramesRead) (d : DissectorShown) (t : Notes) (k : Kept)
    → read ≡ with_read past (over job ending) → CanClose written job past d t k → CanClose written job (reverse read.frames) d t k
kept_closes written job past ending read d t k is closes =
    subst (λ (frames : List Frame). CanClose written job frames d t k)
    (sym (ap (λ (all : FramesRead). reverse all.frames) is ∙ reverse_past past (over job ending))) closes

-- a frame that doesn't fit
kept_unfit : (job : Job) (past : List Frame) (frame : Frame) (more : List Frame) (ending : Ending) (read : FramesRead)
    → read ≡ with_read past (fitting job past (frame ∷ more) ending) → is_unfit job past frame ≡ true → read ≡ with_read past (over job (Unfit frame.number))
kept_unfit job past frame more ending read is unfit =
    is ∙ ap (λ (b : Bool). with_read past (if b then over job (Unfit frame.number) else before frame (fitting job (frame ∷ past) more ending))) unfit

-- how far the frames were gone over, for each passes that are served
pub record IsThrough (job : Job) (past : List Frame) (t : Notes) (k : Kept) (old now : Option (List ℕ)) : Type 0 where
  pub keeps : KeepsUp (written_of job.plan) job past t k
  pub fit : AreFit job past
  pub appended : Appends old now (pieces_of job past)

pub through_begun : (job : Job) (t : Notes) (k : Kept) (old : Option (List ℕ)) → KeepsUp (written_of job.plan) job [] t k → IsThrough job [] t k old old
through_begun job t k old keeps = record { keeps = keeps; fit = tt; appended = Appends-nil old }

pub through_further : (job : Job) (past : List Frame) (frame : Frame) (t counts : Notes) (k kept : Kept) (old now later : Option (List ℕ))
    → IsThrough job past t k old now → IsAfterFrame true job past frame counts kept now later → IsThrough job (frame ∷ past) counts kept old later
through_further job past frame t counts k kept old now later way wrote = record {
  keeps = wrote.keeps;
  fit = (wrote.fit, way.fit);
  appended = Appends-trans old now later (pieces_of job past) (piece job past frame) way.appended wrote.wrote;
}

pub through_ended : (job : Job) (frames past : List Frame) (ending : Ending) (t : Notes) (k : Kept) (old now : Option (List ℕ)) → reverse past ++ [] ≡ frames
    → IsThrough job past t k old now
    → Appends old now (pieces job [] (fitting job [] frames ending).frames) × (Read ending ≡ (fitting job [] frames ending).ending)
through_ended job frames past ending t k old now joined way =
    kept_whole job past (Read ending) (fitting job [] frames ending) old now (kept_way job frames past [] ending joined way.fit) way.appended

pub through_closes : (job : Job) (frames past : List Frame) (ending : Ending) (d : DissectorShown) (t : Notes) (k : Kept) (old now : Option (List ℕ)) → reverse past ++ [] ≡ frames
    → StandsWithin past d → IsThrough job past t k old now
    → CanClose (written_of job.plan) job (reverse (fitting job [] frames ending).frames) d t k
through_closes job frames past ending d t k old now joined stands way =
    kept_closes (written_of job.plan) job past (Read ending) (fitting job [] frames ending) d t k (kept_way job frames past [] ending joined way.fit)
    (can_close (written_of job.plan) job past d t k stands way.keeps)

pub through_unfit : (job : Job) (frames past : List Frame) (frame : Frame) (more : List Frame) (ending : Ending) (t counts : Notes) (k kept : Kept) (old now later : Option (List ℕ))
    → reverse past ++ (frame ∷ more) ≡ frames → IsThrough job past t k old now → IsAfterFrame false job past frame counts kept now later
    → Appends old later (pieces job [] (fitting job [] frames ending).frames) × (Unfit frame.number ≡ (fitting job [] frames ending).ending)
through_unfit job frames past frame more ending t counts k kept old now later joined way wrote =
    kept_whole job past (Unfit frame.number) (fitting job [] frames ending) old later
    (kept_unfit job past frame more ending (fitting job [] frames ending) (kept_way job frames past (frame ∷ more) ending joined way.fit) wrote.0)
    (subst (λ (written : Option (List ℕ)). Appends old written (pieces_of job past)) (sym wrote.2) way.appended)

pub through_unfit_closes : (job : Job) (frames past : List Frame) (frame : Frame) (more : List Frame) (ending : Ending) (d : DissectorShown) (t counts : Notes) (k kept : Kept) (old now later : Option (List ℕ))
    → reverse past ++ (frame ∷ more) ≡ frames → IsThrough job past t k old now → IsAfterFrame false job past frame counts kept now later
    → CanClose (written_of job.plan) job (reverse (fitting job [] frames ending).frames) d counts kept
through_unfit_closes job frames past frame more ending d t counts k kept old now later joined way wrote =
    kept_closes (written_of job.plan) job past (Unfit frame.number) (fitting job [] frames ending) d counts kept
    (kept_unfit job past frame more ending (fitting job [] frames ending) (kept_way job frames past (frame ∷ more) ending joined way.fit) wrote.0)
    (can_end (written_of job.plan) job past frame d counts kept wrote.0 wrote.1)

-- a write failed, or there was no memory for a frame's tree or line
pub through_broken : (job : Job) (frames past : List Frame) (frame : Frame) (more : List Frame) (ending : Ending) (t : Notes) (k : Kept) (old now later : Option (List ℕ))
    → reverse past ++ (frame ∷ more) ≡ frames → IsThrough job past t k old now → AppendsPart now later (fit_piece job past frame)
    → AppendsPart old later (pieces job [] (fitting job [] frames ending).frames)
through_broken job frames past frame more ending t k old now later joined way part =
    let others : List ℕ = if is_unfit job past frame then [] else pieces job (frame ∷ past) (fitting job (frame ∷ past) more ending).frames in
    let whole : pieces job [] (fitting job [] frames ending).frames ≡ pieces_of job past ++ (fit_piece job past frame ++ others) =
    ap (λ (all : FramesRead). pieces job [] all.frames) (kept_way job frames past (frame ∷ more) ending joined way.fit)
    ∙ pieces_read job past (fitting job past (frame ∷ more) ending)
    ∙ ap (λ (bytes : List ℕ). pieces_of job past ++ bytes) (fit_pieces job past frame more ending) in
    subst (AppendsPart old later) (sym whole)
    (part_after old now later (pieces_of job past) (fit_piece job past frame ++ others) way.appended (part_more now later (fit_piece job past frame) others part))

-- a dissector that has taken nothing
pub takeable_begun : (taken captured : ℕ) (frames : List Frame) → taken ≡ 0 → captured ≡ 0 → AreTakeable 0 0 frames → AreTakeable taken captured frames
takeable_begun taken captured frames none nothing are =
    subst (λ (t : ℕ). AreTakeable t captured frames) (sym none) (subst (λ (c : ℕ). AreTakeable 0 c frames) (sym nothing) are)

-- the frames behind the first, once a dissector has taken it
pub takeable_after : (taken captured after captured_after : ℕ) (frame : Frame) (more : List Frame) → AreTakeable taken captured (frame ∷ more) → after ≡ taken + 1
    → captured_after ≡ captured + length frame.bytes → AreTakeable after captured_after more
takeable_after taken captured after captured_after frame more are one bytes =
    subst (λ (t : ℕ). AreTakeable t captured_after more) (sym one) (subst (λ (c : ℕ). AreTakeable (taken + 1) c more) (sym bytes) are.1)

-- no frame is left
pub none_left : (left : List Frame) → length left < 1 → left ≡ []
none_left [] none = refl
none_left (frame ∷ left) none = absurd (omega (arith, none))

pub all_joined : (past left frames : List Frame) → length left < 1 → reverse past ++ left ≡ frames → reverse past ++ [] ≡ frames
all_joined past left frames none joined = ap (λ (rest : List Frame). reverse past ++ rest) (sym (none_left left none)) ∙ joined

-- how many frames were noted
below_limit : (n : ℕ) → n ≤ file_limit → n ≤ 2 ^ 28
unfolding file_limit
below_limit n few = few

pub few_kept : (taken : ℕ) (t : Notes) → taken ≤ file_limit → AreFewNotes taken t → AreFewNotes (2 ^ 28) t
few_kept taken t limit few = notes_few taken (2 ^ 28) t (below_limit taken limit) few
