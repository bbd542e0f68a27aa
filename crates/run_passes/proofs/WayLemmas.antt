-- How far a run is on its way through a file, and what it wrote then.
use Rattle.std.proofs.Common.{◌≡◌, ◌≢◌, ◌<◌, ℕ, zero, suc, ◌+◌, ◌-◌, ◌≤◌, Bool, true, false, if◌then◌else◌, List, [], ◌∷◌, ◌++◌, length, Option, None, Some, refl, sym, ◌∙◌, ap, subst, append_assoc, append-nil, reverse, inr, arith}
use Rattle.std.specs.Prelude.{IfSome}
use Rattle.std.specs.Option.{option_map}
use Rattle.std.specs.Io.KnownBytes.{Appends}
use Rattle.std.proofs.KnownBytes.{Appends-nil, Appends-trans}
use Rattle.std.proofs.Math.Dec.{leb-zero, leb-suc-zero}
use Rattle.std.proofs.lemmas.List.{reverse-append}
use Rattle.pk_base.specs.Limits.{file_limit}
use Rattle.pk_outside.specs.Outside.{AppendsPart, counted}
use Rattle.pk_outside.proofs.Parts.{part_after, part_more}
use Rattle.capture_read.specs.Answers.{Answers, Fails, HoldsExactly, IsFrontOf, IsNear, TakesFewOf}
use Rattle.capture_read.specs.Capture.{Reading, capture_of, ended, with_frame}
use Rattle.capture_read.specs.Reader.{ReaderShown, StandsFor, with_past}
use Rattle.capture_read.specs.Taken.{TookAtMost}
use Rattle.capture_read.specs.declared.ending.Ending.{Ending}
use Rattle.capture_read.specs.declared.ending.Ending.TheVariants.{Whole}
use Rattle.capture_read.specs.declared.frame.Frame.{Frame}
use Rattle.capture_read.specs.declared.next_frame.NextFrame.TheVariants as next
use Rattle.dissect.specs.Stands.{DissectorShown, StandsWithin}
use Rattle.run_frames.specs.declared.plan.Plan.{Plan}
use Rattle.run_frames.specs.Later.{Serves}
use Rattle.run_frames.specs.declared.later.Later.TheVariants.{Unread}
use Rattle.run_frames.specs.Pieces.{piece, pieces, pieces_of}
use Rattle.run_passes.specs.Reading.{fitting_of, front_if, limited, frames_read}
use Rattle.run_passes.specs.Taken.{Took}
use Rattle.capture_write.specs.Kept.{Kept}
use Rattle.capture_write.specs.declared.format.Format.{Format}
use Rattle.run_frames.specs.Accessors.{rules_of, two_of, written_of}
use Rattle.run_frames.specs.declared.run_ending.RunEnding.{RunEnding}
use Rattle.run_frames.specs.declared.run_ending.RunEnding.TheVariants.{Read, Unfit}
use Rattle.run_frames.specs.declared.notes.Notes.{Notes}
use Rattle.run_frames.specs.Ended.{CanClose}
use Rattle.run_passes.specs.Ended.{HasRead}
use Rattle.run_frames.specs.Fitting.{FramesRead, before, fitting, is_unfit, is_unfit_by, job_of, over}
use Rattle.run_frames.specs.Job.{IfOnce, Job, One, Passes, job_in, once, passes_by}
use Rattle.run_frames.specs.Steps.{IsAfterFrame, KeepsUp, fit_piece}
use Rattle.run_passes.specs.SoFar.{IsBrokenBehind, IsFewer, IsFullNearOf, IsNearAfter, IsNextNearOf, WroteTakenBehind, pieces_so_far}
use Rattle.run_passes.specs.Passed.{AreEndNear, AreFullNear}
use Rattle.run_passes.specs.WrotePieces.{WrotePieces, WroteSomePieces}
use Rattle.run_passes.proofs.FrontLemmas.{limited_frame}

-- what is written of frames answered, and of those that are still to come
pieces_past : (job : Job) (past : List Frame) (reading : Reading)
    → pieces job [] (with_past past reading).frames ≡ pieces_of job past ++ pieces job past reading.frames
pieces_past job [] reading = refl
pieces_past job (frame ∷ past) reading =
    pieces_past job past (with_frame frame reading)
    ∙ sym (append_assoc (pieces_of job past) (piece job past frame) (pieces job (frame ∷ past) reading.frames))

-- frames that were answered, the newest first, and then those of a reading
abbrev pub with_read : List Frame → FramesRead → FramesRead
with_read [] read = read
with_read (frame ∷ past) read = with_read past (before frame read)

pub pieces_read : (job : Job) (past : List Frame) (read : FramesRead)
    → pieces job [] (with_read past read).frames ≡ pieces_of job past ++ pieces job past read.frames
pieces_read job [] read = refl
pieces_read job (frame ∷ past) read =
    pieces_read job past (before frame read)
    ∙ sym (append_assoc (pieces_of job past) (piece job past frame) (pieces job (frame ∷ past) read.frames))

pub ending_read : (past : List Frame) (read : FramesRead) → (with_read past read).ending ≡ read.ending
ending_read [] read = refl
ending_read (frame ∷ past) read = ending_read past (before frame read)

pub passes_read : (past : List Frame) (read : FramesRead) → (with_read past read).passes ≡ read.passes
passes_read [] read = refl
passes_read (frame ∷ past) read = passes_read past (before frame read)

pub count_read : (past : List Frame) (read : FramesRead) → length (with_read past read).frames ≡ length past + length read.frames
count_read [] read = omega arith
count_read (frame ∷ past) read = omega (arith, count_read past (before frame read))

-- all frames of the past could be written
abbrev pub AreFit : Job → List Frame → Type 0
AreFit job [] = Unit {0}
AreFit job (frame ∷ past) = (is_unfit job past frame ≡ false) × AreFit job past

pub fitting_past : (job : Job) (past : List Frame) (reading : Reading) → AreFit job past
    → fitting_of job (with_past past reading) ≡ with_read past (fitting job past reading.frames reading.ending)
fitting_past job [] reading fit = refl
fitting_past job (frame ∷ past) reading fit =
    fitting_past job past (with_frame frame reading) fit.1
    ∙ ap (λ (unfit : Bool). with_read past (if unfit then over job (Unfit frame.number) else before frame (fitting job (frame ∷ past) reading.frames reading.ending))) fit.0

pub count_past : (past : List Frame) (reading : Reading) → length (with_past past reading).frames ≡ length past + length reading.frames
count_past [] reading = omega arith
count_past (frame ∷ past) reading = omega (arith, count_past past (with_frame frame reading))

-- how many frames were asked for, where so many are left to read and so many were read
abbrev pub asked_before : Option ℕ → ℕ → Option ℕ
asked_before None count = None
asked_before (Some most) count = Some (most + count)

limited_suc : (n : ℕ) (frame : Frame) (reading : Reading) → limited (Some (suc n)) (with_frame frame reading) ≡ with_frame frame (limited (Some n) reading)
limited_suc n frame reading =
    let less : suc n - 1 ≡ n = omega arith in
    limited_frame (Some (suc n)) frame reading (not_zero n) ∙ ap (λ (m : ℕ). with_frame frame (limited (Some m) reading)) less
  where
    not_zero : (m : ℕ) → Some (suc m) ≢ Some 0
    not_zero m same = let bad : suc m ≡ 0 = cc same in absurd (omega (arith, bad))

limited_past : (n : ℕ) (past : List Frame) (reading : Reading) → limited (Some (n + length past)) (with_past past reading) ≡ with_past past (limited (Some n) reading)
limited_past n [] reading = let none : n + 0 ≡ n = omega arith in ap (λ (m : ℕ). limited (Some m) reading) none
limited_past n (frame ∷ past) reading =
    let sum : n + suc (length past) ≡ suc n + length past = omega arith in
    ap (λ (m : ℕ). limited (Some m) (with_past past (with_frame frame reading))) sum
    ∙ limited_past (suc n) past (with_frame frame reading)
    ∙ ap (with_past past) (limited_suc n frame reading)

pub limited_before : (most : Option ℕ) (past : List Frame) (reading : Reading) → limited (asked_before most (length past)) (with_past past reading) ≡ with_past past (limited most reading)
limited_before None past reading = refl
limited_before (Some n) past reading = limited_past n past reading

-- the frames of a reading that are read behind those answered
abbrev pub rest_of : Job → List Frame → Reading → FramesRead
rest_of job past reading = fitting job past reading.frames reading.ending

-- where the frames are read once
once_read : (plan : Plan) (file : List ℕ) → two_of plan ≡ false → frames_read plan file ≡ fitting_of (once plan) (limited plan.most (capture_of file))
unfolding frames_read
once_read plan file alone =
    ap (λ (two : Bool). fitting_of (job_in plan (passes_by two (rules_of plan) (limited plan.most (capture_of file)).frames)) (limited plan.most (capture_of file))) alone

pub fitting_passes : (job : Job) (past frames : List Frame) (ending : Ending) → (fitting job past frames ending).passes ≡ job.passes
fitting_passes job past [] ending = refl
fitting_passes job past (frame ∷ frames) ending = by (fitting_passes job (frame ∷ past) frames ending) (is_unfit job past frame)
  where
    by : (fitting job (frame ∷ past) frames ending).passes ≡ job.passes → (unfit : Bool)
        → (if unfit then over job (Unfit frame.number) else before frame (fitting job (frame ∷ past) frames ending)).passes ≡ job.passes
    by rest true = refl
    by rest false = rest

once_job : (plan : Plan) (file : List ℕ) → two_of plan ≡ false → job_of plan (frames_read plan file) ≡ once plan
once_job plan file alone =
    ap (λ (read : FramesRead). job_in plan read.passes) (once_read plan file alone)
    ∙ ap (job_in plan) (fitting_passes (once plan) [] (limited plan.most (capture_of file)).frames (limited plan.most (capture_of file)).ending)

-- nothing is known of later frames then
pub serves_once : (plan : Plan) → two_of plan ≡ false → Serves (two_of plan) One Unread
serves_once plan alone = subst (λ (two : Bool). Serves two One Unread) (sym alone) tt

-- what is read of a file
read_way : (plan : Plan) (most : Option ℕ) (file : List ℕ) (past : List Frame) (rest : Reading) → two_of plan ≡ false → plan.most ≡ asked_before most (length past)
    → capture_of file ≡ with_past past rest → AreFit (once plan) past → frames_read plan file ≡ with_read past (rest_of (once plan) past (limited most rest))
read_way plan most file past rest alone asked read fit =
    once_read plan file alone
    ∙ ap (λ (m : Option ℕ). fitting_of (once plan) (limited m (capture_of file))) asked
    ∙ ap (λ (reading : Reading). fitting_of (once plan) (limited (asked_before most (length past)) reading)) read
    ∙ ap (fitting_of (once plan)) (limited_before most past rest)
    ∙ fitting_past (once plan) past (limited most rest) fit

all_read : (plan : Plan) (most : Option ℕ) (file : List ℕ) (past : List Frame) (rest : Reading) → two_of plan ≡ false → plan.most ≡ asked_before most (length past)
    → capture_of file ≡ with_past past rest → AreFit (once plan) past
    → pieces (job_of plan (frames_read plan file)) [] (frames_read plan file).frames ≡ pieces_of (once plan) past ++ pieces (once plan) past (rest_of (once plan) past (limited most rest)).frames
all_read plan most file past rest alone asked read fit =
    ap (λ (job : Job). pieces job [] (frames_read plan file).frames) (once_job plan file alone)
    ∙ ap (λ (all : FramesRead). pieces (once plan) [] all.frames) (read_way plan most file past rest alone asked read fit)
    ∙ pieces_read (once plan) past (rest_of (once plan) past (limited most rest))

-- the bytes taken of a file end near the last frame answered
abbrev pub IsLastNear : List Frame → List ℕ → Option (List ℕ) → Type 0
IsLastNear [] file left = Unit {0}
IsLastNear (frame ∷ past) file left = IsNear file past left

-- the frames answered are the file's first ones, the reader and the dissector stand for them, and their lines were written
pub record IsOnTheWay (plan : Plan) (most : Option ℕ) (file : List ℕ) (r : ReaderShown) (left : Option (List ℕ)) (d : DissectorShown) (t : Notes) (k : Kept) (old now : Option (List ℕ)) : Type 0 where
  pub past : List Frame
  pub front : IsFrontOf past file
  pub asked : plan.most ≡ asked_before most (length past)
  pub stands : StandsFor r left file past
  pub dissects : StandsWithin past d
  pub keeps : KeepsUp (written_of plan) (once plan) past t k
  pub fit : AreFit (once plan) past
  pub appended : Appends old now (pieces_of (once plan) past)
  pub alone : two_of plan ≡ false
  pub last : IsLastNear past file left

-- the same of a file that the capture told when it was begun
abbrev pub AreOnTheWay : Plan → Option ℕ → Option (List ℕ) → ReaderShown → Option (List ℕ) → DissectorShown → Notes → Kept → Option (List ℕ) → Option (List ℕ) → Type 0
AreOnTheWay plan most told r left d t k old now = IfSome told (λ file. IsOnTheWay plan most file r left d t k old now)

pub asked_all : (most : Option ℕ) → most ≡ asked_before most 0
asked_all None = refl
asked_all (Some n) = let none : n ≡ n + 0 = omega arith in ap Some none

pub way_begun : (plan : Plan) (told : Option (List ℕ)) (r : ReaderShown) (d : DissectorShown) (t : Notes) (k : Kept) (old : Option (List ℕ)) → two_of plan ≡ false
    → ((left : List ℕ) → StandsFor r (Some left) left []) → StandsWithin [] d → KeepsUp (written_of plan) (once plan) [] t k → AreOnTheWay plan plan.most told r told d t k old old
way_begun plan None r d t k old alone stands dissects keeps = tt
way_begun plan (Some file) r d t k old alone stands dissects keeps = record {
  past = [];
  front = (capture_of file, refl);
  asked = asked_all plan.most;
  stands = stands file;
  dissects = dissects;
  keeps = keeps;
  fit = tt;
  appended = Appends-nil old;
  alone = alone;
  last = tt;
}

pub asked_more : (most : Option ℕ) (count : ℕ) → most ≢ Some 0 → asked_before most count ≡ asked_before (option_map (λ n. n - 1) most) (suc count)
asked_more None count some = refl
asked_more (Some zero) count some = absurd (some refl)
asked_more (Some (suc n)) count some = let same : suc n + count ≡ suc n - 1 + suc count = omega arith in ap Some same

-- a frame was read, taken and written
pub way_further : (plan : Plan) (most : Option ℕ) (told : Option (List ℕ)) (r after : ReaderShown) (left left_after : Option (List ℕ)) (d dissected : DissectorShown) (t counts : Notes) (k kept : Kept) (old now later : Option (List ℕ)) (frame : Frame)
    → most ≢ Some 0 → AreOnTheWay plan most told r left d t k old now → Answers (next.Frame frame) r after left left_after
    → ((past : List Frame) → StandsWithin past d → StandsWithin (frame ∷ past) dissected)
    → ((past : List Frame) → StandsWithin past d → KeepsUp (written_of plan) (once plan) past t k → IsAfterFrame true (once plan) past frame counts kept now later)
    → AreOnTheWay plan (option_map (λ n. n - 1) most) told after left_after dissected counts kept old later
way_further plan most None r after left left_after d dissected t counts k kept old now later frame some way answers taken wrote = tt
way_further plan most (Some file) r after left left_after d dissected t counts k kept old now later frame some way answers taken wrote =
    let answer = answers file way.past way.stands in
    let written = wrote way.past way.dissects way.keeps in
    record {
      past = frame ∷ way.past;
      front = answer.1;
      asked = way.asked ∙ asked_more most (length way.past) some;
      stands = answer.0;
      dissects = taken way.past way.dissects;
      keeps = written.keeps;
      fit = (written.fit, way.fit);
      appended = Appends-trans old now later (pieces_of (once plan) way.past) (piece (once plan) way.past frame) way.appended written.wrote;
      alone = way.alone;
      last = answer.2;
    }

-- a front of the output was written
pub way_stopped : (plan : Plan) (most : Option ℕ) (told : Option (List ℕ)) (r : ReaderShown) (left : Option (List ℕ)) (d : DissectorShown) (t : Notes) (k : Kept) (old now : Option (List ℕ))
    → AreOnTheWay plan most told r left d t k old now → IfSome told (λ file. WroteSomePieces plan (frames_read plan file) old now)
way_stopped plan most None r left d t k old now way = tt
way_stopped plan most (Some file) r left d t k old now way = (
  pieces_of (once plan) way.past,
  pieces (once plan) way.past (rest_of (once plan) way.past (limited most way.front.0)).frames,
  sym (all_read plan most file way.past way.front.0 way.alone way.asked way.front.1 way.fit),
  way.appended,
)

-- all frames were read, where nothing more is to be read
whole_way : (plan : Plan) (file : List ℕ) (past : List Frame) (ending : RunEnding) (old now : Option (List ℕ)) → frames_read plan file ≡ with_read past (over (once plan) ending)
    → Appends old now (pieces_of (once plan) past) → WrotePieces plan (frames_read plan file) old now × (ending ≡ (frames_read plan file).ending)
whole_way plan file past ending old now read wrote = (
  subst (λ (bytes : List ℕ). Appends old now bytes)
      (sym (ap (λ (all : FramesRead). pieces (job_of plan all) [] all.frames) read
      ∙ ap (λ (passes : Passes). pieces (job_in plan passes) [] (with_read past (over (once plan) ending)).frames) (passes_read past (over (once plan) ending))
      ∙ pieces_read (once plan) past (over (once plan) ending) ∙ append-nil (pieces_of (once plan) past))) wrote,
  sym (ap (λ (all : FramesRead). all.ending) read ∙ ending_read past (over (once plan) ending)),
)

-- how the reading of a file ends where no frame more is asked for, or it ends
read_over : (plan : Plan) (most : Option ℕ) (file : List ℕ) (past : List Frame) (rest : Reading) (ending : Ending) → two_of plan ≡ false → plan.most ≡ asked_before most (length past)
    → capture_of file ≡ with_past past rest → AreFit (once plan) past → limited most rest ≡ ended ending → frames_read plan file ≡ with_read past (over (once plan) (Read ending))
read_over plan most file past rest ending alone asked read fit is =
    read_way plan most file past rest alone asked read fit ∙ ap (λ (reading : Reading). with_read past (rest_of (once plan) past reading)) is

pub limited_zero : (reading : Reading) → limited (Some 0) reading ≡ ended Whole
limited_zero reading = ap (λ (b : Bool). front_if b 0 reading) (leb-zero (length reading.frames))

-- the frames that were read, the newest first
pub reverse_past : (past : List Frame) (read : FramesRead) → reverse (with_read past read).frames ≡ reverse read.frames ++ past
reverse_past [] read = sym (append-nil (reverse read.frames))
reverse_past (frame ∷ past) read =
    reverse_past past (before frame read)
    ∙ ap (λ (frames : List Frame). frames ++ past) (reverse-append (frame ∷ []) read.frames)
    ∙ append_assoc (reverse read.frames) (frame ∷ []) past

pub can_close : (written : Option Format) (job : Job) (past : List Frame) (d : DissectorShown) (t : Notes) (k : Kept) → StandsWithin past d
    → KeepsUp written job past t k → CanClose written job past d t k
can_close None job past d t k dissects keeps = (dissects, keeps)
can_close (Some format) job past d t k dissects keeps = keeps

-- a frame that can't be written was taken too
pub can_end : (written : Option Format) (job : Job) (past : List Frame) (frame : Frame) (d : DissectorShown) (t : Notes) (k : Kept)
    → is_unfit_by written job past frame ≡ true → KeepsUp written job past t k → CanClose written job past d t k
can_end None job past frame d t k is keeps = absurd (cc is)
can_end (Some format) job past frame d t k is keeps = keeps

read_past : (plan : Plan) (file : List ℕ) (past : List Frame) (ending : RunEnding) (d : DissectorShown) (t : Notes) (k : Kept)
    → frames_read plan file ≡ with_read past (over (once plan) ending) → CanClose (written_of plan) (once plan) past d t k → HasRead plan file d t k
read_past plan file past ending d t k read closes =
    let same : reverse (frames_read plan file).frames ≡ past =
    ap (λ (all : FramesRead). reverse all.frames) read ∙ reverse_past past (over (once plan) ending) in
    let passes : One ≡ (frames_read plan file).passes =
    sym (ap (λ (all : FramesRead). all.passes) read ∙ passes_read past (over (once plan) ending)) in
    subst (λ (p : Passes). CanClose (written_of plan) (job_in plan p) (reverse (frames_read plan file).frames) d t k) passes
    (subst (λ (frames : List Frame). CanClose (written_of plan) (once plan) frames d t k) (sym same) closes)

-- as many frames were read as are asked for
pub way_full : (plan : Plan) (most : Option ℕ) (told : Option (List ℕ)) (r : ReaderShown) (left : Option (List ℕ)) (d : DissectorShown) (t : Notes) (k : Kept) (old now : Option (List ℕ))
    → most ≡ Some 0 → AreOnTheWay plan most told r left d t k old now
    → IfSome told (λ file. WrotePieces plan (frames_read plan file) old now × (Read Whole ≡ (frames_read plan file).ending))
way_full plan most None r left d t k old now full way = tt
way_full plan most (Some file) r left d t k old now full way =
    whole_way plan file way.past (Read Whole) old now
    (read_over plan most file way.past way.front.0 Whole way.alone way.asked way.front.1 way.fit (ap (λ (m : Option ℕ). limited m way.front.0) full ∙ limited_zero way.front.0)) way.appended

pub read_full : (plan : Plan) (most : Option ℕ) (told : Option (List ℕ)) (r : ReaderShown) (left : Option (List ℕ)) (d : DissectorShown) (t : Notes) (k : Kept) (old now : Option (List ℕ))
    → most ≡ Some 0 → AreOnTheWay plan most told r left d t k old now → IfSome told (λ file. HasRead plan file d t k)
read_full plan most None r left d t k old now full way = tt
read_full plan most (Some file) r left d t k old now full way =
    read_past plan file way.past (Read Whole) d t k
    (read_over plan most file way.past way.front.0 Whole way.alone way.asked way.front.1 way.fit (ap (λ (m : Option ℕ). limited m way.front.0) full ∙ limited_zero way.front.0))
    (can_close (written_of plan) (once plan) way.past d t k way.dissects way.keeps)

pub near_after : (file : List ℕ) (past : List Frame) (left : Option (List ℕ)) (count : ℕ) → length past ≡ suc count → IsLastNear past file left → IsNearAfter file count left
near_after file [] left count is near = absurd (omega (arith, is))
near_after file (frame ∷ past) None count is near = tt
near_after file (frame ∷ past) (Some left) count is near = λ front late. omega (arith, is, near front late)

pub full_near : (plan : Plan) (most : Option ℕ) (told : Option (List ℕ)) (r : ReaderShown) (left : Option (List ℕ)) (d : DissectorShown) (t : Notes) (k : Kept) (old now : Option (List ℕ))
    → most ≡ Some 0 → AreOnTheWay plan most told r left d t k old now → IfSome told (λ file. IsFullNearOf plan file left)
full_near plan most None r left d t k old now full way = tt
full_near plan most (Some file) r left d t k old now full way = λ count asked some.
    let same : Some (0 + length way.past) ≡ Some (suc count) = ap (λ (m : Option ℕ). asked_before m (length way.past)) (sym full) ∙ sym way.asked ∙ asked in
    let sum : 0 + length way.past ≡ suc count = cc same in
    near_after file way.past left count (omega (arith, sum)) way.last

-- the file ended
pub limited_ended : (most : Option ℕ) (ending : Ending) → most ≢ Some 0 → limited most (ended ending) ≡ ended ending
limited_ended None ending some = refl
limited_ended (Some zero) ending some = absurd (some refl)
limited_ended (Some (suc n)) ending some = ap (λ (b : Bool). front_if b (suc n) (ended ending)) (leb-suc-zero n)

pub way_ended : (plan : Plan) (most : Option ℕ) (told : Option (List ℕ)) (r after : ReaderShown) (left left_after : Option (List ℕ)) (d : DissectorShown) (t : Notes) (k : Kept) (old now : Option (List ℕ)) (ending : Ending)
    → most ≢ Some 0 → AreOnTheWay plan most told r left d t k old now → Answers (next.End ending) r after left left_after
    → IfSome told (λ file. WrotePieces plan (frames_read plan file) old now × (Read ending ≡ (frames_read plan file).ending))
way_ended plan most None r after left left_after d t k old now ending some way answers = tt
way_ended plan most (Some file) r after left left_after d t k old now ending some way answers =
    whole_way plan file way.past (Read ending) old now
    (read_over plan most file way.past (ended ending) ending way.alone way.asked (answers file way.past way.stands).1 way.fit (limited_ended most ending some)) way.appended

pub read_ended : (plan : Plan) (most : Option ℕ) (told : Option (List ℕ)) (r after : ReaderShown) (left left_after : Option (List ℕ)) (d : DissectorShown) (t : Notes) (k : Kept) (old now : Option (List ℕ)) (ending : Ending)
    → most ≢ Some 0 → AreOnTheWay plan most told r left d t k old now → Answers (next.End ending) r after left left_after → IfSome told (λ file. HasRead plan file d t k)
read_ended plan most None r after left left_after d t k old now ending some way answers = tt
read_ended plan most (Some file) r after left left_after d t k old now ending some way answers =
    read_past plan file way.past (Read ending) d t k
    (read_over plan most file way.past (ended ending) ending way.alone way.asked (answers file way.past way.stands).1 way.fit (limited_ended most ending some))
    (can_close (written_of plan) (once plan) way.past d t k way.dissects way.keeps)

pub more_asked : (most : Option ℕ) (count asked : ℕ) → most ≢ Some 0 → Some asked ≡ asked_before most count → count < asked
more_asked None count asked some is = let bad : Some asked ≡ None = is in absurd (cc bad)
more_asked (Some zero) count asked some is = absurd (some refl)
more_asked (Some (suc n)) count asked some is = let sum : asked ≡ suc n + count = cc is in omega (arith, sum)

pub ended_near : (plan : Plan) (most : Option ℕ) (told : Option (List ℕ)) (r after : ReaderShown) (left left_after : Option (List ℕ)) (d : DissectorShown) (t : Notes) (k : Kept) (old now : Option (List ℕ)) (ending : Ending)
    → most ≢ Some 0 → AreOnTheWay plan most told r left d t k old now → Answers (next.End ending) r after left left_after
    → IfSome told (λ file. IsFullNearOf plan file left_after)
ended_near plan most None r after left left_after d t k old now ending some way answers = tt
ended_near plan most (Some file) r after left left_after d t k old now ending some way answers = λ count asked many.
    let all : length (capture_of file).frames ≡ length way.past + 0 =
    ap (λ (reading : Reading). length reading.frames) (answers file way.past way.stands).1 ∙ count_past way.past (ended ending) in
    let fewer : length way.past < suc count = more_asked most (length way.past) (suc count) some (sym asked ∙ way.asked) in
    absurd (omega (arith, all, fewer, many))

-- a read failed
pub is_fewer : (asked most : Option ℕ) (count : ℕ) → most ≢ Some 0 → asked ≡ asked_before most count → IsFewer asked count
is_fewer None most count some is = tt
is_fewer (Some asked) most count some is = more_asked most count asked some is

read_so_far : (plan : Plan) (most : Option ℕ) (file : List ℕ) (past : List Frame) (left old now : Option (List ℕ)) → most ≢ Some 0 → two_of plan ≡ false → plan.most ≡ asked_before most (length past)
    → Appends old now (pieces_of (once plan) past) → HoldsExactly file past left → WroteTakenBehind [] plan file left old now
read_so_far plan most file past None old now some alone asked wrote exactly = tt
read_so_far plan most file past (Some left) old now some alone asked wrote exactly =
    let count : length (capture_of exactly.0).frames ≡ length past =
    ap (λ (reading : Reading). length reading.frames) exactly.2.1 ∙ count_past past (ended exactly.2.0) ∙ none (length past) in
    record {
      taken = exactly.0;
      whole = exactly.1;
      fewer = subst (IsFewer plan.most) (sym count) (is_fewer plan.most most (length past) some asked);
      wrote = subst (λ (bytes : List ℕ). Appends old now bytes)
          (sym (ap (λ (two : Bool). pieces_so_far two plan exactly.0) alone ∙ ap (λ (reading : Reading). pieces (once plan) [] reading.frames) exactly.2.1 ∙ pieces_past (once plan) past (ended exactly.2.0) ∙ append-nil (pieces_of (once plan) past))) wrote;
    }
  where
    none : (n : ℕ) → n + 0 ≡ n
    none n = omega arith

pub way_unread : (plan : Plan) (most : Option ℕ) (told : Option (List ℕ)) (r : ReaderShown) (left left_after : Option (List ℕ)) (d : DissectorShown) (t : Notes) (k : Kept) (old now : Option (List ℕ))
    → most ≢ Some 0 → AreOnTheWay plan most told r left d t k old now → Fails r left left_after → IfSome told (λ file. WroteTakenBehind [] plan file left_after old now)
way_unread plan most None r left left_after d t k old now some way fails = tt
way_unread plan most (Some file) r left left_after d t k old now some way fails =
    read_so_far plan most file way.past left_after old now some way.alone way.asked way.appended (fails file way.past way.stands)

-- a frame doesn't fit
unfit_over : (plan : Plan) (most : Option ℕ) (file : List ℕ) (past : List Frame) (frame : Frame) (rest : Reading) → most ≢ Some 0 → two_of plan ≡ false → plan.most ≡ asked_before most (length past)
    → capture_of file ≡ with_past (frame ∷ past) rest → AreFit (once plan) past → is_unfit (once plan) past frame ≡ true → frames_read plan file ≡ with_read past (over (once plan) (Unfit frame.number))
unfit_over plan most file past frame rest some alone asked read fit unfit =
    read_way plan most file past (with_frame frame rest) alone asked read fit
    ∙ ap (λ (reading : Reading). with_read past (rest_of (once plan) past reading)) (limited_frame most frame rest some)
    ∙ ap (λ (b : Bool). with_read past (if b then over (once plan) (Unfit frame.number) else before frame (rest_of (once plan) (frame ∷ past) (limited (option_map (λ n. n - 1) most) rest)))) unfit

pub way_unfit : (plan : Plan) (most : Option ℕ) (told : Option (List ℕ)) (r after : ReaderShown) (left left_after : Option (List ℕ)) (d : DissectorShown) (t counts : Notes) (k kept : Kept) (old now later : Option (List ℕ)) (frame : Frame)
    → most ≢ Some 0 → AreOnTheWay plan most told r left d t k old now → Answers (next.Frame frame) r after left left_after
    → ((past : List Frame) → StandsWithin past d → KeepsUp (written_of plan) (once plan) past t k → IsAfterFrame false (once plan) past frame counts kept now later)
    → IfSome told (λ file. WrotePieces plan (frames_read plan file) old later × (Unfit frame.number ≡ (frames_read plan file).ending))
way_unfit plan most None r after left left_after d t counts k kept old now later frame some way answers wrote = tt
way_unfit plan most (Some file) r after left left_after d t counts k kept old now later frame some way answers wrote =
    let front = (answers file way.past way.stands).1 in
    let after_frame = wrote way.past way.dissects way.keeps in
    whole_way plan file way.past (Unfit frame.number) old later
    (unfit_over plan most file way.past frame front.0 some way.alone way.asked front.1 way.fit after_frame.0)
    (subst (λ (written : Option (List ℕ)). Appends old written (pieces_of (once plan) way.past)) (sym after_frame.2) way.appended)

pub read_unfit : (plan : Plan) (most : Option ℕ) (told : Option (List ℕ)) (r after : ReaderShown) (left left_after : Option (List ℕ)) (d dissected : DissectorShown) (t counts : Notes) (k kept : Kept) (old now later : Option (List ℕ)) (frame : Frame)
    → most ≢ Some 0 → AreOnTheWay plan most told r left d t k old now → Answers (next.Frame frame) r after left left_after
    → ((past : List Frame) → StandsWithin past d → KeepsUp (written_of plan) (once plan) past t k → IsAfterFrame false (once plan) past frame counts kept now later)
    → IfSome told (λ file. HasRead plan file dissected counts kept)
read_unfit plan most None r after left left_after d dissected t counts k kept old now later frame some way answers wrote = tt
read_unfit plan most (Some file) r after left left_after d dissected t counts k kept old now later frame some way answers wrote =
    let front = (answers file way.past way.stands).1 in
    let after_frame = wrote way.past way.dissects way.keeps in
    read_past plan file way.past (Unfit frame.number) dissected counts kept
    (unfit_over plan most file way.past frame front.0 some way.alone way.asked front.1 way.fit after_frame.0)
    (can_end (written_of plan) (once plan) way.past frame dissected counts kept after_frame.0 after_frame.1)

few_before : (most : Option ℕ) (count past : ℕ) → most ≢ Some 0 → Some (suc count) ≡ asked_before most past → past ≤ count
few_before None count past some is = let bad : Some (suc count) ≡ None = is in absurd (cc bad)
few_before (Some zero) count past some is = absurd (some refl)
few_before (Some (suc n)) count past some is = let sum : suc count ≡ suc n + past = cc is in omega (arith, sum)

near_by : (file : List ℕ) (past : List Frame) (left : Option (List ℕ)) (count : ℕ) → length past ≤ count → IsNear file past left → IsNearAfter file count left
near_by file past None count few near = tt
near_by file past (Some left) count few near = λ front late. omega (arith, few, near front late)

unfit_near : (plan : Plan) (most : Option ℕ) (told : Option (List ℕ)) (r after : ReaderShown) (left left_after : Option (List ℕ)) (d : DissectorShown) (t : Notes) (k : Kept) (old now : Option (List ℕ)) (frame : Frame)
    → most ≢ Some 0 → AreOnTheWay plan most told r left d t k old now → Answers (next.Frame frame) r after left left_after
    → IfSome told (λ file. IsFullNearOf plan file left_after)
unfit_near plan most None r after left left_after d t k old now frame some way answers = tt
unfit_near plan most (Some file) r after left left_after d t k old now frame some way answers = λ count asked many.
    near_by file way.past left_after count (few_before most count (length way.past) some (sym asked ∙ way.asked)) (answers file way.past way.stands).2

-- where the reading ends
pub end_near : (plan : Plan) (told left : Option (List ℕ)) (ending : Ending) → AreFullNear plan told left → AreEndNear plan told left (Read ending)
end_near plan told left ending full = (full, tt)

if_once : (two : Bool) (P : Type 0) → P → IfOnce two P
if_once false P holds = holds
if_once true P holds = tt

unfit_is_near : (plan : Plan) (most : Option ℕ) (told : Option (List ℕ)) (r after : ReaderShown) (left left_after : Option (List ℕ)) (d : DissectorShown) (t counts : Notes) (k kept : Kept) (old now later : Option (List ℕ)) (frame : Frame)
    → most ≢ Some 0 → AreOnTheWay plan most told r left d t k old now → Answers (next.Frame frame) r after left left_after
    → ((past : List Frame) → StandsWithin past d → KeepsUp (written_of plan) (once plan) past t k → IsAfterFrame false (once plan) past frame counts kept now later)
    → IfSome told (λ file. IsNextNearOf plan file left_after)
unfit_is_near plan most None r after left left_after d t counts k kept old now later frame some way answers wrote = tt
unfit_is_near plan most (Some file) r after left left_after d t counts k kept old now later frame some way answers wrote =
    let answer = answers file way.past way.stands in
    let read = unfit_over plan most file way.past frame answer.1.0 some way.alone way.asked answer.1.1 way.fit (wrote way.past way.dissects way.keeps).0 in
    let count : length (frames_read plan file).frames ≡ length way.past + 0 =
    ap (λ (all : FramesRead). length all.frames) read ∙ count_read way.past (over (once plan) (Unfit frame.number)) in
    if_once (two_of plan) (IsNearAfter file (length (frames_read plan file).frames) left_after) (near_by file way.past left_after (length (frames_read plan file).frames) (omega (arith, count)) answer.2)

pub end_unfit : (plan : Plan) (most : Option ℕ) (told : Option (List ℕ)) (r after : ReaderShown) (left left_after : Option (List ℕ)) (d : DissectorShown) (t counts : Notes) (k kept : Kept) (old now later : Option (List ℕ)) (frame : Frame)
    → most ≢ Some 0 → AreOnTheWay plan most told r left d t k old now → Answers (next.Frame frame) r after left left_after
    → ((past : List Frame) → StandsWithin past d → KeepsUp (written_of plan) (once plan) past t k → IsAfterFrame false (once plan) past frame counts kept now later)
    → AreEndNear plan told left_after (Unfit frame.number)
end_unfit plan most told r after left left_after d t counts k kept old now later frame some way answers wrote = (
  unfit_near plan most told r after left left_after d t k old now frame some way answers,
  unfit_is_near plan most told r after left left_after d t counts k kept old now later frame some way answers wrote,
)

-- a write failed, or there was no memory for a frame's tree or line
pub fit_pieces : (job : Job) (past : List Frame) (frame : Frame) (frames : List Frame) (ending : Ending)
    → pieces job past (fitting job past (frame ∷ frames) ending).frames
    ≡ fit_piece job past frame ++ (if is_unfit job past frame then [] else pieces job (frame ∷ past) (fitting job (frame ∷ past) frames ending).frames)
fit_pieces job past frame frames ending = by (is_unfit job past frame)
  where
    by : (unfit : Bool) → pieces job past (if unfit then over job (Unfit frame.number) else before frame (fitting job (frame ∷ past) frames ending)).frames
        ≡ (if unfit then [] else piece job past frame) ++ (if unfit then [] else pieces job (frame ∷ past) (fitting job (frame ∷ past) frames ending).frames)
    by true = refl
    by false = refl

pub broken_part : (plan : Plan) (most : Option ℕ) (told : Option (List ℕ)) (r after : ReaderShown) (left left_after : Option (List ℕ)) (d : DissectorShown) (t : Notes) (k : Kept) (old now later : Option (List ℕ)) (frame : Frame)
    → most ≢ Some 0 → AreOnTheWay plan most told r left d t k old now → Answers (next.Frame frame) r after left left_after
    → ((past : List Frame) → StandsWithin past d → KeepsUp (written_of plan) (once plan) past t k → AppendsPart now later (fit_piece (once plan) past frame))
    → IfSome told (λ file. WroteSomePieces plan (frames_read plan file) old later)
broken_part plan most None r after left left_after d t k old now later frame some way answers part = tt
broken_part plan most (Some file) r after left left_after d t k old now later frame some way answers part =
    let front = (answers file way.past way.stands).1 in
    let others : List ℕ = if is_unfit (once plan) way.past frame then [] else pieces (once plan) (frame ∷ way.past) (rest_of (once plan) (frame ∷ way.past) (limited (option_map (λ n. n - 1) most) front.0)).frames in
    let whole : pieces (job_of plan (frames_read plan file)) [] (frames_read plan file).frames ≡ pieces_of (once plan) way.past ++ (fit_piece (once plan) way.past frame ++ others) =
    all_read plan most file way.past (with_frame frame front.0) way.alone way.asked front.1 way.fit
    ∙ ap (λ (reading : Reading). pieces_of (once plan) way.past ++ pieces (once plan) way.past (rest_of (once plan) way.past reading).frames) (limited_frame most frame front.0 some)
    ∙ ap (λ (bytes : List ℕ). pieces_of (once plan) way.past ++ bytes) (fit_pieces (once plan) way.past frame (limited (option_map (λ n. n - 1) most) front.0).frames (limited (option_map (λ n. n - 1) most) front.0).ending) in
    subst (AppendsPart old later) (sym whole)
    (part_after old now later (pieces_of (once plan) way.past) (fit_piece (once plan) way.past frame ++ others) way.appended
    (part_more now later (fit_piece (once plan) way.past frame) others (part way.past way.dissects way.keeps)))

fit_part : (unfit : Bool) (bytes : List ℕ) (old new : Option (List ℕ)) → AppendsPart old new (if unfit then [] else bytes) → AppendsPart old new bytes
fit_part true bytes old new part = part_more old new [] bytes part
fit_part false bytes old new part = part

pub broken_near : (plan : Plan) (most : Option ℕ) (told : Option (List ℕ)) (r after : ReaderShown) (left left_after : Option (List ℕ)) (d : DissectorShown) (t : Notes) (k : Kept) (old now later : Option (List ℕ)) (frame : Frame)
    → AreOnTheWay plan most told r left d t k old now → Answers (next.Frame frame) r after left left_after
    → ((past : List Frame) → StandsWithin past d → KeepsUp (written_of plan) (once plan) past t k → AppendsPart now later (fit_piece (once plan) past frame))
    → IfSome told (λ file. IsBrokenBehind [] plan file left_after old later)
broken_near plan most None r after left left_after d t k old now later frame way answers part = tt
broken_near plan most (Some file) r after left left_after d t k old now later frame way answers part =
    let answer = answers file way.past way.stands in
    let first = fit_part (is_unfit (once plan) way.past frame) (piece (once plan) way.past frame) now later (part way.past way.dissects way.keeps) in
    record {
      past = way.past;
      frame = frame;
      front = answer.1;
      near = answer.2;
      begun = first.0;
      rest = first.1;
      line = first.2;
      wrote = Appends-trans old now later (pieces_of (once plan) way.past) first.0 way.appended first.3;
    }

-- few bytes of the file were taken
pub way_took : (plan : Plan) (most : Option ℕ) (told : Option (List ℕ)) (r : ReaderShown) (left left_after : Option (List ℕ)) (d : DissectorShown) (t : Notes) (k : Kept) (old now : Option (List ℕ))
    → AreOnTheWay plan most told r left d t k old now → TakesFewOf r left left_after → TookAtMost (suc file_limit) told left_after
way_took plan most None r left left_after d t k old now way takes = ([], tt, omega arith)
way_took plan most (Some file) r left left_after d t k old now way takes = takes file way.past way.stands

pub took_begun : (file left_old left left_after : Option (List ℕ)) (begun_old begun begun_after : ℕ) → left ≡ file → begun ≡ counted begun_old → begun_after ≡ begun
    → TookAtMost (suc file_limit) left left_after → Took file begun_old begun_after left_old left_after
took_begun file left_old left left_after begun_old begun begun_after told once kept took =
    inr (kept ∙ once, subst (λ (start : Option (List ℕ)). TookAtMost (suc file_limit) start left_after) told took)
