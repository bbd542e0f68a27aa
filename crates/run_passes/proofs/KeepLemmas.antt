-- Reading the frames of a file and keeping them all.
use Rattle.std.proofs.Common.{◌≡◌, ◌≢◌, ◌<◌, ◌≤◌, ℕ, suc, ◌+◌, ◌-◌, ◌^◌, List, [], ◌∷◌, ◌++◌, length, Option, None, Some, refl, sym, ◌∙◌, ap, subst, append-nil, reverse, arith}
use Rattle.std.specs.Prelude.{IfSome}
use Rattle.std.specs.Option.{option_map}
use Rattle.std.proofs.lemmas.List.{reverse-append}
use Rattle.pk_base.specs.Limits.{file_limit}
use Rattle.capture_read.specs.Answers.{Answers, Fails, HoldsExactly, IsCounted, IsFrontOf, TakesFewOf}
use Rattle.capture_read.specs.Capture.{Reading, capture_of, ended, with_frame}
use Rattle.capture_read.specs.FrameList.{captured_bytes}
use Rattle.capture_read.specs.Reader.{Reader, ReaderShown, StandsFor, with_past}
use Rattle.capture_read.specs.Taken.{TookAtMost}
use Rattle.capture_read.specs.declared.ending.Ending.{Ending}
use Rattle.capture_read.specs.declared.ending.Ending.TheVariants.{Whole}
use Rattle.capture_read.specs.declared.frame.Frame.{Frame}
use Rattle.capture_read.specs.declared.next_frame.NextFrame.TheVariants as next
use Rattle.run_frames.specs.declared.plan.Plan.{Plan}
use Rattle.run_passes.specs.Reading.{limited}
use Rattle.run_passes.specs.Takeable.{AreTakeable, IsTakeable}
use Rattle.run_passes.specs.SoFar.{HoldsFewer, IsFewer, IsFullNearOf}
use Rattle.run_frames.proofs.PacketLemmas.{reverse_more}
use Rattle.run_passes.proofs.WayLemmas.{IsLastNear, asked_all, asked_before, asked_more, count_past, is_fewer, limited_before, limited_ended, limited_zero, more_asked, near_after}

-- frames that were answered, the newest first, and then those of a reading
pub frames_past : (past : List Frame) (reading : Reading) → with_past past reading ≡ record { frames = reverse past ++ reading.frames; ending = reading.ending }
frames_past [] reading = refl
frames_past (frame ∷ past) reading =
    frames_past past (with_frame frame reading)
    ∙ ap (λ (frames : List Frame). record { frames = frames; ending = reading.ending }) (sym (reverse_more frame past reading.frames))

-- the frames kept are those answered
pub record IsKeeping (plan : Plan) (most : Option ℕ) (file : List ℕ) (r : ReaderShown) (left : Option (List ℕ)) (frames : List Frame) : Type 0 where
  pub past : List Frame
  pub newest : frames ≡ reverse past
  pub front : IsFrontOf past file
  pub asked : plan.most ≡ asked_before most (length past)
  pub stands : StandsFor r left file past
  pub last : IsLastNear past file left

abbrev pub AreKeeping : Plan → Option ℕ → Option (List ℕ) → ReaderShown → Option (List ℕ) → List Frame → Type 0
AreKeeping plan most told r left frames = IfSome told (λ file. IsKeeping plan most file r left frames)

pub keep_begun : (plan : Plan) (told : Option (List ℕ)) (r : ReaderShown) (frames : List Frame) → frames ≡ []
    → ((left : List ℕ) → StandsFor r (Some left) left []) → AreKeeping plan plan.most told r told frames
keep_begun plan None r frames none stands = tt
keep_begun plan (Some file) r frames none stands = record {
  past = [];
  newest = none;
  front = (capture_of file, refl);
  asked = asked_all plan.most;
  stands = stands file;
  last = tt;
}

pub keep_further : (plan : Plan) (most : Option ℕ) (told : Option (List ℕ)) (r after : ReaderShown) (left left_after : Option (List ℕ)) (frames : List Frame) (frame : Frame)
    → most ≢ Some 0 → AreKeeping plan most told r left frames → Answers (next.Frame frame) r after left left_after
    → AreKeeping plan (option_map (λ n. n - 1) most) told after left_after (frames ++ frame ∷ [])
keep_further plan most None r after left left_after frames frame some way answers = tt
keep_further plan most (Some file) r after left left_after frames frame some way answers =
    let answer = answers file way.past way.stands in
    record {
      past = frame ∷ way.past;
      newest = ap (λ (all : List Frame). all ++ frame ∷ []) way.newest ∙ sym (reverse-append (frame ∷ []) way.past);
      front = answer.1;
      asked = way.asked ∙ asked_more most (length way.past) some;
      stands = answer.0;
      last = answer.2;
    }

-- all frames were kept, where nothing more is to be read
kept_over : (plan : Plan) (most : Option ℕ) (file : List ℕ) (past frames : List Frame) (rest : Reading) (ending : Ending) → frames ≡ reverse past
    → plan.most ≡ asked_before most (length past) → capture_of file ≡ with_past past rest → limited most rest ≡ ended ending
    → limited plan.most (capture_of file) ≡ record { frames = frames; ending = ending }
kept_over plan most file past frames rest ending newest asked read is =
    ap (λ (m : Option ℕ). limited m (capture_of file)) asked
    ∙ ap (limited (asked_before most (length past))) read
    ∙ limited_before most past rest
    ∙ ap (with_past past) is
    ∙ frames_past past (ended ending)
    ∙ ap (λ (all : List Frame). record { frames = all; ending = ending }) (append-nil (reverse past) ∙ sym newest)

pub keep_full : (plan : Plan) (most : Option ℕ) (told : Option (List ℕ)) (r : ReaderShown) (left : Option (List ℕ)) (frames : List Frame)
    → most ≡ Some 0 → AreKeeping plan most told r left frames
    → IfSome told (λ file. limited plan.most (capture_of file) ≡ record { frames = frames; ending = Whole })
keep_full plan most None r left frames full way = tt
keep_full plan most (Some file) r left frames full way =
    kept_over plan most file way.past frames way.front.0 Whole way.newest way.asked way.front.1
    (ap (λ (m : Option ℕ). limited m way.front.0) full ∙ limited_zero way.front.0)

pub keep_ended : (plan : Plan) (most : Option ℕ) (told : Option (List ℕ)) (r after : ReaderShown) (left left_after : Option (List ℕ)) (frames : List Frame) (ending : Ending)
    → most ≢ Some 0 → AreKeeping plan most told r left frames → Answers (next.End ending) r after left left_after
    → IfSome told (λ file. limited plan.most (capture_of file) ≡ record { frames = frames; ending = ending })
keep_ended plan most None r after left left_after frames ending some way answers = tt
keep_ended plan most (Some file) r after left left_after frames ending some way answers =
    kept_over plan most file way.past frames (ended ending) ending way.newest way.asked (answers file way.past way.stands).1 (limited_ended most ending some)

-- the bytes taken end near the last frame, where as many were read as are asked for
pub keep_full_near : (plan : Plan) (most : Option ℕ) (told : Option (List ℕ)) (r : ReaderShown) (left : Option (List ℕ)) (frames : List Frame)
    → most ≡ Some 0 → AreKeeping plan most told r left frames → IfSome told (λ file. IsFullNearOf plan file left)
keep_full_near plan most None r left frames full way = tt
keep_full_near plan most (Some file) r left frames full way = λ count asked some.
    let same : Some (0 + length way.past) ≡ Some (suc count) = ap (λ (m : Option ℕ). asked_before m (length way.past)) (sym full) ∙ sym way.asked ∙ asked in
    let sum : 0 + length way.past ≡ suc count = cc same in
    near_after file way.past left count (omega (arith, sum)) way.last

pub keep_ended_near : (plan : Plan) (most : Option ℕ) (told : Option (List ℕ)) (r after : ReaderShown) (left left_after : Option (List ℕ)) (frames : List Frame) (ending : Ending)
    → most ≢ Some 0 → AreKeeping plan most told r left frames → Answers (next.End ending) r after left left_after
    → IfSome told (λ file. IsFullNearOf plan file left_after)
keep_ended_near plan most None r after left left_after frames ending some way answers = tt
keep_ended_near plan most (Some file) r after left left_after frames ending some way answers = λ count asked many.
    let all : length (capture_of file).frames ≡ length way.past + 0 =
    ap (λ (reading : Reading). length reading.frames) (answers file way.past way.stands).1 ∙ count_past way.past (ended ending) in
    let fewer : length way.past < suc count = more_asked most (length way.past) (suc count) some (sym asked ∙ way.asked) in
    absurd (omega (arith, all, fewer, many))

-- a read failed
holds_fewer : (plan : Plan) (most : Option ℕ) (file : List ℕ) (past : List Frame) (left : Option (List ℕ)) → most ≢ Some 0 → plan.most ≡ asked_before most (length past)
    → HoldsExactly file past left → HoldsFewer plan file left
holds_fewer plan most file past None some asked exactly = tt
holds_fewer plan most file past (Some left) some asked exactly =
    let count : length (capture_of exactly.0).frames ≡ length past =
    ap (λ (reading : Reading). length reading.frames) exactly.2.1 ∙ count_past past (ended exactly.2.0) ∙ none (length past) in (
      exactly.0,
      exactly.1,
      subst (IsFewer plan.most) (sym count) (is_fewer plan.most most (length past) some asked),
    )
  where
    none : (n : ℕ) → n + 0 ≡ n
    none n = omega arith

pub keep_unread : (plan : Plan) (most : Option ℕ) (told : Option (List ℕ)) (r : ReaderShown) (left left_after : Option (List ℕ)) (frames : List Frame)
    → most ≢ Some 0 → AreKeeping plan most told r left frames → Fails r left left_after → IfSome told (λ file. HoldsFewer plan file left_after)
keep_unread plan most None r left left_after frames some way fails = tt
keep_unread plan most (Some file) r left left_after frames some way fails =
    holds_fewer plan most file way.past left_after some way.asked (fails file way.past way.stands)

pub keep_took : (plan : Plan) (most : Option ℕ) (told : Option (List ℕ)) (r : ReaderShown) (left left_after : Option (List ℕ)) (frames : List Frame)
    → AreKeeping plan most told r left frames → TakesFewOf r left left_after → TookAtMost (suc file_limit) told left_after
keep_took plan most None r left left_after frames way takes = ([], tt, omega arith)
keep_took plan most (Some file) r left left_after frames way takes = takes file way.past way.stands

-- the frames kept can be taken, one behind the other
pub record AreCounted (r : Reader) (frames : List Frame) : Type 0 where
  pub number : r.number ≡ length frames + 1
  pub bytes : captured_bytes frames ≤ r.at
  pub few : length frames ≤ r.at
  pub limit : r.at ≤ file_limit

counts_begun_of : (r : Reader) → r.number ≡ 1 → r.at ≡ 0 → AreCounted r []
counts_begun_of r number at = record { number = omega (arith, number); bytes = omega arith; few = omega arith; limit = omega (arith, at) }

pub counts_begun : (r : Reader) (frames : List Frame) → frames ≡ [] → r.number ≡ 1 → r.at ≡ 0 → AreCounted r frames
counts_begun r frames none number at = subst (λ (all : List Frame). AreCounted r all) (sym none) (counts_begun_of r number at)

length_more : (frames : List Frame) (frame : Frame) → length (frames ++ frame ∷ []) ≡ length frames + 1
length_more [] frame = refl
length_more (first ∷ frames) frame = omega (arith, length_more frames frame)

bytes_more : (frames : List Frame) (frame : Frame) → captured_bytes (frames ++ frame ∷ []) ≡ captured_bytes frames + length frame.bytes
bytes_more [] frame = omega arith
bytes_more (first ∷ frames) frame = omega (arith, bytes_more frames frame)

pub counts_more : (r after : Reader) (frames : List Frame) (frame : Frame) → AreCounted r frames → IsCounted frame r after → after.at ≤ file_limit
    → AreCounted after (frames ++ frame ∷ [])
counts_more r after frames frame are counted limit = record {
  number = omega (arith, length_more frames frame, counted.after, are.number);
  bytes = omega (arith, bytes_more frames frame, counted.bytes, are.bytes);
  few = omega (arith, length_more frames frame, counted.moved, are.few);
  limit = limit;
}

below_limit : (n : ℕ) → n ≤ file_limit → n ≤ 2 ^ 28
unfolding file_limit
below_limit n few = few

takeable_behind : (taken captured : ℕ) (frames : List Frame) (frame : Frame) → AreTakeable taken captured frames
    → IsTakeable (taken + length frames) (captured + captured_bytes frames) frame → AreTakeable taken captured (frames ++ frame ∷ [])
takeable_behind taken captured [] frame are is =
    let one : taken + 0 ≡ taken = omega arith in
    let other : captured + 0 ≡ captured = omega arith in
    (subst (λ (n : ℕ). IsTakeable n captured frame) one (subst (λ (n : ℕ). IsTakeable (taken + 0) n frame) other is), tt)
takeable_behind taken captured (first ∷ frames) frame are is =
    let one : taken + suc (length frames) ≡ taken + 1 + length frames = omega arith in
    let other : captured + (length first.bytes + captured_bytes frames) ≡ captured + length first.bytes + captured_bytes frames = omega arith in (
      are.0,
      takeable_behind (taken + 1) (captured + length first.bytes) frames frame are.1
          (subst (λ (n : ℕ). IsTakeable n (captured + length first.bytes + captured_bytes frames) frame) one
          (subst (λ (n : ℕ). IsTakeable (taken + suc (length frames)) n frame) other is)),
    )

pub takeable_more : (r after : Reader) (frames : List Frame) (frame : Frame) → AreCounted r frames → IsCounted frame r after → after.at ≤ file_limit
    → AreTakeable 0 0 frames → AreTakeable 0 0 (frames ++ frame ∷ [])
takeable_more r after frames frame are counted limit takeable =
    takeable_behind 0 0 frames frame takeable
    (record {
      number = omega (arith, counted.number, are.number);
      time = counted.time;
      bytes = omega (arith, below_limit after.at limit, counted.bytes, are.bytes);
      few = omega (arith, are.few, counted.moved, limit);
    })

pub takeable_none : (frames : List Frame) → frames ≡ [] → AreTakeable 0 0 frames
takeable_none frames none = subst (λ (all : List Frame). AreTakeable 0 0 all) (sym none) tt
