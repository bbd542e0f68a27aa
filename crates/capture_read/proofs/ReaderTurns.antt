-- A reader that goes on stands for the same file.
use Rattle.std.proofs.Common.{◌≡◌, ◌<◌, ◌≤◌, ℕ, suc, ◌+◌, ◌-◌, Bool, true, false, nat_lt, List, [], ◌∷◌, ◌++◌, length, take, drop, Option, Some, None, refl, sym, ap, ◌∙◌, subst, arith}
use Rattle.std.proofs.lemmas.List.{append_assoc, append-nil, length-append, length-take, length-drop, nil_from_length, take-append-drop, take-take, take_all}
use Rattle.std.proofs.Math.Seq.{take-append-add, take-append_seam, drop-append_seam}
use Rattle.pk_base.specs.Limits.{file_limit}
use Rattle.pk_base.specs.declared.found.Found.{Found}
use Rattle.pk_base.specs.declared.found.Reason.{Reason}
use Rattle.pk_base.proofs.Choices.{is_less, isn't_less, less, not_less}
use Rattle.pk_base.proofs.SameFront.{IsSameFront, part_same}
use Rattle.capture_formats.specs.Sections.{Scope, IsStepWithin, WhenTaken, WhenUntaken, scope_of}
use Rattle.capture_formats.specs.declared.step.BlockStep.{BlockStep}
use Rattle.capture_formats.specs.declared.step.BlockStep.TheVariants as step
use Rattle.capture_read.specs.Answers.{IsAtHand, IsFrontOf, IsNear, HoldsExactly, Ends, Finds, GoesOn, FailsAt, Sees, TakesFew}
use Rattle.capture_read.specs.Capture.{capture_of, ended, frame_of, is_large, reading_of, with_frame}
use Rattle.capture_read.specs.Ending.{damage_at}
use Rattle.capture_read.specs.Fill.{IsFilled, IsFilledTo, IsUnfilled}
use Rattle.capture_read.specs.Offsets.{IsStepTimely}
use Rattle.capture_read.specs.Reader.{Reader, IsKept, IsOver, IsPlaced, IsReading, IsSeenBehind, HasFew, Stands, cut_here, kind_then, reading_here, scope_then, step_here, with_past}
use Rattle.capture_read.specs.Taken.{TookAtMost, TookFew}
use Rattle.capture_read.specs.declared.ending.Ending.{Ending}
use Rattle.capture_read.specs.declared.frame.Frame.{Frame}
use Rattle.capture_read.specs.declared.kind.Kind.{Kind}
use Rattle.capture_read.specs.declared.kind.Seen.{Seen}
use Rattle.capture_read.specs.declared.kind.Seen.TheVariants as seen
use Rattle.capture_read.specs.declared.position.Sight.{Sight}
use Rattle.capture_read.proofs.HereSteps.{after_step, follows_here}
use Rattle.capture_read.proofs.ReaderBounds.{counted_by}
use Rattle.capture_read.proofs.ReaderSteps.{IsSoon, few_front, front-append, over_step}
use Rattle.capture_read.proofs.TakenLemmas.{took_more}
use Rattle.capture_read.proofs.SameSteps.{IsStepDecided, step_same, scope_same, kind_same}

-- a step that is told, in bytes that begin alike
step_facts : (kind : Option Kind) (scope : Scope) (n : ℕ) (xs ys : List ℕ) (s : BlockStep) → IsSameFront n xs ys → step_here kind scope xs ≡ s
    → IsStepDecided s n (length xs) (length ys)
    → (step_here kind scope ys ≡ s) × (kind_then (step_here kind scope ys) kind ys ≡ kind_then s kind xs) × (scope_then kind scope ys ≡ scope_then kind scope xs)
step_facts kind scope n xs ys s front is decided =
    let told : IsStepDecided (step_here kind scope xs) n (length xs) (length ys) = subst (λ (t : BlockStep). IsStepDecided t n (length xs) (length ys)) (sym is) decided in (
      step_same kind scope n xs ys front told ∙ is,
      kind_same kind scope n xs ys front told ∙ ap (λ (t : BlockStep). kind_then t kind xs) is,
      scope_same kind scope n xs ys front told,
    )

-- the reader behind a step of so many bytes
abbrev pub behind_step : Reader → BlockStep → ℕ → ℕ → Reader
behind_step r s number size = record {
  kind = kind_then s r.kind r.held;
  scope = scope_then r.kind r.scope r.held;
  number = number;
  at = r.at + size;
  held = drop size r.held;
  seen = r.seen;
}

-- the bytes from the reader's place on that are looked at, where the first of them are held
ys_is : (r : Reader) (size : ℕ) (more : List ℕ) → size ≤ length r.held → r.at + length r.held ≤ file_limit
    → take (file_limit - r.at) (take size r.held ++ more) ≡ take size r.held ++ take (file_limit - (r.at + size)) more
ys_is r size more within few =
    let sum : file_limit - r.at ≡ length (take size r.held) + (file_limit - (r.at + size)) = omega (arith, within, few, length-take size r.held) in
    ap (λ (k : ℕ). take k (take size r.held ++ more)) sum ∙ take-append-add (take size r.held) more (file_limit - (r.at + size))

size_is : (size : ℕ) (held : List ℕ) → size ≤ length held → size ≡ length (take size held)
size_is size held within = omega (arith, within, length-take size held)

front_is : (size : ℕ) (held tail : List ℕ) → size ≤ length held → IsSameFront size held (take size held ++ tail)
front_is size held tail within = record {
  one = within;
  other = omega (arith, length-append (take size held) tail, size_is size held within);
  same = sym (ap (λ (k : ℕ). take k (take size held ++ tail)) (size_is size held within) ∙ take-append_seam (take size held) tail);
}

rest_is : (size : ℕ) (held tail : List ℕ) → size ≤ length held → drop size (take size held ++ tail) ≡ tail
rest_is size held tail within =
    ap (λ (k : ℕ). drop k (take size held ++ tail)) (size_is size held within) ∙ drop-append_seam (take size held) tail

-- what the file stands for by a step of so many bytes at the reader's place, whatever bytes come behind it
over_behind : (r : Reader) (before : List ℕ) (past : List Frame) (s : BlockStep) (number size : ℕ) → IsKept r → IsOver r before past
    → step_here r.kind r.scope r.held ≡ s → size ≤ length r.held
    → ((other : ℕ) → IsStepDecided s size (length r.held) other)
    → (more : List ℕ) → capture_of ((before ++ take size r.held) ++ more)
    ≡ with_past past (after_step r.number r.at (take size r.held ++ take (file_limit - (r.at + size)) more)
    (follows_here (is_large ((before ++ take size r.held) ++ more)) (kind_then s r.kind r.held) (scope_then r.kind r.scope r.held) r.at (take size r.held ++ take (file_limit - (r.at + size)) more))
    (cut_here r.kind (is_large ((before ++ take size r.held) ++ more)) r.at (take size r.held ++ take (file_limit - (r.at + size)) more)) s)
over_behind r before past s number size kept over is within decided more =
    let ys : List ℕ = take size r.held ++ take (file_limit - (r.at + size)) more in
    let facts = step_facts r.kind r.scope size r.held ys s (front_is size r.held (take (file_limit - (r.at + size)) more) within) is (decided (length ys)) in
    let file : List ℕ = before ++ (take size r.held ++ more) in
    let cut : Ending = cut_here r.kind (is_large (before ++ (take size r.held ++ more))) r.at (take size r.held ++ take (file_limit - (r.at + size)) more) in
    ap capture_of (append_assoc before (take size r.held) more)
    ∙ over_step r before past kept.placed over (take size r.held ++ more) ys (ys_is r size more within kept.within)
    ∙ ap (λ (t : BlockStep). with_past past (after_step r.number r.at ys (follows_here (is_large file) (kind_then (step_here r.kind r.scope ys) r.kind ys) (scope_then r.kind r.scope ys) r.at ys) cut t)) facts.0
    ∙ ap (λ (k : Option Kind). with_past past (after_step r.number r.at ys (follows_here (is_large file) k (scope_then r.kind r.scope ys) r.at ys) cut s)) facts.1
    ∙ ap (λ (c : Scope). with_past past (after_step r.number r.at ys (follows_here (is_large file) (kind_then s r.kind r.held) c r.at ys) cut s)) facts.2
    ∙ ap (λ (all : List ℕ). with_past past (after_step r.number r.at ys (follows_here (is_large all) (kind_then s r.kind r.held) (scope_then r.kind r.scope r.held) r.at ys)
    (cut_here r.kind (is_large all) r.at ys) s)) (sym (append_assoc before (take size r.held) more))

-- behind a block without a frame, or a file's header
over_skipped : (r : Reader) (before : List ℕ) (past : List Frame) (size : ℕ) → IsKept r → IsOver r before past
    → step_here r.kind r.scope r.held ≡ step.Skipped size → size ≤ length r.held
    → IsOver (behind_step r (step.Skipped size) r.number size) (before ++ take size r.held) past
over_skipped r before past size kept over is within = λ more.
    over_behind r before past (step.Skipped size) r.number size kept over is within (λ other. omega arith) more
    ∙ ap (λ (bytes : List ℕ). with_past past (reading_here (is_large ((before ++ take size r.held) ++ more)) (kind_then (step.Skipped size) r.kind r.held) (scope_then r.kind r.scope r.held) r.number (r.at + size) bytes))
    (rest_is size r.held (take (file_limit - (r.at + size)) more) within)

-- a frame by its bytes
abbrev frame_with : ℕ → Found → List ℕ → Frame
frame_with number found bytes = record {
  number = number;
  time = found.time;
  link = found.link;
  little = found.little;
  bytes = bytes;
  original = found.original;
}

-- behind a frame
over_found : (r : Reader) (before : List ℕ) (past : List Frame) (found : Found) → IsKept r → IsOver r before past
    → step_here r.kind r.scope r.held ≡ step.Item found → found.end ≤ length r.held → found.start + found.len ≤ found.end
    → IsOver (behind_step r (step.Item found) (suc r.number) found.end) (before ++ take found.end r.held) (frame_of r.number found r.held ∷ past)
over_found r before past found kept over is within room = λ more.
    let tail : List ℕ = take (file_limit - (r.at + found.end)) more in
    let ys : List ℕ = take found.end r.held ++ take (file_limit - (r.at + found.end)) more in
    let part : take found.len (drop found.start ys) ≡ take found.len (drop found.start r.held) =
    sym (part_same found.start found.len found.end r.held ys (front_is found.end r.held tail within) room) in
    over_behind r before past (step.Item found) (suc r.number) found.end kept over is within (λ other. omega arith) more
    ∙ ap (λ (bytes : List ℕ). with_past past (with_frame (frame_with r.number found bytes)
    (reading_here (is_large ((before ++ take found.end r.held) ++ more)) (kind_then (step.Item found) r.kind r.held) (scope_then r.kind r.scope r.held) (suc r.number) (r.at + found.end) (drop found.end ys)))) part
    ∙ ap (λ (bytes : List ℕ). with_past past (with_frame (frame_of r.number found r.held)
    (reading_here (is_large ((before ++ take found.end r.held) ++ more)) (kind_then (step.Item found) r.kind r.held) (scope_then r.kind r.scope r.held) (suc r.number) (r.at + found.end) bytes)))
    (rest_is found.end r.held tail within)

-- what doesn't hang on the step
whole_behind : (before held more : List ℕ) (size : ℕ) → before ++ (held ++ more) ≡ (before ++ take size held) ++ (drop size held ++ more)
whole_behind before held more size =
    ap (λ (bytes : List ℕ). before ++ (bytes ++ more)) (sym (take-append-drop size held))
    ∙ ap (λ (bytes : List ℕ). before ++ bytes) (append_assoc (take size held) (drop size held) more)
    ∙ sym (append_assoc before (take size held) (drop size held ++ more))

place_behind : (before held : List ℕ) (at size : ℕ) → length before ≡ at → size ≤ length held → length (before ++ take size held) ≡ at + size
place_behind before held at size place within = omega (arith, place, size_is size held within, length-append before (take size held))

seen_behind : (held : List ℕ) (at size : ℕ) → size ≤ length held → at + length held ≡ at + size + length (drop size held)
seen_behind held at size within = omega (arith, within, length-drop size held)

-- the fronts that end before the step does
few_behind : (r : Reader) (left file : List ℕ) (past : List Frame) (s : BlockStep) (size : ℕ) → IsKept r → IsReading r left file past
    → step_here r.kind r.scope r.held ≡ s → ((n : ℕ) → n < size → IsSoon s n) → (front : ℕ) → front < r.at + size → HasFew file past front
few_behind r left file past s size kept reads is soon front early = by_place (nat_lt front r.at) refl
  where
    by_place : (before : Bool) → nat_lt front r.at ≡ before → HasFew file past front
    by_place true h = reads.few front (is_less front r.at h)
    by_place false h =
        let behind : r.at ≤ front = isn't_less front r.at h in
        few_front r reads.before (r.held ++ (reads.beyond ++ left)) file past r.held kept.placed reads.over reads.whole reads.place
        (front-append r.held (reads.beyond ++ left)) front behind
        (subst (λ (t : BlockStep). IsSoon t (front - r.at)) (sym is) (soon (front - r.at) (omega (arith, early, behind))))

reading_skipped : (r : Reader) (left file : List ℕ) (past : List Frame) (size : ℕ) → IsKept r → IsReading r left file past
    → step_here r.kind r.scope r.held ≡ step.Skipped size → size ≤ length r.held
    → IsReading (behind_step r (step.Skipped size) r.number size) left file past
reading_skipped r left file past size kept reads is within = record {
  before = reads.before ++ take size r.held;
  beyond = reads.beyond;
  whole = reads.whole ∙ whole_behind reads.before r.held (reads.beyond ++ left) size;
  place = place_behind reads.before r.held r.at size reads.place within;
  within = omega (arith, kept.within, seen_behind r.held r.at size within);
  behind = subst (λ (n : ℕ). IsSeenBehind r.seen n reads.beyond left) (seen_behind r.held r.at size within) reads.behind;
  over = over_skipped r reads.before past size kept reads.over is within;
  few = few_behind r left file past (step.Skipped size) size kept reads is (λ n less. less);
  near = λ front late. reads.near front (omega (arith, late, seen_behind r.held r.at size within));
}

reading_found : (r : Reader) (left file : List ℕ) (past : List Frame) (found : Found) → IsKept r → IsReading r left file past
    → step_here r.kind r.scope r.held ≡ step.Item found → found.end ≤ length r.held → found.start + found.len ≤ found.end
    → IsReading (behind_step r (step.Item found) (suc r.number) found.end) left file (frame_of r.number found r.held ∷ past)
reading_found r left file past found kept reads is within room = record {
  before = reads.before ++ take found.end r.held;
  beyond = reads.beyond;
  whole = reads.whole ∙ whole_behind reads.before r.held (reads.beyond ++ left) found.end;
  place = place_behind reads.before r.held r.at found.end reads.place within;
  within = omega (arith, kept.within, seen_behind r.held r.at found.end within);
  behind = subst (λ (n : ℕ). IsSeenBehind r.seen n reads.beyond left) (seen_behind r.held r.at found.end within) reads.behind;
  over = over_found r reads.before past found kept reads.over is within room;
  few = λ front early. omega (arith, few_behind r left file past (step.Item found) found.end kept reads is (λ n less. less) front early);
  near = λ front late. omega (arith, reads.near front (omega (arith, late, seen_behind r.held r.at found.end within)));
}

-- the frames answered are the file's first ones
reading_front : (r : Reader) (left file : List ℕ) (past : List Frame) → IsReading r left file past → IsFrontOf past file
reading_front r left file past reads = (
  reading_here (is_large (reads.before ++ (r.held ++ (reads.beyond ++ left)))) r.kind r.scope r.number r.at (take (file_limit - r.at) (r.held ++ (reads.beyond ++ left))),
  ap capture_of reads.whole ∙ reads.over (r.held ++ (reads.beyond ++ left)),
)

-- how long the file is
reading_length : (r : Reader) (left file : List ℕ) (past : List Frame) (reads : IsReading r left file past)
    → length file ≡ r.at + (length r.held + (length reads.beyond + length left))
reading_length r left file past reads =
    let all : length file ≡ length (reads.before ++ (r.held ++ (reads.beyond ++ left))) = ap length reads.whole in
    omega (arith, all, reads.place, length-append reads.before (r.held ++ (reads.beyond ++ left)), length-append r.held (reads.beyond ++ left), length-append reads.beyond left)

reading_near : (r : Reader) (left file : List ℕ) (past : List Frame) → IsReading r left file past → IsNear file past (Some left)
reading_near r left file past reads = λ front late. reads.near front (omega (arith, late, reading_length r left file past reads))

-- a block, record or header that can't be read
reading_bad : (r : Reader) (left file : List ℕ) (past : List Frame) (reason : Reason) → IsKept r → IsReading r left file past
    → step_here r.kind r.scope r.held ≡ step.Bad reason → capture_of file ≡ with_past past (ended (damage_at r.at reason))
reading_bad r left file past reason kept reads is =
    let more : List ℕ = r.held ++ (reads.beyond ++ left) in
    let ys : List ℕ = take (file_limit - r.at) (r.held ++ (reads.beyond ++ left)) in
    let same : step_here r.kind r.scope ys ≡ step.Bad reason = step_same r.kind r.scope (length r.held) r.held ys (held_front r.held (reads.beyond ++ left) (file_limit - r.at) (omega (arith, kept.within)))
    (subst (λ (t : BlockStep). IsStepDecided t (length r.held) (length r.held) (length ys)) (sym is) (omega arith)) ∙ is in
    ap capture_of reads.whole ∙ over_step r reads.before past kept.placed reads.over more ys refl
    ∙ ap (λ (t : BlockStep). with_past past (after_step r.number r.at ys
    (follows_here (is_large (reads.before ++ more)) (kind_then (step_here r.kind r.scope ys) r.kind ys) (scope_then r.kind r.scope ys) r.at ys)
    (cut_here r.kind (is_large (reads.before ++ more)) r.at ys) t)) same
  where
    held_front : (held more : List ℕ) (n : ℕ) → length held ≤ n → IsSameFront (length held) held (take n (held ++ more))
    held_front held more n few = record {
      one = omega arith;
      other = omega (arith, few, length-take n (held ++ more), length-append held more);
      same = take_all (length held) held (omega arith) ∙ sym (take-append_seam held more)
          ∙ sym (take-take (length held) n (held ++ more) few);
    }

-- a step that needs more bytes, where the bytes from the place on that are looked at are these
over_needs : (r : Reader) (before : List ℕ) (past : List Frame) (ys more : List ℕ) (need : ℕ) → IsKept r → IsOver r before past
    → take (file_limit - r.at) more ≡ ys → step_here r.kind r.scope ys ≡ step.Need need
    → capture_of (before ++ more) ≡ with_past past (ended (cut_here r.kind (is_large (before ++ more)) r.at ys))
over_needs r before past ys more need kept over is needs =
    over_step r before past kept.placed over more ys is
    ∙ ap (λ (t : BlockStep). with_past past (after_step r.number r.at ys
    (follows_here (is_large (before ++ more)) (kind_then (step_here r.kind r.scope ys) r.kind ys) (scope_then r.kind r.scope ys) r.at ys)
    (cut_here r.kind (is_large (before ++ more)) r.at ys) t)) needs

-- the file ends behind the bytes held, or they are all that are looked at
abbrev pub is_beyond : Seen → Bool
is_beyond seen.Open = false
is_beyond seen.Ended = false
is_beyond seen.Beyond = true

reading_ended : (r : Reader) (left file : List ℕ) (past : List Frame) (need : ℕ) → IsKept r → IsReading r left file past → r.seen ≡ seen.Ended
    → step_here r.kind r.scope r.held ≡ step.Need need → capture_of file ≡ with_past past (ended (cut_here r.kind false r.at r.held))
reading_ended r left file past need kept reads is needs =
    let behind : (reads.beyond ≡ []) × (left ≡ []) = subst (λ (s : Seen). IsSeenBehind s (r.at + length r.held) reads.beyond left) is reads.behind in
    let whole : file ≡ reads.before ++ r.held = reads.whole ∙ ap (λ (bytes : List ℕ). reads.before ++ (r.held ++ (bytes ++ left))) behind.0
    ∙ ap (λ (bytes : List ℕ). reads.before ++ (r.held ++ bytes)) behind.1 ∙ ap (λ (bytes : List ℕ). reads.before ++ bytes) (append-nil r.held) in
    let small : is_large (reads.before ++ r.held) ≡ false = not_less file_limit (length (reads.before ++ r.held)) (omega (arith, kept.within, reads.place, length-append reads.before r.held)) in
    ap capture_of whole
    ∙ over_needs r reads.before past r.held r.held need kept reads.over (take_all (file_limit - r.at) r.held (omega (arith, kept.within))) needs
    ∙ ap (λ (large : Bool). with_past past (ended (cut_here r.kind large r.at r.held))) small

reading_beyond : (r : Reader) (left file : List ℕ) (past : List Frame) (need : ℕ) → IsKept r → IsReading r left file past → r.seen ≡ seen.Beyond
    → step_here r.kind r.scope r.held ≡ step.Need need → capture_of file ≡ with_past past (ended (cut_here r.kind true r.at r.held))
reading_beyond r left file past need kept reads is needs =
    let behind : (length reads.beyond ≡ 1) × (r.at + length r.held ≡ file_limit) = subst (λ (s : Seen). IsSeenBehind s (r.at + length r.held) reads.beyond left) is reads.behind in
    let more : List ℕ = r.held ++ (reads.beyond ++ left) in
    let all : length (reads.before ++ (r.held ++ (reads.beyond ++ left))) ≡ r.at + (length r.held + (length reads.beyond + length left)) =
    omega (arith, reads.place, length-append reads.before (r.held ++ (reads.beyond ++ left)), length-append r.held (reads.beyond ++ left), length-append reads.beyond left) in
    let large : is_large (reads.before ++ (r.held ++ (reads.beyond ++ left))) ≡ true = less file_limit (length (reads.before ++ (r.held ++ (reads.beyond ++ left)))) (omega (arith, all, behind.0, behind.1)) in
    let size : file_limit - r.at ≡ length r.held = omega (arith, behind.1) in
    ap capture_of reads.whole
    ∙ over_needs r reads.before past r.held more need kept reads.over (ap (λ (n : ℕ). take n (r.held ++ (reads.beyond ++ left))) size ∙ take-append_seam r.held (reads.beyond ++ left)) needs
    ∙ ap (λ (large : Bool). with_past past (ended (cut_here r.kind large r.at r.held))) large

-- the reader with more bytes held
abbrev pub filled_reader : Reader → List ℕ → Seen → Reader
filled_reader r held seen = record { kind = r.kind; scope = r.scope; number = r.number; at = r.at; held = held; seen = seen }

filled_behind : (s : Seen) (beyond : List ℕ) (at size : ℕ) (left : List ℕ) → IsFilledTo s beyond size (file_limit - at) (Some left) → at ≤ file_limit
    → IsSeenBehind s (at + size) beyond left
filled_behind seen.Open beyond at size left filled within = nil_from_length beyond filled
filled_behind seen.Ended beyond at size left filled within = (nil_from_length beyond filled.0, filled.1)
filled_behind seen.Beyond beyond at size left filled within = (filled.0, omega (arith, filled.1, within))

reading_filled : (r : Reader) (filled : List ℕ) (told : Seen) (need : ℕ) (left_old left_new file : List ℕ) (past : List Frame) → IsKept r → IsReading r left_old file past
    → r.seen ≡ seen.Open → step_here r.kind r.scope r.held ≡ step.Need need
    → IsFilled r.held filled told need (file_limit - r.at) (Some left_old) (Some left_new)
    → IsReading (filled_reader r filled told) left_new file past
reading_filled r filled told need left_old left_new file past kept reads is needs more =
    let none : reads.beyond ≡ [] = subst (λ (s : Seen). IsSeenBehind s (r.at + length r.held) reads.beyond left_old) is reads.behind in
    let left : reads.beyond ++ left_old ≡ (more.got ++ more.beyond) ++ left_new = ap (λ (bytes : List ℕ). bytes ++ left_old) none ∙ more.taken in
    let rest : r.held ++ (reads.beyond ++ left_old) ≡ filled ++ (more.beyond ++ left_new) =
    ap (λ (bytes : List ℕ). r.held ++ bytes) (left ∙ append_assoc more.got more.beyond left_new)
    ∙ sym (append_assoc r.held more.got (more.beyond ++ left_new))
    ∙ ap (λ (bytes : List ℕ). bytes ++ (more.beyond ++ left_new)) (sym more.bytes) in
    record {
      before = reads.before;
      beyond = more.beyond;
      whole = reads.whole ∙ ap (λ (bytes : List ℕ). reads.before ++ bytes) rest;
      place = reads.place;
      within = omega (arith, kept.within, more.within);
      behind = filled_behind told more.beyond r.at (length filled) left_new more.ends (omega (arith, kept.within));
      over = reads.over;
      few = reads.few;
      near = λ front late. few_behind r left_old file past (step.Need need) need kept reads needs (λ n less. less) front (omega (arith, late, more.few));
    }

-- a read failed
reading_unfilled : (r : Reader) (need : ℕ) (left_old left_new file : List ℕ) (past : List Frame) → IsKept r → IsReading r left_old file past
    → r.seen ≡ seen.Open → step_here r.kind r.scope r.held ≡ step.Need need
    → IsUnfilled r.held need (file_limit - r.at) (Some left_old) (Some left_new) → HoldsExactly file past (Some left_new)
reading_unfilled r need left_old left_new file past kept reads is needs more =
    let none : reads.beyond ≡ [] = subst (λ (s : Seen). IsSeenBehind s (r.at + length r.held) reads.beyond left_old) is reads.behind in
    let left : reads.beyond ++ left_old ≡ more.got ++ left_new = ap (λ (bytes : List ℕ). bytes ++ left_old) none ∙ more.taken in
    let whole : file ≡ (reads.before ++ (r.held ++ more.got)) ++ left_new =
    reads.whole ∙ ap (λ (bytes : List ℕ). reads.before ++ (r.held ++ bytes)) left
    ∙ ap (λ (bytes : List ℕ). reads.before ++ bytes) (sym (append_assoc r.held more.got left_new))
    ∙ sym (append_assoc reads.before (r.held ++ more.got) left_new) in
    let size : length (r.held ++ more.got) ≡ length r.held + length more.got = length-append r.held more.got in
    let front : IsSameFront (length r.held) r.held (r.held ++ more.got) = record {
      one = omega arith;
      other = omega (arith, size);
      same = take_all (length r.held) r.held (omega arith) ∙ sym (take-append_seam r.held more.got);
    } in
    let needs_more : step_here r.kind r.scope (r.held ++ more.got) ≡ step.Need need =
    (step_facts r.kind r.scope (length r.held) r.held (r.held ++ more.got) (step.Need need) front needs (omega arith, omega (arith, size, more.few))).0 in (
      reads.before ++ (r.held ++ more.got),
      whole,
      (
        cut_here r.kind (is_large (reads.before ++ (r.held ++ more.got))) r.at (r.held ++ more.got),
        over_needs r reads.before past (r.held ++ more.got) (r.held ++ more.got) need kept reads.over
            (take_all (file_limit - r.at) (r.held ++ more.got) (omega (arith, size, more.within))) needs_more,
      ),
    )

-- before the first byte
reading_new : (scope : Scope) (left : List ℕ) → scope ≡ scope_of []
    → IsReading (record { kind = None; scope = scope; number = 1; at = 0; held = []; seen = seen.Open }) left left []
unfolding capture_of
reading_new scope left is = record {
  before = [];
  beyond = [];
  whole = refl;
  place = refl;
  within = omega arith;
  behind = refl;
  over = λ more. ap (λ (n : ℕ). reading_of (is_large more) (take n more)) (limit_is file_limit);
  few = λ front early. absurd (omega (arith, early));
  near = λ front late. absurd (omega (arith, late));
}
  where
    limit_is : (n : ℕ) → n ≡ n - 0
    limit_is n = omega arith

-- the same where the capture may tell nothing

pub stands_new : (scope : Scope) (left : List ℕ) → scope ≡ scope_of []
    → Stands (record { kind = None; scope = scope; number = 1; at = 0; held = []; seen = seen.Open }) (Some left) left []
unfolding Stands
stands_new scope left is = reading_new scope left is

pub turn_skipped : (r : Reader) (left : Option (List ℕ)) (size : ℕ) → IsKept r → step_here r.kind r.scope r.held ≡ step.Skipped size → size ≤ length r.held
    → GoesOn r (behind_step r (step.Skipped size) r.number size) left left
unfolding Stands
turn_skipped r None size kept is within = λ file past so. so
turn_skipped r (Some left) size kept is within = λ file past so. reading_skipped r left file past size kept so is within

pub turn_found : (r : Reader) (left : Option (List ℕ)) (found : Found) → IsKept r → step_here r.kind r.scope r.held ≡ step.Item found
    → found.end ≤ length r.held → found.start + found.len ≤ found.end
    → Finds (frame_of r.number found r.held) r (behind_step r (step.Item found) (suc r.number) found.end) left left
unfolding Stands
turn_found r None found kept is within room = λ file past so. absurd so
turn_found r (Some left) found kept is within room = λ file past so.
    let reads = reading_found r left file past found kept so is within room in
    (reads, reading_front (behind_step r (step.Item found) (suc r.number) found.end) left file (frame_of r.number found r.held ∷ past) reads, reading_near r left file past so)

pub turn_bad : (r : Reader) (left : Option (List ℕ)) (reason : Reason) → IsKept r → step_here r.kind r.scope r.held ≡ step.Bad reason
    → Ends (damage_at r.at reason) r r left left
unfolding Stands
turn_bad r None reason kept is = λ file past so. absurd so
turn_bad r (Some left) reason kept is = λ file past so. (so, reading_bad r left file past reason kept so is)

pub turn_ended : (r : Reader) (left : Option (List ℕ)) (need : ℕ) → IsKept r → r.seen ≡ seen.Ended → step_here r.kind r.scope r.held ≡ step.Need need
    → Ends (cut_here r.kind false r.at r.held) r r left left
unfolding Stands
turn_ended r None need kept is needs = λ file past so. absurd so
turn_ended r (Some left) need kept is needs = λ file past so. (so, reading_ended r left file past need kept so is needs)

pub turn_beyond : (r : Reader) (left : Option (List ℕ)) (need : ℕ) → IsKept r → r.seen ≡ seen.Beyond → step_here r.kind r.scope r.held ≡ step.Need need
    → Ends (cut_here r.kind true r.at r.held) r r left left
unfolding Stands
turn_beyond r None need kept is needs = λ file past so. absurd so
turn_beyond r (Some left) need kept is needs = λ file past so. (so, reading_beyond r left file past need kept so is needs)

pub turn_filled : (r : Reader) (filled : List ℕ) (told : Seen) (need : ℕ) (old new : Option (List ℕ)) → IsKept r → r.seen ≡ seen.Open
    → step_here r.kind r.scope r.held ≡ step.Need need → IsFilled r.held filled told need (file_limit - r.at) old new
    → GoesOn r (filled_reader r filled told) old new
unfolding Stands
turn_filled r filled told need None new kept is needs more = λ file past so. absurd so
turn_filled r filled told need (Some old) None kept is needs more = absurd more.taken
turn_filled r filled told need (Some old) (Some new) kept is needs more = λ file past so. reading_filled r filled told need old new file past kept so is needs more

pub turn_unfilled : (r : Reader) (need : ℕ) (old new : Option (List ℕ)) → IsKept r → r.seen ≡ seen.Open
    → step_here r.kind r.scope r.held ≡ step.Need need → IsUnfilled r.held need (file_limit - r.at) old new → FailsAt r old new
unfolding Stands
turn_unfilled r need None new kept is needs more = λ file past so. absurd so
turn_unfilled r need (Some old) None kept is needs more = absurd more.taken
turn_unfilled r need (Some old) (Some new) kept is needs more = λ file past so. reading_unfilled r need old new file past kept so is needs more

-- the same by the values that a position keeps

needs_by : (r inside : Reader) (need : ℕ) → inside ≡ r → step_here r.kind r.scope r.held ≡ step.Need need
    → step_here inside.kind inside.scope inside.held ≡ step.Need need
needs_by r inside need view needs = subst (λ (q : Reader). step_here q.kind q.scope q.held ≡ step.Need need) (sym view) needs

pub filled_by : (r inside : Reader) (bytes now : List ℕ) (limit : ℕ) (filled : List ℕ) (told : Seen) (need : ℕ) (old new : Option (List ℕ)) → inside ≡ r → IsKept inside
    → inside.seen ≡ seen.Open → step_here r.kind r.scope r.held ≡ step.Need need → bytes ≡ inside.held → limit ≡ file_limit → now ≡ filled
    → IsFilled bytes filled told need (limit - inside.at) old new → GoesOn r (filled_reader inside now told) old new
filled_by r inside bytes now limit filled told need old new view kept is needs held limited got more =
    rw (← view, got) (turn_filled inside filled told need old new kept is (needs_by r inside need view needs)
    (subst (λ (b : List ℕ). IsFilled b filled told need (file_limit - inside.at) old new) held
    (subst (λ (m : ℕ). IsFilled bytes filled told need (m - inside.at) old new) limited more)))

pub unfilled_by : (r inside : Reader) (bytes : List ℕ) (limit need : ℕ) (old new : Option (List ℕ)) → inside ≡ r → IsKept inside
    → inside.seen ≡ seen.Open → step_here r.kind r.scope r.held ≡ step.Need need → bytes ≡ inside.held → limit ≡ file_limit
    → IsUnfilled bytes need (limit - inside.at) old new → FailsAt r old new
unfilled_by r inside bytes limit need old new view kept is needs held limited more =
    rw (← view) (turn_unfilled inside need old new kept is (needs_by r inside need view needs)
    (subst (λ (b : List ℕ). IsUnfilled b need (file_limit - inside.at) old new) held
    (subst (λ (m : ℕ). IsUnfilled bytes need (m - inside.at) old new) limited more)))

-- what was looked at, and what is known then
pub record IsLooked (inside : Reader) (bytes : List ℕ) (s : BlockStep) (kind : Option Kind) (scope : Scope) : Type 0 where
  pub held : bytes ≡ inside.held
  pub found : s ≡ step_here inside.kind inside.scope bytes
  pub kind_is : kind ≡ kind_then s inside.kind bytes
  pub scope_is : scope ≡ scope_then inside.kind inside.scope bytes

looked_step : (inside : Reader) (bytes : List ℕ) (s t : BlockStep) (kind : Option Kind) (scope : Scope) → IsLooked inside bytes s kind scope → s ≡ t
    → (step_here inside.kind inside.scope inside.held ≡ t) × (kind ≡ kind_then t inside.kind inside.held) × (scope ≡ scope_then inside.kind inside.scope inside.held)
looked_step inside bytes s t kind scope looked is = (
  sym (ap (step_here inside.kind inside.scope) looked.held) ∙ sym looked.found ∙ is,
  looked.kind_is ∙ ap (λ (u : BlockStep). kind_then u inside.kind bytes) is ∙ ap (kind_then t inside.kind) looked.held,
  looked.scope_is ∙ ap (scope_then inside.kind inside.scope) looked.held,
)

-- more bytes are needed, and nothing is known then that wasn't before
pub need_by : (sight : Sight) (found : Found) (r inside : Reader) (s : BlockStep) (kind : Option Kind) (scope : Scope) (need : ℕ) → inside ≡ r → s ≡ step.Need need
    → WhenUntaken s ((kind ≡ inside.kind) × (scope ≡ inside.scope))
    → Sees sight found (record { kind = kind; scope = scope; number = inside.number; at = inside.at; held = inside.held; seen = inside.seen }) (record { kind = kind; scope = scope; number = inside.number; at = inside.at; held = inside.held; seen = inside.seen })
    → Sees sight found r (record { kind = kind; scope = scope; number = inside.number; at = inside.at; held = inside.held; seen = inside.seen })
need_by sight found r inside s kind scope need view is untaken sees =
    let same : (kind ≡ inside.kind) × (scope ≡ inside.scope) = subst (λ (t : BlockStep). WhenUntaken t ((kind ≡ inside.kind) × (scope ≡ inside.scope))) is untaken in
    rw (← view, same.0, same.1) (rw (same.0, same.1) at sees)

pub bad_by : (r inside : Reader) (bytes : List ℕ) (s : BlockStep) (kind : Option Kind) (scope : Scope) (ending : Ending) (left : Option (List ℕ)) (reason : Reason)
    → inside ≡ r → IsKept inside → IsLooked inside bytes s kind scope → s ≡ step.Bad reason → WhenUntaken s ((kind ≡ inside.kind) × (scope ≡ inside.scope))
    → ending ≡ damage_at inside.at reason
    → Ends ending r (record { kind = kind; scope = scope; number = inside.number; at = inside.at; held = inside.held; seen = inside.seen }) left left
bad_by r inside bytes s kind scope ending left reason view kept looked is untaken told =
    let same : (kind ≡ inside.kind) × (scope ≡ inside.scope) = subst (λ (t : BlockStep). WhenUntaken t ((kind ≡ inside.kind) × (scope ≡ inside.scope))) is untaken in
    rw (← view, told, same.0, same.1) (turn_bad inside left reason kept (looked_step inside bytes s (step.Bad reason) kind scope looked is).0)

pub found_by : (r inside : Reader) (bytes : List ℕ) (s : BlockStep) (kind : Option Kind) (scope : Scope) (left : Option (List ℕ)) (found : Found)
    → inside ≡ r → IsKept inside → IsLooked inside bytes s kind scope → s ≡ step.Item found → IsStepWithin s (length bytes)
    → WhenTaken s ((number : ℕ) → (at : ℕ) → IsPlaced kind scope number at) → IsStepTimely s
    → IsAtHand found r (record { kind = kind; scope = scope; number = inside.number; at = inside.at; held = inside.held; seen = inside.seen }) left left
found_by r inside bytes s kind scope left found view kept looked is within taken timely =
    let facts = looked_step inside bytes s (step.Item found) kind scope looked is in
    let bounds : IsStepWithin (step.Item found) (length inside.held) = subst (λ (t : BlockStep). IsStepWithin t (length inside.held)) is (subst (λ (b : List ℕ). IsStepWithin s (length b)) looked.held within) in
    let next_number : inside.number + 1 ≡ suc inside.number = omega arith in
    record {
      within = bounds;
      placed = subst (λ (t : BlockStep). WhenTaken t ((number : ℕ) → (at : ℕ) → IsPlaced kind scope number at)) is taken;
      finds = rw (← view, facts.1, facts.2, next_number) (turn_found inside left found kept facts.0 bounds.1 bounds.2);
      counts = counted_by r inside bytes (drop found.end inside.held) s kind scope (inside.number + 1) (frame_of inside.number found inside.held) found view looked.held is within timely refl refl;
    }

pub skipped_by : (r inside : Reader) (bytes held : List ℕ) (s : BlockStep) (kind : Option Kind) (scope : Scope) (left : Option (List ℕ)) (size : ℕ)
    → inside ≡ r → IsKept inside → IsLooked inside bytes s kind scope → s ≡ step.Skipped size → IsStepWithin s (length bytes)
    → held ≡ drop size inside.held
    → GoesOn r (record { kind = kind; scope = scope; number = inside.number; at = inside.at + size; held = held; seen = inside.seen }) left left
skipped_by r inside bytes held s kind scope left size view kept looked is within passed =
    let facts = looked_step inside bytes s (step.Skipped size) kind scope looked is in
    let bounds : IsStepWithin (step.Skipped size) (length inside.held) = subst (λ (t : BlockStep). IsStepWithin t (length inside.held)) is (subst (λ (b : List ℕ). IsStepWithin s (length b)) looked.held within) in
    rw (← view, facts.1, facts.2, passed) (turn_skipped inside left size kept facts.0 bounds.1)

-- however many bytes were seen behind those held, at most one was read past those that are looked at
few_beyond : (s : Seen) (place : ℕ) (beyond left : List ℕ) → place ≤ file_limit → IsSeenBehind s place beyond left → place + length beyond ≤ suc file_limit
few_beyond seen.Open place beyond left within behind = omega (arith, within, ap length behind)
few_beyond seen.Ended place beyond left within behind = omega (arith, within, ap length behind.0)
few_beyond seen.Beyond place beyond left within behind = omega (arith, behind.0, behind.1)

reading_few : (r : Reader) (left file : List ℕ) (past : List Frame) → IsReading r left file past → TookFew file (Some left)
reading_few r left file past reads = (
  reads.before ++ (r.held ++ reads.beyond),
  reads.whole ∙ ap (λ (bytes : List ℕ). reads.before ++ bytes) (sym (append_assoc r.held reads.beyond left)) ∙ sym (append_assoc reads.before (r.held ++ reads.beyond) left),
  omega (
    arith,
    length-append reads.before (r.held ++ reads.beyond),
    length-append r.held reads.beyond,
    reads.place,
    few_beyond r.seen (r.at + length r.held) reads.beyond left reads.within reads.behind,
  ),
)

-- a reader that stands for a file has taken few bytes of it
pub stands_few : (r : Reader) (left : Option (List ℕ)) (file : List ℕ) (past : List Frame) → Stands r left file past → TookFew file left
unfolding Stands
stands_few r None file past so = absurd so
stands_few r (Some left) file past so = reading_few r left file past so

-- reads behind the bytes held take few more
filling_few : (r : Reader) (left file : List ℕ) (past : List Frame) (new : Option (List ℕ)) → IsReading r left file past → r.seen ≡ seen.Open
    → TookAtMost (suc (file_limit - r.at) - length r.held) (Some left) new → TookFew file new
filling_few r left file past new reads is took =
    let none : reads.beyond ≡ [] = subst (λ (s : Seen). IsSeenBehind s (r.at + length r.held) reads.beyond left) is reads.behind in
    let whole : file ≡ (reads.before ++ r.held) ++ left = reads.whole ∙ ap (λ (bytes : List ℕ). reads.before ++ (r.held ++ (bytes ++ left))) none
    ∙ sym (append_assoc reads.before r.held left) in
    took_more (suc file_limit) (suc (file_limit - r.at) - length r.held) (Some file) (Some left) new (reads.before ++ r.held) whole took
    (omega (arith, length-append reads.before r.held, reads.place, reads.within))

pub filled_few : (r inside : Reader) (size limit : ℕ) (old new : Option (List ℕ)) → inside ≡ r
    → inside.seen ≡ seen.Open → size ≡ length inside.held → limit ≡ file_limit
    → TookAtMost (suc (limit - inside.at) - size) old new → TakesFew r old new
unfolding Stands
filled_few r inside size limit None new view is held limited took = λ file past so. absurd so
filled_few r inside size limit (Some left) new view is held limited took = λ file past so.
    filling_few inside left file past new (subst (λ (q : Reader). IsReading q left file past) (sym view) so) is
    (subst (λ (n : ℕ). TookAtMost (suc (file_limit - inside.at) - n) (Some left) new) held
    (subst (λ (m : ℕ). TookAtMost (suc (m - inside.at) - size) (Some left) new) limited took))
