-- The numbers of a reader are small, and so are the times that it finds.
use Rattle.std.proofs.Common.{◌≡◌, ◌<◌, ◌≤◌, ◌+◌, ◌-◌, ◌^◌, ℕ, List, length, length-drop, take, drop, Option, Result, Ok, Err, refl, ap, subst, arith}
use Rattle.std.specs.Prelude.{IfOk, IfSome, IsErrOf, OnOk, OnErr}
use Rattle.std.proofs.lemmas.List.{length-take}
use Rattle.pk_base.specs.declared.found.Found.{Found}
use Rattle.pk_base.specs.Limits.{file_limit}
use Rattle.pk_base.specs.declared.memory.NoMemory.{NoMemory}
use Rattle.capture_formats.specs.Sections.{Scope, IsStepWithin}
use Rattle.capture_formats.specs.declared.step.BlockStep.{BlockStep}
use Rattle.capture_formats.specs.declared.step.BlockStep.TheVariants as step
use Rattle.capture_read.specs.Answers.{IsCounted, open_count, work_left}
use Rattle.capture_read.specs.Capture.{frame_of}
use Rattle.capture_read.specs.Fill.{IsFilled}
use Rattle.capture_read.specs.FrameList.{IsTime}
use Rattle.capture_read.specs.Offsets.{AreInterfaces, IsStepTimely}
use Rattle.capture_read.specs.declared.frame.Frame.{Frame}
use Rattle.capture_read.specs.declared.kind.Seen.TheVariants as seen
use Rattle.capture_read.specs.Reader.{Reader, IsKept, scope_then, step_here}
use Rattle.capture_read.specs.declared.kind.Kind.{Kind}
use Rattle.capture_read.specs.declared.kind.Seen.{Seen}
use Rattle.capture_read.specs.declared.read_error.ReadError.{ReadError}
use Rattle.capture_read.proofs.SmallTimes.{AreBytes, scope_then-offsets, step-timely}

below_limit : (n : ℕ) → n ≤ file_limit → n ≤ 2 ^ 28
unfolding file_limit
below_limit n few = few

pub number_few : (r : Reader) → IsKept r → r.number ≤ 2 ^ 28 + 1
number_few r kept = omega (arith, kept.few, below_limit r.at (omega (arith, kept.within)))

pub place_few : (r : Reader) → IsKept r → r.at + length r.held ≤ 2 ^ 28
place_few r kept = below_limit (r.at + length r.held) kept.within

-- a step moves the place by few bytes
abbrev pub IsStepFew : BlockStep → ℕ → Type 0
IsStepFew (step.Need n) at = Unit {0}
IsStepFew (step.Item found) at = at + found.end ≤ 2 ^ 28
IsStepFew (step.Skipped size) at = at + size ≤ 2 ^ 28
IsStepFew (step.Bad reason) at = Unit {0}

step_fits : (r : Reader) (t : BlockStep) → IsKept r → IsStepWithin t (length r.held) → IsStepFew t r.at
step_fits r (step.Need n) kept within = tt
step_fits r (step.Item found) kept within = omega (arith, place_few r kept, within.1)
step_fits r (step.Skipped size) kept within = omega (arith, place_few r kept, within.1)
step_fits r (step.Bad reason) kept within = tt

pub found_timely : (kind : Option Kind) (scope : Scope) (bytes : List ℕ) (result : Result BlockStep NoMemory) → AreBytes bytes
    → IfOk result (λ step. step ≡ step_here kind scope bytes) → IfOk result (λ step. AreInterfaces scope.interfaces → IsStepTimely step)
found_timely kind scope bytes (Ok step) are is = λ known. rw is (step-timely kind scope bytes are known)
found_timely kind scope bytes (Err error) are is = tt

pub kept_offsets : (kind : Option Kind) (old new : Scope) (bytes : List ℕ) (result : Result BlockStep NoMemory) → AreBytes bytes
    → OnOk result (new ≡ scope_then kind old bytes) → OnErr result (new ≡ old) → AreInterfaces old.interfaces → AreInterfaces new.interfaces
kept_offsets kind old new bytes (Ok step) are taken kept = λ known. rw taken (scope_then-offsets kind old bytes are known)
kept_offsets kind old new bytes (Err error) are taken kept = λ known. rw kept known

pub step_few : (r : Reader) (bytes : List ℕ) (s t : BlockStep) → IsKept r → bytes ≡ r.held → s ≡ t → IsStepWithin s (length bytes) → IsStepFew t r.at
step_few r bytes s t kept held is within =
    step_fits r t kept (subst (λ (u : BlockStep). IsStepWithin u (length r.held)) is (subst (λ (b : List ℕ). IsStepWithin s (length b)) held within))

-- a step in the bytes held
step_held : (inside : Reader) (bytes : List ℕ) (s t : BlockStep) → bytes ≡ inside.held → s ≡ t → IsStepWithin s (length bytes) → IsStepWithin t (length inside.held)
step_held inside bytes s t held is within =
    subst (λ (u : BlockStep). IsStepWithin u (length inside.held)) is (subst (λ (b : List ℕ). IsStepWithin s (length b)) held within)

-- the number and the place move on by the frame found
pub counted_by : (r inside : Reader) (bytes held : List ℕ) (s : BlockStep) (kind : Option Kind) (scope : Scope) (number : ℕ) (frame : Frame) (found : Found)
    → inside ≡ r → bytes ≡ inside.held → s ≡ step.Item found → IsStepWithin s (length bytes) → IsStepTimely s
    → number ≡ inside.number + 1 → frame ≡ frame_of inside.number found inside.held
    → IsCounted frame r (record { kind = kind; scope = scope; number = number; at = inside.at + found.end; held = held; seen = inside.seen })
counted_by r inside bytes held s kind scope number frame found view same is within timely counted told =
    let bounds = step_held inside bytes s (step.Item found) same is within in
    let few : length (take found.len (drop found.start inside.held)) ≤ found.len = omega (arith, length-take found.len (drop found.start inside.held)) in
    let time : IfSome found.time IsTime = subst IsStepTimely is timely in
    rw (← view, told) (record {
      number = refl;
      after = counted;
      bytes = omega (arith, few, bounds.2);
      moved = omega (arith, bounds.0);
      time = time;
    })

-- there is less to do behind a block that is passed over
pub lessened_by : (r inside : Reader) (bytes held : List ℕ) (s : BlockStep) (kind : Option Kind) (scope : Scope) (size : ℕ)
    → inside ≡ r → IsKept inside → bytes ≡ inside.held → s ≡ step.Skipped size → IsStepWithin s (length bytes) → held ≡ drop size inside.held
    → (inside.number ≡ r.number) × (r.at ≤ inside.at + size)
    × (work_left (record { kind = kind; scope = scope; number = inside.number; at = inside.at + size; held = held; seen = inside.seen }) < work_left r)
lessened_by r inside bytes held s kind scope size view kept same is within passed =
    let bounds = step_held inside bytes s (step.Skipped size) same is within in
    rw (← view, passed) (refl, omega arith, omega (arith, bounds.0, bounds.1, kept.within, length-drop size inside.held))

-- there is less to do once bytes were read behind those held
pub filled_lessens : (r inside : Reader) (bytes now : List ℕ) (limit : ℕ) (filled : List ℕ) (told : Seen) (need : ℕ) (old new : Option (List ℕ)) → inside ≡ r → IsKept inside
    → inside.seen ≡ seen.Open → bytes ≡ inside.held → limit ≡ file_limit → now ≡ filled
    → IsFilled bytes filled told need (limit - inside.at) old new
    → (inside.number ≡ r.number) × (r.at ≤ inside.at)
    × (work_left (record { kind = inside.kind; scope = inside.scope; number = inside.number; at = inside.at; held = now; seen = told }) < work_left r)
filled_lessens r inside bytes now limit filled told need old new view kept is held limited got more =
    let one : open_count inside.seen ≡ 1 = ap open_count is in
    let before : length bytes ≡ length inside.held = ap length held in
    rw (← view, got) (refl, omega arith, omega (arith, one, before, limited, kept.within, more.within, more.more))

-- an error is the same one in a result of another type
error_in : {T : Type 0} → ReadError → Result T ReadError → ReadError
error_in other (Ok value) = other
error_in other (Err error) = error

pub error_moves : {T U : Type 0} (one other : ReadError) → IsErrOf {T = T} {E = ReadError} (Err one) other → IsErrOf {T = U} {E = ReadError} (Err one) other
unfolding error_in
error_moves one other is = ap Err (ap (error_in one) is)
