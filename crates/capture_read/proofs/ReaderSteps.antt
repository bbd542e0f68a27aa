-- A reader that goes on stands for the same file.
use Rattle.std.proofs.Common.{◌≡◌, ◌<◌, ◌≤◌, ℕ, ◌+◌, ◌-◌, Bool, true, false, nat_lt, List, [], ◌∷◌, ◌++◌, length, take, Option, refl, sym, ap, ◌∙◌, subst, arith}
use Rattle.std.proofs.lemmas.List.{length-take, take-append-le, take-take}
use Rattle.std.proofs.Math.Seq.{take-append-add}
use Rattle.pk_base.specs.Limits.{file_limit}
use Rattle.pk_base.proofs.Choices.{is_less, isn't_less, less}
use Rattle.pk_base.proofs.SameFront.{IsSameFront}
use Rattle.capture_formats.specs.Sections.{Scope, IsStepWithin}
use Rattle.capture_formats.specs.declared.step.BlockStep.{BlockStep}
use Rattle.capture_formats.specs.declared.step.BlockStep.TheVariants as step
use Rattle.capture_read.specs.Capture.{Reading, capture_of, is_large, with_frame}
use Rattle.capture_read.specs.Reader.{Reader, IsOver, IsPlaced, HasFew, cut_here, kind_then, reading_here, scope_then, step_here, with_past}
use Rattle.capture_read.specs.declared.ending.Ending.{Ending}
use Rattle.capture_read.specs.declared.frame.Frame.{Frame}
use Rattle.capture_read.specs.declared.kind.Kind.{Kind}
use Rattle.capture_read.proofs.HereSteps.{after_step, follows_here, here_steps}
use Rattle.capture_read.proofs.SameSteps.{IsStepDecided, step_same, step_within}

-- how many frames there are behind those answered
pub length-with_past : (past : List Frame) (reading : Reading) → length (with_past past reading).frames ≡ length past + length reading.frames
length-with_past [] reading = omega arith
length-with_past (frame ∷ past) reading = omega (arith, length-with_past past (with_frame frame reading))

-- a step that ends the file
abbrev IsCut : BlockStep → Type 0
IsCut (step.Need n) = Unit {0}
IsCut (step.Bad reason) = Unit {0}
IsCut (step.Item found) = ⊥
IsCut (step.Skipped size) = ⊥

-- so many bytes are fewer than the step needs
abbrev pub IsSoon : BlockStep → ℕ → Type 0
IsSoon (step.Need m) n = n < m
IsSoon (step.Item found) n = n < found.end
IsSoon (step.Skipped size) n = n < size
IsSoon (step.Bad reason) n = Unit {0}

soon_less : (s : BlockStep) (n m : ℕ) → IsSoon s m → n ≤ m → IsSoon s n
soon_less (step.Need k) n m soon less = omega (arith, soon, less)
soon_less (step.Item found) n m soon less = omega (arith, soon, less)
soon_less (step.Skipped size) n m soon less = omega (arith, soon, less)
soon_less (step.Bad reason) n m soon less = tt

-- bytes that end before the step does, and those held are their front
later_step : (kind : Option Kind) (scope : Scope) (xs ys : List ℕ) → IsSameFront (length xs) xs ys → IsSoon (step_here kind scope xs) (length ys)
    → IsCut (step_here kind scope ys)
later_step kind scope xs ys front soon =
    elim (step_here kind scope xs) as (λ s. step_here kind scope xs ≡ s → IsSoon s (length ys) → IsCut (step_here kind scope ys)) [
      | step.Need m ↦ λ is soon. subst IsCut (sym (step_same kind scope (length xs) xs ys front
          (subst (λ (s : BlockStep). IsStepDecided s (length xs) (length xs) (length ys)) (sym is) (omega arith, soon)) ∙ is)) tt
      | step.Bad reason ↦ λ is soon. subst IsCut (sym (step_same kind scope (length xs) xs ys front
          (subst (λ (s : BlockStep). IsStepDecided s (length xs) (length xs) (length ys)) (sym is) (omega arith)) ∙ is)) tt
      | step.Item found ↦ λ is soon.
          let within : IsStepWithin (step.Item found) (length xs) = subst (λ (s : BlockStep). IsStepWithin s (length xs)) is (step_within kind scope xs) in
          absurd (omega (arith, within.1, soon, front.other))
      | step.Skipped size ↦ λ is soon.
          let within : IsStepWithin (step.Skipped size) (length xs) = subst (λ (s : BlockStep). IsStepWithin s (length xs)) is (step_within kind scope xs) in
          absurd (omega (arith, within.1, soon, front.other))
    ] refl soon

-- bytes that end before the step does, and are the front of those held
earlier_step : (kind : Option Kind) (scope : Scope) (xs ys : List ℕ) → IsSameFront (length ys) ys xs → IsSoon (step_here kind scope xs) (length ys)
    → IsCut (step_here kind scope ys)
earlier_step kind scope xs ys front soon =
    elim (step_here kind scope ys) as (λ s. step_here kind scope ys ≡ s → IsCut s) [
      | step.Need m ↦ λ is. tt
      | step.Bad reason ↦ λ is. tt
      | step.Item found ↦ λ is.
          let within : IsStepWithin (step.Item found) (length ys) = subst (λ (s : BlockStep). IsStepWithin s (length ys)) is (step_within kind scope ys) in
          let same : step_here kind scope xs ≡ step.Item found = step_same kind scope (length ys) ys xs front
          (subst (λ (s : BlockStep). IsStepDecided s (length ys) (length ys) (length xs)) (sym is) within.1) ∙ is in
          let late : IsSoon (step.Item found) (length ys) = subst (λ (s : BlockStep). IsSoon s (length ys)) same soon in
          absurd (omega (arith, within.1, late))
      | step.Skipped size ↦ λ is.
          let within : IsStepWithin (step.Skipped size) (length ys) = subst (λ (s : BlockStep). IsStepWithin s (length ys)) is (step_within kind scope ys) in
          let same : step_here kind scope xs ≡ step.Skipped size = step_same kind scope (length ys) ys xs front
          (subst (λ (s : BlockStep). IsStepDecided s (length ys) (length ys) (length xs)) (sym is) within.1) ∙ is in
          let late : IsSoon (step.Skipped size) (length ys) = subst (λ (s : BlockStep). IsSoon s (length ys)) same soon in
          absurd (omega (arith, within.1, late))
    ] refl

-- the bytes are a front of others
abbrev IsFront : List ℕ → List ℕ → Type 0
IsFront xs all = (n : ℕ) → n ≤ length xs → take n xs ≡ take n all

fronts_same : (all xs ys : List ℕ) (n : ℕ) → IsFront xs all → IsFront ys all → n ≤ length xs → n ≤ length ys → IsSameFront n xs ys
fronts_same all xs ys n x y one other = record { one = one; other = other; same = x n one ∙ sym (y n other) }

no_step : (kind : Option Kind) (scope : Scope) (all xs ys : List ℕ) → IsFront xs all → IsFront ys all → IsSoon (step_here kind scope xs) (length ys)
    → IsCut (step_here kind scope ys)
no_step kind scope all xs ys x y soon = by_length (nat_lt (length xs) (length ys)) refl
  where
    by_length : (shorter : Bool) → nat_lt (length xs) (length ys) ≡ shorter → IsCut (step_here kind scope ys)
    by_length true is =
        let longer : length xs < length ys = is_less (length xs) (length ys) is in
        later_step kind scope xs ys (fronts_same all xs ys (length xs) x y (omega arith) (omega (arith, longer))) soon
    by_length false is =
        let shorter : length ys ≤ length xs = isn't_less (length xs) (length ys) is in
        earlier_step kind scope xs ys (fronts_same all ys xs (length ys) y x (omega arith) shorter) soon

pub front-append : (xs more : List ℕ) → IsFront xs (xs ++ more)
front-append xs more = λ n within. sym (take-append-le n xs more within)

front-take : (m : ℕ) (xs all : List ℕ) → IsFront xs all → IsFront (take m xs) all
front-take m xs all x = λ n within.
    let few : n ≤ m = omega (arith, within, length-take m xs) in
    take-take n m xs few ∙ x n (omega (arith, within, length-take m xs))

front-all : (all : List ℕ) → IsFront all all
front-all all = λ n within. refl

no_frames : (number at : ℕ) (bytes : List ℕ) (follows : ℕ → ℕ → Reading) (cut : Ending) (s : BlockStep) → IsCut s
    → length (after_step number at bytes follows cut s).frames ≡ 0
no_frames number at bytes follows cut (step.Need n) is = refl
no_frames number at bytes follows cut (step.Bad reason) is = refl
no_frames number at bytes follows cut (step.Item found) is = absurd is
no_frames number at bytes follows cut (step.Skipped size) is = absurd is

-- what a file stands for, by the step at the reader's place
pub over_step : (r : Reader) (before : List ℕ) (past : List Frame) → IsPlaced r.kind r.scope r.number r.at → IsOver r before past → (more ys : List ℕ)
    → take (file_limit - r.at) more ≡ ys
    → capture_of (before ++ more) ≡ with_past past (after_step r.number r.at ys
    (follows_here (is_large (before ++ more)) (kind_then (step_here r.kind r.scope ys) r.kind ys) (scope_then r.kind r.scope ys) r.at ys)
    (cut_here r.kind (is_large (before ++ more)) r.at ys) (step_here r.kind r.scope ys))
over_step r before past placed over more ys is =
    over more
    ∙ ap (λ (bytes : List ℕ). with_past past (reading_here (is_large (before ++ more)) r.kind r.scope r.number r.at bytes)) is
    ∙ ap (with_past past) (here_steps (is_large (before ++ more)) r.kind r.scope r.number r.at ys placed)

-- a front of the file that ends before the step does holds no frame more
pub few_front : (r : Reader) (before rest file : List ℕ) (past : List Frame) (xs : List ℕ) → IsPlaced r.kind r.scope r.number r.at → IsOver r before past
    → file ≡ before ++ rest → length before ≡ r.at → IsFront xs rest → (front : ℕ) → r.at ≤ front → IsSoon (step_here r.kind r.scope xs) (front - r.at)
    → HasFew file past front
few_front r before rest file past xs placed over whole place x front behind soon =
    let more : List ℕ = take (front - r.at) rest in
    let ys : List ℕ = take (file_limit - r.at) (take (front - r.at) rest) in
    let sum : front ≡ length before + (front - r.at) = omega (arith, place, behind) in
    let cut : take front file ≡ before ++ take (front - r.at) rest =
    ap (λ (n : ℕ). take n file) sum ∙ ap (take (length before + (front - r.at))) whole ∙ take-append-add before rest (front - r.at) in
    let short : length ys ≤ front - r.at = omega (arith, length-take (file_limit - r.at) (take (front - r.at) rest), length-take (front - r.at) rest) in
    let is : IsCut (step_here r.kind r.scope ys) = no_step r.kind r.scope rest xs ys x
    (front-take (file_limit - r.at) (take (front - r.at) rest) rest (front-take (front - r.at) rest rest (front-all rest)))
    (soon_less (step_here r.kind r.scope xs) (length ys) (front - r.at) soon short) in
    let all = over_step r before past placed over more ys refl in
    let frames = no_frames r.number r.at ys
    (follows_here (is_large (before ++ more)) (kind_then (step_here r.kind r.scope ys) r.kind ys) (scope_then r.kind r.scope ys) r.at ys)
    (cut_here r.kind (is_large (before ++ more)) r.at ys) (step_here r.kind r.scope ys) is in
    let count : length (capture_of (take front file)).frames ≡ length past + 0 =
    ap (λ (bytes : List ℕ). length (capture_of bytes).frames) cut ∙ ap (λ (reading : Reading). length reading.frames) all
    ∙ length-with_past past _ ∙ ap (λ (n : ℕ). length past + n) frames in
    omega (arith, count)
