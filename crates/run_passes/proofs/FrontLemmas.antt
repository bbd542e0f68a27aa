-- The frames of a reading up to a limit, one by one.
use Rattle.std.proofs.Common.{◌≡◌, ◌≢◌, ℕ, zero, suc, ◌-◌, Bool, true, false, Option, None, Some, length, refl, sym, ◌∙◌, ap, arith, nat_le}
use Rattle.std.specs.Option.{option_map}
use Rattle.std.proofs.Math.Dec.{leb-suc-suc}
use Rattle.capture_read.specs.Capture.{Reading, with_frame}
use Rattle.capture_read.specs.declared.frame.Frame.{Frame}
use Rattle.run_passes.specs.Reading.{front_if, limited}

first_of_front : (b : Bool) (n : ℕ) (frame : Frame) (reading : Reading) →
    front_if b (suc n) (with_frame frame reading) ≡ with_frame frame (front_if b n reading)
first_of_front true n frame reading = refl
first_of_front false n frame reading = refl

pub limited_frame : (most : Option ℕ) (frame : Frame) (reading : Reading) → most ≢ Some 0 →
    limited most (with_frame frame reading) ≡ with_frame frame (limited (option_map (λ n. n - 1) most) reading)
limited_frame None frame reading some = refl
limited_frame (Some zero) frame reading some = absurd (some refl)
limited_frame (Some (suc n)) frame reading some =
    let less : suc n - 1 ≡ n = omega arith in
    ap (λ (b : Bool). front_if b (suc n) (with_frame frame reading)) (leb-suc-suc n (length reading.frames))
    ∙ first_of_front (nat_le n (length reading.frames)) n frame reading
    ∙ ap (λ (m : ℕ). with_frame frame (limited (Some m) reading)) (sym less)
