-- How many frames are written, and what is read of their file.
use Rattle.std.proofs.Common.{◌≡◌, ◌<◌, ℕ, suc, Bool, true, false, List, [], ◌∷◌, length, take, Option, Some, None, refl, sym, ap, ◌∙◌, subst, arith}
use Rattle.std.specs.Prelude.{◌&&◌, if◌then◌else◌}
use Rattle.std.specs.Io.KnownBytes.{Appends}
use Rattle.capture_read.specs.Capture.{capture_of}
use Rattle.capture_read.specs.declared.frame.Frame.{Frame}
use Rattle.capture_write.specs.Frames.{AreFrames}
use Rattle.capture_write.specs.Kept.{Kept, nothing_kept, kept_with, fits_at, fits}
use Rattle.capture_write.specs.ReadBack.{IsReadingOf}
use Rattle.capture_write.specs.declared.format.Format.{Format}
use Rattle.capture_write.proofs.HeldLaws.{fitting_read_back}
use Rattle.capture_write.proofs.KeptLaws.{fits_from, whole-fit}
use Rattle.merge_caps.specs.declared.place.Entry.{Entry}
use Rattle.merge_caps.specs.declared.status.MergeStatus.{MergeStatus}
use Rattle.merge_caps.specs.declared.status.MergeStatus.TheVariants.{Done, Damaged, CannotWrite}
use Rattle.merge_caps.specs.ByTime.{IsByTime, IsFront, WroteByTime}
use Rattle.merge_caps.specs.Merged.{frames_of}
use Rattle.merge_caps.specs.Statuses.{written_status}
use Rattle.merge_caps.specs.Written.{file_of, first_unfit, fitting, fitting_from, unfit_from}

-- how many frames stand before the first that doesn't fit
abbrev pub count_from : Kept → List Frame → ℕ
count_from kept [] = 0
count_from kept (frame ∷ frames) = if fits_at kept frame then suc (count_from (kept_with kept frame) frames) else 0

fitting_front : (kept : Kept) (frames : List Frame) → fitting_from kept frames ≡ take (count_from kept frames) frames
fitting_front kept [] = refl
fitting_front kept (frame ∷ frames) = by (fits_at kept frame) (fitting_front (kept_with kept frame) frames)
  where
    by : (b : Bool) → fitting_from (kept_with kept frame) frames ≡ take (count_from (kept_with kept frame) frames) frames
        → (if b then frame ∷ fitting_from (kept_with kept frame) frames else [])
        ≡ take (if b then suc (count_from (kept_with kept frame) frames) else 0) (frame ∷ frames)
    by true same = ap (λ (l : List Frame). frame ∷ l) same
    by false same = refl

-- they fit
front_fits : (kept : Kept) (frames : List Frame) → fits_from kept (fitting_from kept frames) ≡ true
front_fits kept [] = refl
front_fits kept (frame ∷ frames) = by (fits_at kept frame) refl (front_fits (kept_with kept frame) frames)
  where
    by : (b : Bool) → fits_at kept frame ≡ b → fits_from (kept_with kept frame) (fitting_from (kept_with kept frame) frames) ≡ true
        → fits_from kept (if b then frame ∷ fitting_from (kept_with kept frame) frames else []) ≡ true
    by true is rest = ap (λ (b : Bool). b && fits_from (kept_with kept frame) (fitting_from (kept_with kept frame) frames)) is ∙ rest
    by false is rest = refl

-- these are all frames, or the next one doesn't fit
abbrev pub Stops : Kept → List Frame → ℕ → Option ℕ → Type 0
Stops kept frames count None = count ≡ length frames
Stops kept frames count (Some number) = (count < length frames) × (fits_from kept (take (suc count) frames) ≡ false)

stops_from : (number : ℕ) (kept : Kept) (frames : List Frame) → Stops kept frames (count_from kept frames) (unfit_from number kept frames)
stops_from number kept [] = refl
stops_from number kept (frame ∷ frames) =
    by (fits_at kept frame) refl (unfit_from (suc number) (kept_with kept frame) frames) (stops_from (suc number) (kept_with kept frame) frames)
  where
    by : (b : Bool) → fits_at kept frame ≡ b → (o : Option ℕ) → Stops (kept_with kept frame) frames (count_from (kept_with kept frame) frames) o
        → Stops kept (frame ∷ frames) (if b then suc (count_from (kept_with kept frame) frames) else 0) (if b then o else Some number)
    by true is None stops = ap suc stops
    by true is (Some n) stops = (
      omega (arith, stops.0),
      ap (λ (b : Bool). b && fits_from (kept_with kept frame) (take (suc (count_from (kept_with kept frame) frames)) frames)) is ∙ stops.1,
    )
    by false is o stops = (omega arith, ap (λ (b : Bool). b && fits_from (kept_with kept frame) []) is)

front_is : (format : Format) (answer : MergeStatus) (frames : List Frame) (count : ℕ) (unfit : Option ℕ) (damaged : Bool)
    → fits format (take count frames) ≡ true → answer ≡ written_status unfit damaged → Stops (nothing_kept format) frames count unfit
    → IsFront format answer frames count
front_is format answer frames count (Some number) damaged fit is stops = record {
  fit = fit;
  all = λ other. absurd (other is);
  unfit = λ same. (stops.0, sym (whole-fit format (take (suc count) frames)) ∙ stops.1);
}
front_is format answer frames count None true fit is stops = record {
  fit = fit;
  all = λ other. stops;
  unfit = λ same. let bad : Damaged ≡ CannotWrite = sym is ∙ same in absurd (cc bad);
}
front_is format answer frames count None false fit is stops = record {
  fit = fit;
  all = λ other. stops;
  unfit = λ same. let bad : Done ≡ CannotWrite = sym is ∙ same in absurd (cc bad);
}

-- the file of frames in the order of their times
pub wrote_by_time : (format : Format) (files : List (List ℕ)) (order : List Entry) (unfit : Option ℕ) (damaged : Bool) (answer : MergeStatus) (old new : Option (List ℕ))
    → IsByTime files order → unfit ≡ first_unfit format (frames_of order) → answer ≡ written_status unfit damaged
    → Appends old new (file_of format (frames_of order)) → AreFrames (fitting format (frames_of order)) → WroteByTime format files answer old new
unfolding file_of fitting first_unfit
wrote_by_time format files order unfit damaged answer old new by is status wrote small =
    let front : fitting_from (nothing_kept format) (frames_of order) ≡ take (count_from (nothing_kept format) (frames_of order)) (frames_of order) =
    fitting_front (nothing_kept format) (frames_of order) in
    let fit : fits format (fitting_from (nothing_kept format) (frames_of order)) ≡ true =
    sym (whole-fit format (fitting_from (nothing_kept format) (frames_of order))) ∙ front_fits (nothing_kept format) (frames_of order) in
    let stops : Stops (nothing_kept format) (frames_of order) (count_from (nothing_kept format) (frames_of order)) unfit =
    subst (λ (o : Option ℕ). Stops (nothing_kept format) (frames_of order) (count_from (nothing_kept format) (frames_of order)) o) (sym is)
    (stops_from 1 (nothing_kept format) (frames_of order)) in
    record {
      order = order;
      by_time = by;
      count = count_from (nothing_kept format) (frames_of order);
      front = front_is format answer (frames_of order) (count_from (nothing_kept format) (frames_of order)) unfit damaged
          (subst (λ (frames : List Frame). fits format frames ≡ true) front fit) status stops;
      bytes = file_of format (frames_of order);
      wrote = wrote;
      read = λ few.
          subst (λ (frames : List Frame). IsReadingOf frames (capture_of (file_of format (frames_of order)))) front
          (fitting_read_back format (fitting_from (nothing_kept format) (frames_of order)) small fit few);
    }
