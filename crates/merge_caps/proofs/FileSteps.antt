-- Reading a file frame by frame.
use Rattle.std.proofs.Common.{◌≡◌, ◌≤◌, ℕ, ℤ, ◌+◌, ◌^◌, List, [], ◌∷◌, ◌++◌, length, Option, Some, None, IfSome, refl, sym, ap, ◌∙◌, append_assoc, append-nil, arith}
use Rattle.std.specs.Option.{option_or}
use Rattle.pk_base.specs.Limits.{file_limit}
use Rattle.capture_read.specs.Answers.{Answers}
use Rattle.capture_read.specs.Capture.{Reading, capture_of, ended}
use Rattle.capture_read.specs.FrameList.{captured_bytes}
use Rattle.capture_read.specs.Reader.{ReaderShown, StandsFor, with_past}
use Rattle.capture_read.specs.declared.ending.Ending.{Ending}
use Rattle.capture_read.specs.declared.frame.Frame.{Frame}
use Rattle.capture_read.specs.declared.next_frame.NextFrame.TheVariants as next
use Rattle.capture_write.specs.Kept.{in_order}
use Rattle.merge_caps.specs.declared.place.Entry.{Entry}
use Rattle.merge_caps.specs.Merged.{placed, placed_from}
use Rattle.merge_caps.specs.Reading.{ReadSoFar, with_frames}

pub limit_small : file_limit ≤ 2 ^ 28
unfolding file_limit
limit_small = omega arith

-- what the frames come to that were read, of which the newest stands first
abbrev pub past_latest : List Frame → Option ℤ
past_latest [] = None
past_latest (frame ∷ past) = option_or frame.time (past_latest past)

abbrev pub past_placed : ℕ → List Frame → List Entry
past_placed file [] = []
past_placed file (frame ∷ past) = past_placed file past ++ placed (past_latest past) file frame ∷ []

abbrev pub past_captured : List Frame → ℕ
past_captured [] = 0
past_captured (frame ∷ past) = past_captured past + length frame.bytes

all_read : (past : List Frame) (reading : Reading) → (with_past past reading).frames ≡ in_order past reading.frames
all_read [] reading = refl
all_read (frame ∷ past) reading = all_read past (record { frames = frame ∷ reading.frames; ending = reading.ending })

end_read : (past : List Frame) (reading : Reading) → (with_past past reading).ending ≡ reading.ending
end_read [] reading = refl
end_read (frame ∷ past) reading = end_read past (record { frames = frame ∷ reading.frames; ending = reading.ending })

all_entries : (file : ℕ) (past frames : List Frame) → past_placed file past ++ placed_from (past_latest past) file frames ≡ placed_from None file (in_order past frames)
all_entries file [] frames = refl
all_entries file (frame ∷ past) frames =
    append_assoc (past_placed file past) (placed (past_latest past) file frame ∷ []) (placed_from (option_or frame.time (past_latest past)) file frames)
    ∙ all_entries file past (frame ∷ frames)

all_captured : (past frames : List Frame) → past_captured past + captured_bytes frames ≡ captured_bytes (in_order past frames)
all_captured [] frames = omega arith
all_captured (frame ∷ past) frames =
    let sum : past_captured past + length frame.bytes + captured_bytes frames ≡ past_captured past + (length frame.bytes + captured_bytes frames) = omega arith in
    sum ∙ all_captured past (frame ∷ frames)

-- the frames of a file that were read since these readings
pub record IsReadTo (old now : ReadSoFar) (latest : Option ℤ) (r : ReaderShown) (left : Option (List ℕ)) (file : List ℕ) : Type 0 where
  pub past : List Frame
  pub stands : StandsFor r left file past
  pub latest_is : latest ≡ past_latest past
  pub entries : now.entries ≡ old.entries ++ past_placed (length old.endings) past
  pub captured : now.captured ≡ old.captured + past_captured past

-- the same of a file that the capture told when it was begun
abbrev pub AreReadTo : ReadSoFar → ReadSoFar → Option ℤ → ReaderShown → Option (List ℕ) → Option (List ℕ) → Type 0
AreReadTo old now latest r left told = IfSome told (λ file. IsReadTo old now latest r left file)

same_read : (now : ReadSoFar) (entries : List Entry) (endings : List Ending) (captured : ℕ) → now.entries ≡ entries → now.endings ≡ endings → now.captured ≡ captured
    → now ≡ record { entries = entries; endings = endings; captured = captured }
same_read now entries endings captured e f g = λ i. record { entries = e i; endings = f i; captured = g i }

pub read_ended : (old now : ReadSoFar) (latest : Option ℤ) (r after : ReaderShown) (left left_after told : Option (List ℕ)) (ending : Ending)
    → AreReadTo old now latest r left told → Answers (next.End ending) r after left left_after → now.endings ≡ old.endings
    → IfSome told (λ file. (now ≡ with_frames (capture_of file).frames old) × (ending ≡ (capture_of file).ending))
read_ended old now latest r after left left_after None ending read answers endings = tt
read_ended old now latest r after left left_after (Some file) ending read answers endings =
    let is : capture_of file ≡ with_past read.past (ended ending) = (answers file read.past read.stands).1 in
    let frames : in_order read.past [] ≡ (capture_of file).frames = sym (ap (λ (reading : Reading). reading.frames) is ∙ all_read read.past (ended ending)) in
    let entries : past_placed (length old.endings) read.past ≡ placed_from None (length old.endings) (capture_of file).frames =
    sym (append-nil (past_placed (length old.endings) read.past)) ∙ all_entries (length old.endings) read.past [] ∙ ap (placed_from None (length old.endings)) frames in
    let captured : past_captured read.past + 0 ≡ captured_bytes (capture_of file).frames = all_captured read.past [] ∙ ap captured_bytes frames in (
      same_read now (old.entries ++ placed_from None (length old.endings) (capture_of file).frames) old.endings (old.captured + captured_bytes (capture_of file).frames)
          (read.entries ∙ ap (λ (es : List Entry). old.entries ++ es) entries) endings (omega (arith, captured, read.captured)),
      sym (ap (λ (reading : Reading). reading.ending) is ∙ end_read read.past (ended ending)),
    )
