-- A reader and a dissector that go through a file together: the dissector can take what the reader answers.
use Rattle.std.proofs.Common.{◌≡◌, ◌≤◌, ℕ, ◌+◌, ◌^◌, List, length, arith}
use Rattle.std.specs.Prelude.{IfSome}
use Rattle.pk_base.specs.Limits.{file_limit}
use Rattle.capture_read.specs.Answers.{IsCounted}
use Rattle.capture_read.specs.Reader.{Reader}
use Rattle.capture_read.specs.declared.frame.Frame.{Frame}
use Rattle.dissect.specs.Stands.{DissectorShown, StandsWithin}
use Rattle.capture_read.specs.FrameList.{IsTime}
use Rattle.run_frames.specs.declared.notes.Notes.{Notes}
use Rattle.run_frames.specs.Notes.{AreFewNotes}
use Rattle.run_frames.specs.Ended.{HasTaken}
use Rattle.run_frames.proofs.NoteLemmas.{notes_few}

pub record AreTogether (r : Reader) (d : DissectorShown) : Type 0 where
  pub number : r.number ≡ d.taken + 1
  pub captured : d.captured ≤ r.at
  pub taken : d.taken ≤ r.at
  pub limit : r.at ≤ file_limit

below_limit : (n : ℕ) → n ≤ file_limit → n ≤ 2 ^ 28
unfolding file_limit
below_limit n few = few

-- what was counted of the frames taken
pub few_taken : (r : Reader) (d : DissectorShown) (t : Notes) → AreTogether r d → AreFewNotes d.taken t → AreFewNotes (2 ^ 28) t
few_taken r d t are few = notes_few d.taken (2 ^ 28) t (omega (arith, are.taken, below_limit r.at are.limit)) few

-- the dissector has taken frames
pub has_taken : (r : Reader) (d : DissectorShown) → AreTogether r d → (stands : (past : List Frame) × StandsWithin past d) → HasTaken d
has_taken r d are stands = (stands.0, stands.1, omega (arith, are.taken, are.limit))

-- the next frame can be taken
pub takeable : (r after : Reader) (d : DissectorShown) (frame : Frame) → AreTogether r d → IsCounted frame r after → after.at ≤ file_limit
    → (frame.number ≡ d.taken + 1) × IfSome frame.time IsTime × (d.captured + length frame.bytes ≤ 2 ^ 28)
takeable r after d frame are counted limit = (
  omega (arith, counted.number, are.number),
  counted.time,
  omega (arith, below_limit after.at limit, counted.bytes, are.captured),
)

pub together_after : (r after : Reader) (d taken : DissectorShown) (frame : Frame) → AreTogether r d → IsCounted frame r after → after.at ≤ file_limit
    → taken.taken ≡ d.taken + 1 → taken.captured ≡ d.captured + length frame.bytes → AreTogether after taken
together_after r after d taken frame are counted limit number captured = record {
  number = omega (arith, counted.after, are.number, number);
  captured = omega (arith, counted.bytes, are.captured, captured);
  taken = omega (arith, counted.moved, are.taken, number);
  limit = limit;
}
