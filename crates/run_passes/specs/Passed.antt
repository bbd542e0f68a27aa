-- What going over the frames of a begun file has done, by how it ends. The file is what the capture tells of it, if it does.
use Rattle.std.specs.Prelude.{◌≡◌, ℕ, List, [], Option, IfSome}
use Rattle.std.specs.Io.KnownBytes.{Appends}
use Rattle.pk_outside.specs.Outside.{AppendsPart, Rose}
use Rattle.capture_read.specs.Capture.{capture_of}
use Rattle.capture_read.specs.declared.ending.Ending.{Ending}
use Rattle.capture_read.specs.declared.frame.Frame.{Frame}
use Rattle.capture_write.specs.Kept.{Kept}
use Rattle.dissect.specs.Stands.{DissectorShown}
use Rattle.run_frames.specs.declared.frames.RunFault.{RunFault}
use Rattle.run_frames.specs.declared.frames.RunFault.TheVariants.{ReadFault, WriteFault, NoMemory}
use Rattle.run_frames.specs.declared.notes.Notes.{Notes}
use Rattle.run_frames.specs.declared.plan.Plan.{Plan}
use Rattle.run_frames.specs.declared.run_ending.RunEnding.{RunEnding}
use Rattle.run_frames.specs.Accessors.{most_of}
use Rattle.run_frames.specs.Fitting.{FramesRead, fitting}
use Rattle.run_frames.specs.Job.{Passes, job_in}
use Rattle.run_frames.specs.Pieces.{pieces}
use Rattle.run_passes.specs.Ended.{HasRead}
use Rattle.run_passes.specs.Reading.{frames_read, limited}
use Rattle.run_passes.specs.SoFar.{HoldsFewer, IsBrokenBehind, IfUnfit, IsFullNearOf, IsNextNearOf, WroteTakenBehind}
use Rattle.run_passes.specs.WrotePieces.{WrotePieces, WroteSomePieces}

-- no other file was asked for, begun or missed meanwhile
pub record IsReadOn (asked_old asked_new : List ℕ) (begun_old begun_new missed_old missed_new : ℕ) : Type 0 where
  pub asked : asked_new ≡ asked_old
  pub begun : begun_new ≡ begun_old
  pub missed : missed_new ≡ missed_old

-- no failed read and no failed write was counted
pub record IsCalm (reads_old reads_new writes_old writes_new : ℕ) : Type 0 where
  pub reads : reads_new ≡ reads_old
  pub writes : writes_new ≡ writes_old

-- what a fault comes from: a read or a write that failed, and nothing of the other kind; where there is no memory, nothing failed
abbrev pub IsCaused : (reads_old reads_new writes_old writes_new : ℕ) → RunFault → Type 0
IsCaused reads_old reads_new writes_old writes_new ReadFault = Rose reads_old reads_new × (writes_new ≡ writes_old)
IsCaused reads_old reads_new writes_old writes_new WriteFault = Rose writes_old writes_new × (reads_new ≡ reads_old)
IsCaused reads_old reads_new writes_old writes_new NoMemory = IsCalm reads_old reads_new writes_old writes_new

-- the same where nothing is written, and where nothing is read
abbrev pub IsReadCaused : (old new : ℕ) → RunFault → Type 0
IsReadCaused old new ReadFault = Rose old new
IsReadCaused old new WriteFault = ⊥
IsReadCaused old new NoMemory = new ≡ old

abbrev pub IsWriteCaused : (old new : ℕ) → RunFault → Type 0
IsWriteCaused old new ReadFault = ⊥
IsWriteCaused old new WriteFault = Rose old new
IsWriteCaused old new NoMemory = new ≡ old

-- these are the frames that are read, and how they end
abbrev pub AreKept : Plan → Option (List ℕ) → List Frame → Ending → Type 0
AreKept plan told frames ending = IfSome told (λ file. limited (most_of plan) (capture_of file) ≡ record { frames = frames; ending = ending })

-- all that is written of the frames was written, and they end so
abbrev pub HavePassed : Plan → (told old new : Option (List ℕ)) → RunEnding → Type 0
HavePassed plan told old new ending =
    IfSome told (λ file. WrotePieces plan (frames_read plan file) old new × (ending ≡ (frames_read plan file).ending))

-- a front of it was
abbrev pub HaveBegun : Plan → (told old new : Option (List ℕ)) → Type 0
HaveBegun plan told old new = IfSome told (λ file. WroteSomePieces plan (frames_read plan file) old new)

-- the frames were taken and noted
abbrev pub AreRead : Plan → Option (List ℕ) → DissectorShown → Notes → Kept → Type 0
AreRead plan told d notes kept = IfSome told (λ file. HasRead plan file d notes kept)

-- where as many frames are there as are asked for, the bytes taken end near the last of them
abbrev pub AreFullNear : Plan → (told left : Option (List ℕ)) → Type 0
AreFullNear plan told left = IfSome told (λ file. IsFullNearOf plan file left)

-- the same, and where a frame doesn't fit they end near it
abbrev pub AreEndNear : Plan → (told left : Option (List ℕ)) → RunEnding → Type 0
AreEndNear plan told left ending = AreFullNear plan told left × IfUnfit ending (IfSome told (λ file. IsNextNearOf plan file left))

-- where a read fails, what was written of the frames in the bytes taken
abbrev pub AreUnread : Plan → (told left old new : Option (List ℕ)) → Type 0
AreUnread plan told left old new = IfSome told (λ file. WroteTakenBehind [] plan file left old new)

-- where a fault ends it: what was written of the frames in the bytes taken, or of a frame that these end near
abbrev pub AreCutOff : Plan → (told left old new : Option (List ℕ)) → RunFault → Type 0
AreCutOff plan told left old new ReadFault = AreUnread plan told left old new
AreCutOff plan told left old new WriteFault = IfSome told (λ file. IsBrokenBehind [] plan file left old new)
AreCutOff plan told left old new NoMemory = Unit {0}

-- where a fault ends the keeping of frames, the bytes taken hold fewer than are asked for
abbrev pub AreFewer : Plan → (told left : Option (List ℕ)) → RunFault → Type 0
AreFewer plan told left ReadFault = IfSome told (λ file. HoldsFewer plan file left)
AreFewer plan told left WriteFault = Unit {0}
AreFewer plan told left NoMemory = Unit {0}

-- what is read of kept frames, in such passes
abbrev pub kept_read : Plan → Passes → List Frame → Ending → FramesRead
kept_read plan passes frames ending = fitting (job_in plan passes) [] frames ending

-- all that is written of them was written, and they end so
abbrev pub HavePassedKept : Plan → Passes → List Frame → Ending → (old new : Option (List ℕ)) → RunEnding → Type 0
HavePassedKept plan passes frames ending old new end =
    Appends old new (pieces (job_in plan passes) [] (kept_read plan passes frames ending).frames)
    × (end ≡ (kept_read plan passes frames ending).ending)

-- a front of it was
abbrev pub HaveBegunKept : Plan → Passes → List Frame → Ending → (old new : Option (List ℕ)) → Type 0
HaveBegunKept plan passes frames ending old new = AppendsPart old new (pieces (job_in plan passes) [] (kept_read plan passes frames ending).frames)
