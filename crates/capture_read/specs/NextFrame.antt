-- One step through a capture file.
use Rattle.std.specs.Prelude.{◌≡◌}
use Rattle.capture_read.specs.Capture.{Reading, ended, with_frame}
use Rattle.capture_read.specs.declared.next_frame.NextFrame.{NextFrame}
use Rattle.capture_read.specs.declared.next_frame.NextFrame.TheVariants as next

-- the step gives the first frame and leaves the others, or says how the file ends and leaves that
abbrev pub Gives : NextFrame → Reading → Reading → Type 0
Gives (next.Frame frame) old new = old ≡ with_frame frame new
Gives (next.End ending) old new = (old ≡ ended ending) × (new ≡ old)
