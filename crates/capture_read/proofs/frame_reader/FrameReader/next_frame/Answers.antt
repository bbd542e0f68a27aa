use Rattle.std.proofs.Common.{◌≡◌, ℕ, List, Option, subst, sym}
use Rattle.capture_read.specs.Reader.{ReaderShown, Stands, StandsFor}
use Rattle.capture_read.specs.declared.frame.Frame.{Frame}
use Rattle.capture_read.proofs.ReaderBounds.{error_moves}
use Rattle.capture_read.proofs.ReaderTurns.{stands_few}
use Rattle.capture_read.proofs.frame_reader.FrameReader.next_frame.Goals as goal

stands_of : (shown now : ReaderShown) (left : Option (List ℕ)) (file : List ℕ) (past : List Frame) → shown ≡ now → StandsFor now left file past → Stands shown.state left file past
stands_of shown now left file past is so = subst (λ (r : ReaderShown). Stands r.state left file past) (sym is) so.0

pub returns-in-Ended-clause-took : goal.returns-in-Ended-clause-took
returns-in-Ended-clause-took g c = λ file past so. stands_few c.args.self.now.state (g.C.Capture.left c.args.capture.now) file past so.0

pub returns-in-Spent-clause-took : goal.returns-in-Spent-clause-took
returns-in-Spent-clause-took g c = λ file past so. stands_few c.args.self.now.state (g.C.Capture.left c.args.capture.now) file past so.0

pub returns-in-Err-clause-fails : goal.returns-in-Err-clause-fails
returns-in-Err-clause-fails g c = λ is file past so.
    c.in-Err.ensures.fails (error_moves c.in-Err.error _ is) file past (stands_of _ c.args.self.now (g.C.Capture.left c.args.capture.now) file past c.self.view_is so)

pub returns-in-Err-clause-took : goal.returns-in-Err-clause-took
returns-in-Err-clause-took g c = λ file past so.
    c.find_next.ensures.took file past (stands_of _ c.args.self.now (g.C.Capture.left c.args.capture.now) file past c.self.view_is so)

pub returns-in-Ok-End-clause-took : goal.returns-in-Ok-End-clause-took
returns-in-Ok-End-clause-took g c = λ file past so.
    c.find_next.ensures.took file past (stands_of _ c.args.self.now (g.C.Capture.left c.args.capture.now) file past c.self.view_is so)

pub returns-in-Ok-End-clause-answers : goal.returns-in-Ok-End-clause-answers
returns-in-Ok-End-clause-answers g c = λ file past so.
    let found = (rw c.in-Ok-End.field-0-is at c.in-Ok-End.ensures.meets) file past (stands_of _ c.args.self.now (g.C.Capture.left c.args.capture.now) file past c.self.view_is so) in
    ((found.0, found.1), found.1)
