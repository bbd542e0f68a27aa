use Rattle.std.proofs.Common.{◌≡◌, ◌-◌, length}
use Rattle.capture_read.specs.Capture.{held_part}
use Rattle.capture_read.specs.State.{rest_of, IsReached}
use Rattle.capture_read.proofs.state.take_frame.Given as goal

-- passing blocks over changes nothing of what is to come
abbrev pub invariant-loop-ending : goal.invariant-loop-ending
invariant-loop-ending l = record {
  rest : rest_of l.fn.file l.fn.format l.sections l.place ≡ rest_of l.fn.file l.fn.format l.fn.sections l.fn.place;
  reached : IsReached l.fn.file l.fn.format l.sections l.place;
}

abbrev pub decreases-loop-ending : goal.decreases-loop-ending
decreases-loop-ending l = length (held_part l.fn.file) - l.place.at
