-- The times of the frames before a frame.
use Rattle.std.specs.Prelude.{ℤ, ◌-ℤ◌, Option, Some, None, IfSome}
use Rattle.std.specs.Option.{unwrap_or}
use Rattle.capture_read.specs.FrameList.{IsTime}
use Rattle.app_layers.specs.declared.times.Times.{Times}

-- both times that are kept are such times
pub record AreTimes (times : Times) : Type 0 where
  pub first : IfSome times.first IsTime
  pub latest : IfSome times.latest IsTime

abbrev pub no_times : Times
no_times = record { first = None; latest = None }

-- the times behind one frame more; a frame without a time changes nothing
unfoldable pub with_time : Option ℤ → Times → Times
with_time None times = times
with_time (Some time) times = record { first = Some (unwrap_or times.first time); latest = Some time }

-- nanoseconds since an earlier time, or none where there is no earlier one
abbrev pub since : Option ℤ → ℤ → ℤ
since earlier time = time -ℤ unwrap_or earlier time
