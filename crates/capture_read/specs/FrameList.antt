-- How many bytes frames have, and how great their times are.
use Rattle.std.specs.Prelude.{ℕ, ◌+◌, ◌^◌, ◌<◌, ℤ, nat_abs, List, [], ◌∷◌, length, IfSome}
use Rattle.capture_read.specs.declared.frame.Frame.{Frame}

-- how many bytes were captured of all of them
abbrev pub captured_bytes : List Frame → ℕ
captured_bytes [] = 0
captured_bytes (frame ∷ frames) = length frame.bytes + captured_bytes frames

-- nanoseconds strictly between -2^96 and 2^96: more than any capture file can say
abbrev pub IsTime : ℤ → Type 0
IsTime time = nat_abs time < 2 ^ 96

-- each frame's time is such a time, where there is one
abbrev pub AreTimesSmall : List Frame → Type 0
AreTimesSmall [] = Unit {0}
AreTimesSmall (frame ∷ frames) = IfSome frame.time IsTime × AreTimesSmall frames
