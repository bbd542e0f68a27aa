use Rattle.std.proofs.Common.{◌≡◌, ◌^◌, ◌-◌, min, take}
use Rattle.stream_messages.specs.Framers.{number_of}
use Rattle.stream_messages.proofs.framer.number_of.Given as goal

-- the bytes so far
abbrev pub invariant-loop-byte : goal.invariant-loop-byte
invariant-loop-byte l = l.number ≡ min (number_of (take l.byte-index l.bytes)) (2 ^ 64 - 1)
