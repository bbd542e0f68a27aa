use Rattle.std.proofs.Common.{◌≡◌, take}
use Rattle.tcp_streams.proofs.way.Way.stretches.Given as goal

abbrev pub invariant-loop-stretch : goal.invariant-loop-stretch
invariant-loop-stretch l = l.all.items ≡ take l.stretch-index l.self.earlier.items
