use Rattle.std.proofs.Common.{◌≡◌, drop}
use Rattle.stream_messages.specs.Heads.{kind_by}
use Rattle.stream_messages.proofs.heads.differs_from.Given as goal

abbrev pub invariant-loop-place : goal.invariant-loop-place
invariant-loop-place l = kind_by (drop l.place l.front) (drop l.place l.bytes) ≡ kind_by l.front l.bytes
