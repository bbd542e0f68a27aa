use Rattle.std.proofs.Common.{◌≡◌, take}
use Rattle.dis_http.specs.Http.{joined}
use Rattle.dis_http.proofs.http.joined.Given as goal

abbrev pub invariant-loop-piece : goal.invariant-loop-piece
invariant-loop-piece l = l.content.items ≡ joined l.bytes (take l.piece-index l.pieces)
