use Rattle.std.proofs.Common.{◌≡◌, ◌+◌, drop}
use Rattle.flt_syntax.specs.Letters.{blanks}
use Rattle.flt_parse.proofs.letters.blanks.Given as goal

abbrev pub invariant-loop-len : goal.invariant-loop-len
invariant-loop-len l = blanks l.bytes ≡ l.len + blanks (drop l.len l.bytes)
