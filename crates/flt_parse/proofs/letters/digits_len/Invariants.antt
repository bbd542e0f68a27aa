use Rattle.std.proofs.Common.{◌≡◌, ◌+◌, drop}
use Rattle.flt_syntax.specs.Letters.{digits_len}
use Rattle.flt_parse.proofs.letters.digits_len.Given as goal

abbrev pub invariant-loop-len : goal.invariant-loop-len
invariant-loop-len l = digits_len l.bytes ≡ l.len + digits_len (drop l.len l.bytes)
