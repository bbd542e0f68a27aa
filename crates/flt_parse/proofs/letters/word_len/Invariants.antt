use Rattle.std.proofs.Common.{◌≡◌, ◌+◌, drop}
use Rattle.flt_syntax.specs.Letters.{word_len}
use Rattle.flt_parse.proofs.letters.word_len.Given as goal

abbrev pub invariant-loop-len : goal.invariant-loop-len
invariant-loop-len l = word_len l.bytes ≡ l.len + word_len (drop l.len l.bytes)
