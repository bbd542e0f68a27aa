use Rattle.std.proofs.Common.{◌≡◌, ◌++◌, drop}
use Rattle.std.specs.String.{string_bytes}
use Rattle.pk_text.proofs.puts.StringTextSink.put_digits.Given as goal

abbrev pub invariant-loop-digit : goal.invariant-loop-digit
invariant-loop-digit l = string_bytes l.self ++ drop l.digit-index l.digits ≡ string_bytes l.initial.self ++ l.digits
