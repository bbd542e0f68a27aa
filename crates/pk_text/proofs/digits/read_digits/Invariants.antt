use Rattle.std.proofs.Common.{◌≡◌, true, take}
use Rattle.std.specs.Str.Parse.{digits_value}
use Rattle.pk_text.specs.Digits.{wide, are_digits}
use Rattle.pk_text.proofs.digits.read_digits.Given as goal

abbrev pub invariant-loop-byte : goal.invariant-loop-byte
invariant-loop-byte l = record {
  front : are_digits l.radix (take l.byte-index l.digits) ≡ true;
  value : l.number ≡ wide (digits_value l.radix (take l.byte-index l.digits));
}
