use Rattle.std.proofs.Common.{◌≡◌, nat_eq, drop}
use Rattle.std.specs.List.{find, starts_with}
use Rattle.flt_syntax.specs.Tokens.{all_signs, first_sign, sign_text}
use Rattle.flt_parse.proofs.signs.first_sign.Given as goal

abbrev pub invariant-loop-sign : goal.invariant-loop-sign
invariant-loop-sign l = first_sign l.bytes ≡ find (λ s. starts_with nat_eq l.bytes (sign_text s)) (drop l.sign-index all_signs)
