use Rattle.std.proofs.Common.{◌≡◌, ◌+◌, ◌==◌, drop}
use Rattle.std.specs.List.{position_or_len}
use Rattle.flt_parse.proofs.strings.quote_in.Given as goal

abbrev pub invariant-loop-at : goal.invariant-loop-at
invariant-loop-at l = position_or_len (λ b. b == 34) l.text ≡ l.at + position_or_len (λ b. b == 34) (drop l.at l.text)
