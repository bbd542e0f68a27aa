-- Which reasons to refuse words are sure.
use Rattle.std.specs.Prelude.{Bool, true, false, IsTrue}
use Rattle.flt_syntax.specs.declared.fault.FilterReason.{FilterReason}
use Rattle.flt_syntax.specs.declared.fault.FilterReason.TheVariants.{PatternSize}
use Rattle.run_words.specs.declared.refused.Refused.{Refused}
use Rattle.run_words.specs.declared.refused.Refused.TheVariants as refused

abbrev pub is_of_size : FilterReason → Bool
is_of_size PatternSize = true
is_of_size reason = false

-- a reason that isn't the size of a pattern: `regex` may refuse a large pattern that it could read
abbrev pub IsSure : Refused → Type 0
IsSure (refused.Filter fault) = ¬ IsTrue (is_of_size fault.reason)
IsSure reason = Unit {0}
