-- What is asked of a single value.
use Rattle.std.specs.Prelude.{ℕ, Bool as Truth, true, false, List}
use Rattle.std.specs.List.{list_any}
use Rattle.std.specs.Option.{option_map_or}
use Rattle.flt_lists.specs.declared.question.Question.{Question}
use Rattle.flt_lists.specs.declared.question.Question.TheVariants.{IsRelated, IsAmong, IsNonzero, IsThere}
use Rattle.flt_typed.specs.Patterns.{matches}
use Rattle.flt_typed.specs.declared.typed.Member.{Member}
use Rattle.flt_typed.specs.declared.typed.Member.TheVariants as members
use Rattle.flt_typed.specs.Calls.{is_nonzero}
use Rattle.flt_typed.specs.Relations.{octets_of, related, lies_between}
use Rattle.flt_typed.specs.declared.relation.Relation.TheVariants.{Equal}
use Rattle.pk_base.specs.declared.value.Value.{Value}

-- whether a value equals an element of a set, or lies in a range
abbrev pub is_member : Value → Member → Truth
is_member value (members.One constant) = related Equal value constant.value constant.prefix
is_member value (members.Between low high) = lies_between low.value high.value value

abbrev pub is_among : List Member → Value → Truth
is_among ms value = list_any (λ m. is_member value m) ms

-- whether the pattern matches in a value's bytes
abbrev pub is_matched : List ℕ → Value → Truth
is_matched pattern value = option_map_or (λ bytes. matches pattern bytes) (octets_of value) false

abbrev pub is_so : Question → Value → Truth
is_so (IsRelated relation right prefix) value = related relation value right.now prefix
is_so (IsAmong ms) value = is_among ms.now value
is_so IsNonzero value = is_nonzero value
is_so IsThere value = true
