-- What a register holds, and what an instruction takes: values of the kinds, and with the prefix lengths, that the
-- operation is for (wireshark-filter(4)).
use Rattle.std.specs.Prelude.{ℕ, ◌&&◌, ◌||◌, Bool as Truth, false, not, List, [], ◌∷◌, Option, Some, None}
use Rattle.std.specs.List.{list_all}
use Rattle.std.specs.Option.{is_some}
use Rattle.flt_syntax.specs.declared.ast.Function.{Function}
use Rattle.flt_syntax.specs.declared.ast.Function.TheVariants.{Count, Min, Max}
use Rattle.flt_typed.specs.declared.typed.Member.{Member}
use Rattle.flt_typed.specs.declared.typed.Member.TheVariants as members
use Rattle.flt_typed.specs.Kinds.{admits_prefix, is_masked, is_number, is_searched, is_sliced, is_truth, kind_of_value, same_class, takes, takes_call}
use Rattle.flt_typed.specs.declared.constant.Constant.{Constant}
use Rattle.flt_typed.specs.declared.relation.Relation.{Relation}
use Rattle.pk_fields.specs.declared.value_kind.ValueKind.{ValueKind}
use Rattle.pk_base.specs.declared.value.Value.{Value}
use Rattle.pk_base.specs.declared.value.Value.TheVariants as values

-- values, of which a single one may have a prefix length
pub record Held : Type 0 where
  pub values : List Value
  pub prefix : Option ℕ

abbrev pub plain : List Value → Held
plain vs = record { values = vs; prefix = None }

-- a constant's one value
abbrev pub constant_held : Constant → Held
constant_held c = record { values = c.value ∷ []; prefix = c.prefix }

-- one truth value, as the flag is kept
abbrev pub truth_held : Truth → Held
truth_held truth = plain (values.Bool truth ∷ [])

abbrev pub one_truth : List Value → Option Truth
one_truth (values.Bool truth ∷ []) = Some truth
one_truth vs = None

-- the one truth value that a register keeps
abbrev pub kept_truth : Held → Option Truth
kept_truth held = one_truth held.values

-- the values are of kinds that pass a test, and have no prefix length
abbrev pub are_all : (ValueKind → Truth) → Held → Truth
are_all test held =
    not (is_some held.prefix) && list_all (λ value. test (kind_of_value value)) held.values

abbrev pub can_slice : Held → Truth
can_slice held = are_all is_sliced held

abbrev pub can_mask : Held → Truth
can_mask held = are_all is_masked held

-- `count`, `min` and `max` have instructions of their own
abbrev pub can_call : Function → Held → Truth
can_call Count held = false
can_call Min held = false
can_call Max held = false
can_call function held = are_all (takes_call function) held

abbrev pub can_compute : Held → Truth
can_compute held = are_all is_number held

abbrev pub can_search : Held → Truth
can_search held = are_all is_searched held

-- a left value takes the relation, and the right ones are of its class
abbrev pub can_relate : Relation → List Value → ValueKind → Truth
can_relate relation right kind =
    takes relation kind && list_all (λ value. same_class kind (kind_of_value value)) right

abbrev pub can_compare : Relation → Held → Held → Truth
can_compare relation left right = are_all (can_relate relation right.values) left
    && (admits_prefix relation || not (is_some right.prefix))

-- the end of a range is of the value's class, and has no prefix length
abbrev pub can_end : ValueKind → Constant → Truth
can_end kind c = same_class kind (kind_of_value c.value) && not (is_some c.prefix)

abbrev pub can_be : ValueKind → Member → Truth
can_be kind (members.One c) = same_class kind (kind_of_value c.value)
can_be kind (members.Between low high) =
    not (is_truth kind) && (can_end kind low && can_end kind high)

abbrev pub can_be_among : List Member → Held → Truth
can_be_among ms held = are_all (λ kind. list_all (can_be kind) ms) held
