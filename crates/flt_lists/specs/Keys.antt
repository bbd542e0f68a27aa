-- Pairs of values of one class, asked by what values are ordered by.
use Rattle.std.specs.Prelude.{ℕ, ℤ, pos, ◌&&◌, Bool as Truth, true, false, List, [], ◌∷◌, map, Option, unwrap_or, if◌then◌else◌}
use Rattle.std.specs.Cmp.Lexicographic.{slice_cmp}
use Rattle.std.specs.List.{list_any, list_all}
use Rattle.std.specs.Ordering.{nat_cmp, int_cmp, ordering_then, is_lt, is_gt}
use Rattle.std.specs.declared.cmp.Ordering.{Ordering}
use Rattle.flt_lists.specs.declared.keys.Key.{Key}
use Rattle.flt_syntax.specs.declared.ast.Choice.{Choice}
use Rattle.flt_syntax.specs.declared.ast.Choice.TheVariants.{Any, All}
use Rattle.flt_typed.specs.Kinds.{kind_of_value, same_class}
use Rattle.flt_typed.specs.Relations.{holds_in, leading_amount, moment_of, octets_of}
use Rattle.flt_typed.specs.declared.arithmetic.Extreme.{Extreme}
use Rattle.flt_typed.specs.declared.arithmetic.Extreme.TheVariants.{Least, Greatest}
use Rattle.flt_typed.specs.declared.relation.Relation.{Relation}
use Rattle.flt_typed.specs.declared.relation.Relation.TheVariants.{Greater, Less, AtLeast, AtMost}
use Rattle.pk_fields.specs.declared.value_kind.ValueKind.{ValueKind}
use Rattle.pk_base.specs.declared.value.Value.{Value}

-- what values of one class are ordered by; what a value has not is 0 or empty
pub record KeyShown : Type 0 where
  pub amount : ℕ
  pub octets : List ℕ
  pub moment : ℤ

abbrev pub key_shown : Key → KeyShown
key_shown key = record { amount = key.amount; octets = key.octets.now; moment = key.moment }

abbrev pub key_of : Option ℕ → Value → KeyShown
key_of prefix v = record {
  amount = unwrap_or (leading_amount prefix v) 0;
  octets = unwrap_or (octets_of v) [];
  moment = unwrap_or (moment_of v) (pos 0);
}

abbrev pub keys_of : Option ℕ → List Value → List KeyShown
keys_of prefix vs = map (λ v. key_of prefix v) vs

abbrev pub key_cmp : KeyShown → KeyShown → Ordering
key_cmp k l =
    ordering_then (nat_cmp k.amount l.amount)
    (ordering_then (slice_cmp nat_cmp k.octets l.octets) (int_cmp k.moment l.moment))

abbrev pub order_of_keys : Key → Key → Ordering
order_of_keys k l = key_cmp (key_shown k) (key_shown l)

-- the values of one class
abbrev pub are_of_class : ValueKind → List Value → Truth
are_of_class kind vs = list_all (λ v. same_class kind (kind_of_value v)) vs

abbrev pub are_of_one_class : List Value → List Value → Truth
are_of_one_class [] ws = false
are_of_one_class (v ∷ vs) ws =
    are_of_class (kind_of_value v) (v ∷ vs) && are_of_class (kind_of_value v) ws

-- any or all keys, and any or all pairs of them: where there is none, neither is true
abbrev pub chosen_pass : {K : Type 0} → Choice → (K → Truth) → List K → Truth
chosen_pass Any test ks = list_any test ks
chosen_pass All test [] = false
chosen_pass All test (k ∷ ks) = list_all test (k ∷ ks)

abbrev pub pairs_hold : {K : Type 0} → (K → K → Ordering) → Relation → Choice → List K → List K
    → Truth
pairs_hold order relation choice ks ls =
    chosen_pass choice (λ k. chosen_pass choice (λ l. holds_in relation (order k l)) ls) ks

-- the least or the greatest key of some
abbrev pub further : {K : Type 0} → (K → K → Ordering) → Extreme → K → K → K
further order Least k l = if is_lt (order l k) then l else k
further order Greatest k l = if is_gt (order l k) then l else k

abbrev pub furthest : {K : Type 0} → (K → K → Ordering) → Extreme → K → List K → K
furthest order extreme k [] = k
furthest order extreme k (l ∷ ls) = furthest order extreme (further order extreme k l) ls

abbrev pub end_of : Extreme → List KeyShown → KeyShown
end_of extreme [] = record { amount = 0; octets = []; moment = pos 0 }
end_of extreme (k ∷ ks) = furthest key_cmp extreme k (k ∷ ks)

-- the relations that the ends of two lists decide, and which end of the left list does: of the right one it is the
-- opposite
abbrev pub is_order : Relation → Truth
is_order Greater = true
is_order Less = true
is_order AtLeast = true
is_order AtMost = true
is_order relation = false

abbrev pub opposite : Extreme → Extreme
opposite Least = Greatest
opposite Greatest = Least

abbrev pub favoured : Relation → Extreme
favoured Less = Least
favoured AtMost = Least
favoured relation = Greatest

abbrev pub decisive : Relation → Choice → Extreme
decisive relation Any = favoured relation
decisive relation All = opposite (favoured relation)
