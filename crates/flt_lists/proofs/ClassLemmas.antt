-- Values of one class stand in the order of their keys.
use Rattle.std.proofs.Common.{◌≡◌, ℕ, Bool as Truth, true, false, List, [], ◌∷◌, map, Option, Some, None, refl, sym, ap, subst, ◌∙◌}
use Rattle.std.specs.Prelude.{◌&&◌, ◌||◌, ◌-◌, ◌/◌, ◌^◌, pos}
use Rattle.std.proofs.lemmas.Bool.{and_parts}
use Rattle.std.specs.Cmp.Lexicographic.{slice_cmp}
use Rattle.std.specs.List.{list_any, list_all}
use Rattle.std.specs.Ordering.{nat_cmp, ordering_then}
use Rattle.std.specs.declared.cmp.Ordering.{Ordering}
use Rattle.std.specs.declared.cmp.Ordering.TheVariants as orders
use Rattle.flt_lists.specs.Keys.{KeyShown, are_of_class, are_of_one_class, chosen_pass, key_cmp, key_of, keys_of, pairs_hold}
use Rattle.flt_lists.specs.Passes.{compares, passes}
use Rattle.flt_syntax.specs.declared.ast.Choice.{Choice}
use Rattle.flt_syntax.specs.declared.ast.Choice.TheVariants.{Any, All}
use Rattle.flt_typed.specs.Kinds.{class_eq, class_of, kind_of_value, same_class}
use Rattle.flt_typed.specs.Relations.{by_order, holds_in, number_of_truth, order_by_leading, related}
use Rattle.flt_typed.specs.declared.kinds.Class.{Class}
use Rattle.flt_typed.specs.declared.kinds.Class.TheVariants as classes
use Rattle.flt_typed.specs.declared.relation.Relation.{Relation}
use Rattle.flt_typed.specs.declared.relation.Relation.TheVariants.{Equal, Unequal, Greater, Less, AtLeast, AtMost, Contains}
use Rattle.pk_fields.specs.declared.value_kind.ValueKind.{ValueKind}
use Rattle.pk_base.specs.declared.value.Value.{Value}
use Rattle.pk_base.specs.declared.value.Value.TheVariants as values

-- the order of two keys of one class
then_equal : (o : Ordering) → o ≡ ordering_then o orders.Equal
then_equal orders.Less = refl
then_equal orders.Equal = refl
then_equal orders.Greater = refl

abbrev amounts : ℕ → ℕ → Ordering
amounts a b = key_cmp (record { amount = a; octets = []; moment = pos 0 }) (record { amount = b; octets = []; moment = pos 0 })

abbrev texts : List ℕ → List ℕ → Ordering
texts a b = key_cmp (record { amount = 0; octets = a; moment = pos 0 }) (record { amount = 0; octets = b; moment = pos 0 })

by_amount : (a b : ℕ) → Some (nat_cmp a b) ≡ Some (amounts a b)
by_amount a b = ap Some (then_equal (nat_cmp a b))

by_text : (a b : List ℕ) → Some (slice_cmp nat_cmp a b) ≡ Some (texts a b)
by_text a b = ap Some (then_equal (slice_cmp nat_cmp a b))

order_is : (p : Option ℕ) (v w : Value) → same_class (kind_of_value v) (kind_of_value w) ≡ true → order_by_leading p v w ≡ Some (key_cmp (key_of p v) (key_of p w))
unfolding order_by_leading
order_is None (values.Uint a) (values.Uint b) same = by_amount a b
order_is None (values.Bool a) (values.Bool b) same = by_amount (number_of_truth a) (number_of_truth b)
order_is None (values.Ip4 a) (values.Ip4 b) same = by_amount a b
order_is None (values.Ip6 a) (values.Ip6 b) same = by_amount a b
order_is None (values.Time a) (values.Time b) same = refl
order_is None (values.Bytes a) (values.Bytes b) same = by_text a b
order_is None (values.Bytes a) (values.Text b) same = by_text a b
order_is None (values.Bytes a) (values.Ether b) same = by_text a b
order_is None (values.Bytes a) (values.Proto b) same = by_text a b
order_is None (values.Text a) (values.Bytes b) same = by_text a b
order_is None (values.Text a) (values.Text b) same = by_text a b
order_is None (values.Text a) (values.Ether b) same = by_text a b
order_is None (values.Text a) (values.Proto b) same = by_text a b
order_is None (values.Ether a) (values.Bytes b) same = by_text a b
order_is None (values.Ether a) (values.Text b) same = by_text a b
order_is None (values.Ether a) (values.Ether b) same = by_text a b
order_is None (values.Ether a) (values.Proto b) same = by_text a b
order_is None (values.Proto a) (values.Bytes b) same = by_text a b
order_is None (values.Proto a) (values.Text b) same = by_text a b
order_is None (values.Proto a) (values.Ether b) same = by_text a b
order_is None (values.Proto a) (values.Proto b) same = by_text a b
order_is (Some p) (values.Uint a) (values.Uint b) same = by_amount a b
order_is (Some p) (values.Bool a) (values.Bool b) same = by_amount (number_of_truth a) (number_of_truth b)
order_is (Some p) (values.Ip4 a) (values.Ip4 b) same = by_amount (a / 2 ^ (32 - p)) (b / 2 ^ (32 - p))
order_is (Some p) (values.Ip6 a) (values.Ip6 b) same = by_amount (a / 2 ^ (128 - p)) (b / 2 ^ (128 - p))
order_is (Some p) (values.Time a) (values.Time b) same = refl
order_is (Some p) (values.Bytes a) (values.Bytes b) same = by_text a b
order_is (Some p) (values.Bytes a) (values.Text b) same = by_text a b
order_is (Some p) (values.Bytes a) (values.Ether b) same = by_text a b
order_is (Some p) (values.Bytes a) (values.Proto b) same = by_text a b
order_is (Some p) (values.Text a) (values.Bytes b) same = by_text a b
order_is (Some p) (values.Text a) (values.Text b) same = by_text a b
order_is (Some p) (values.Text a) (values.Ether b) same = by_text a b
order_is (Some p) (values.Text a) (values.Proto b) same = by_text a b
order_is (Some p) (values.Ether a) (values.Bytes b) same = by_text a b
order_is (Some p) (values.Ether a) (values.Text b) same = by_text a b
order_is (Some p) (values.Ether a) (values.Ether b) same = by_text a b
order_is (Some p) (values.Ether a) (values.Proto b) same = by_text a b
order_is (Some p) (values.Proto a) (values.Bytes b) same = by_text a b
order_is (Some p) (values.Proto a) (values.Text b) same = by_text a b
order_is (Some p) (values.Proto a) (values.Ether b) same = by_text a b
order_is (Some p) (values.Proto a) (values.Proto b) same = by_text a b
order_is p v w same = absurd (cc same)

-- the relations that go by the order of two values
abbrev pub is_by_order : Relation → Truth
is_by_order Contains = false
is_by_order relation = true

by_order_only : (r : Relation) (v w : Value) (p : Option ℕ) → is_by_order r ≡ true → related r v w p ≡ by_order r (order_by_leading p v w)
unfolding related
by_order_only Contains v w p is = absurd (cc is)
by_order_only Equal v w p is = refl
by_order_only Unequal v w p is = refl
by_order_only Greater v w p is = refl
by_order_only Less v w p is = refl
by_order_only AtLeast v w p is = refl
by_order_only AtMost v w p is = refl

pair_is : (r : Relation) (v w : Value) (p : Option ℕ) → is_by_order r ≡ true → same_class (kind_of_value v) (kind_of_value w) ≡ true →
    related r v w p ≡ holds_in r (key_cmp (key_of p v) (key_of p w))
pair_is r v w p is same = by_order_only r v w p is ∙ ap (by_order r) (order_is p v w same)

-- classes
class_only : (c d : Class) → class_eq c d ≡ true → c ≡ d
class_only classes.Number classes.Number e = refl
class_only classes.Truth classes.Truth e = refl
class_only classes.Octets classes.Octets e = refl
class_only classes.Ip4 classes.Ip4 e = refl
class_only classes.Ip6 classes.Ip6 e = refl
class_only classes.Time classes.Time e = refl
class_only c d e = absurd (cc e)

class_through : (k l m : ValueKind) → same_class k l ≡ true → same_class k m ≡ true → same_class l m ≡ true
class_through k l m p q = subst (λ c. class_eq c (class_of m) ≡ true) (class_only (class_of k) (class_of l) p) q

-- a test of values is a test of their keys
any_mapped : {K : Type 0} (f : Value → K) (c p : Value → Truth) (q : K → Truth) (vs : List Value) → list_all c vs ≡ true → ((v : Value) → c v ≡ true → q (f v) ≡ p v) →
    list_any q (map f vs) ≡ list_any p vs
any_mapped f c p q [] all each = refl
any_mapped f c p q (v ∷ vs) all each =
    let parts = and_parts (c v) (list_all c vs) all in
    ap (λ t. t || list_any q (map f vs)) (each v parts.0) ∙ ap (λ t. p v || t) (any_mapped f c p q vs parts.1 each)

all_mapped : {K : Type 0} (f : Value → K) (c p : Value → Truth) (q : K → Truth) (vs : List Value) → list_all c vs ≡ true → ((v : Value) → c v ≡ true → q (f v) ≡ p v) →
    list_all q (map f vs) ≡ list_all p vs
all_mapped f c p q [] all each = refl
all_mapped f c p q (v ∷ vs) all each =
    let parts = and_parts (c v) (list_all c vs) all in
    ap (λ t. t && list_all q (map f vs)) (each v parts.0) ∙ ap (λ t. p v && t) (all_mapped f c p q vs parts.1 each)

chosen_mapped : {K : Type 0} (choice : Choice) (f : Value → K) (c p : Value → Truth) (q : K → Truth) (vs : List Value) → list_all c vs ≡ true → ((v : Value) → c v ≡ true → q (f v) ≡ p v) →
    chosen_pass choice q (map f vs) ≡ passes choice p vs
chosen_mapped Any f c p q vs all each = any_mapped f c p q vs all each
chosen_mapped All f c p q [] all each = refl
chosen_mapped All f c p q (v ∷ vs) all each = all_mapped f c p q (v ∷ vs) all each

of_class : (r : Relation) (choice : Choice) (p : Option ℕ) (k : ValueKind) (vs ws : List Value) → is_by_order r ≡ true → are_of_class k vs ≡ true → are_of_class k ws ≡ true →
    pairs_hold key_cmp r choice (keys_of p vs) (keys_of p ws) ≡ compares r choice vs ws p
of_class r choice p k vs ws is left right =
    chosen_mapped choice (λ v. key_of p v) (λ v. same_class k (kind_of_value v))
    (λ v. passes choice (λ w. related r v w p) ws)
    (λ (l : KeyShown). chosen_pass choice (λ m. holds_in r (key_cmp l m)) (keys_of p ws)) vs left
    (λ v same. chosen_mapped choice (λ w. key_of p w) (λ w. same_class k (kind_of_value w))
    (λ w. related r v w p) (λ (m : KeyShown). holds_in r (key_cmp (key_of p v) m)) ws right
    (λ w other. sym (pair_is r v w p is (class_through k (kind_of_value v) (kind_of_value w) same other))))

pub by_keys : (r : Relation) (choice : Choice) (p : Option ℕ) (vs ws : List Value) → is_by_order r ≡ true → are_of_one_class vs ws ≡ true →
    pairs_hold key_cmp r choice (keys_of p vs) (keys_of p ws) ≡ compares r choice vs ws p
by_keys r choice p [] ws is same = absurd (cc same)
by_keys r choice p (v ∷ vs) ws is same =
    let parts = and_parts (are_of_class (kind_of_value v) (v ∷ vs)) (are_of_class (kind_of_value v) ws) same in
    of_class r choice p (kind_of_value v) (v ∷ vs) ws is parts.0 parts.1
