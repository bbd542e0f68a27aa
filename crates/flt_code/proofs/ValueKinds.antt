-- The values of a term are of its kind, but that each number counts as the widest.
use Rattle.std.proofs.Common.{◌≡◌, ℕ, Bool as Truth, true, false, not, ◌&&◌, List, [], ◌∷◌, Option, Some, None, option_map, length, option_to_list, option_and_then, filter_map, zip, is_some, ap, sym, refl, ◌∙◌}
use Rattle.std.specs.List.{AllByRecursion as Each, cons_option, flat_map, list_all}
use Rattle.flt_code.specs.Code.{is_several}
use Rattle.flt_code.specs.Owners.{OfExtreme, held}
use Rattle.flt_code.proofs.Allowed.{has}
use Rattle.flt_lists.specs.Pairs.{values_calculated}
use Rattle.flt_mean.specs.Values.{prefix_of_term, values_of_term}
use Rattle.flt_syntax.specs.declared.ast.Arithmetic.{Arithmetic}
use Rattle.flt_syntax.specs.declared.ast.Function.TheVariants.{Len, Count, Upper, Lower, Min, Max}
use Rattle.flt_typing.specs.Terms.{kind_of}
use Rattle.flt_typed.specs.declared.typed.Term.{Term}
use Rattle.flt_typed.specs.declared.typed.Term.TheVariants as terms
use Rattle.flt_typed.specs.Arithmetic.{calculated, extreme_number, extreme_of, result_of}
use Rattle.flt_typed.specs.Calls.{called, lowered, masked, uppered}
use Rattle.flt_typed.specs.Kinds.{is_masked, is_number, kind_of_value}
use Rattle.flt_typed.specs.Relations.{octets_of}
use Rattle.flt_typed.specs.Slices.{sliced, bytes_of_value, taken_by}
use Rattle.flt_typed.specs.declared.arithmetic.Extreme.{Extreme}
use Rattle.flt_typed.specs.declared.arithmetic.Extreme.TheVariants.{Least, Greatest}
use Rattle.flt_vm.specs.Held.{are_all, can_compute, plain}
use Rattle.pk_fields.specs.Fields.{row_of}
use Rattle.pk_fields.specs.declared.value_kind.ValueKind.{ValueKind}
use Rattle.pk_fields.specs.declared.value_kind.ValueKind.TheVariants as kinds
use Rattle.pk_tree.proofs.FieldLemmas.{layers_kind}
use Rattle.pk_tree.specs.FieldValues.{chosen_values, values_of}
use Rattle.pk_tree.specs.Trees.{IsTree, TreeShown}
use Rattle.pk_tree.specs.Values.{IsOfKind}
use Rattle.pk_base.specs.declared.chosen.Layers.{Layers}
use Rattle.pk_base.specs.declared.value.Value.{Value}
use Rattle.pk_base.specs.declared.value.Value.TheVariants as values

abbrev pub wide : ValueKind → ValueKind
wide (kinds.Uint width) = kinds.Uint 64
wide kind = kind

abbrev pub IsLike : ValueKind → Value → Type 0
IsLike kind value = kind_of_value value ≡ wide kind

-- of what is there
abbrev Maybe : (Value → Type 0) → Option Value → Type 0
Maybe P None = Unit {0}
Maybe P (Some v) = P v

each_onto : (P : Value → Type 0) (o : Option Value) (rest : List Value) → Maybe P o → Each P rest → Each P (cons_option o rest)
each_onto P None rest m each = each
each_onto P (Some v) rest m each = (m, each)

each_given : {A : Type 0} (P : Value → Type 0) (f : A → Option Value) → ((a : A) → Maybe P (f a)) → (xs : List A) → Each P (filter_map f xs)
each_given P f good [] = tt
each_given P f good (x ∷ xs) = each_onto P (f x) (filter_map f xs) (good x) (each_given P f good xs)

each_listed : (P : Value → Type 0) (o : Option Value) → Maybe P o → Each P (option_to_list o)
each_listed P None m = tt
each_listed P (Some v) m = (m, tt)

maybe_uint : (o : Option ℕ) → Maybe (IsLike (kinds.Uint 64)) (option_map values.Uint o)
maybe_uint None = tt
maybe_uint (Some n) = refl

maybe_bytes : (o : Option (List ℕ)) → Maybe (IsLike kinds.Bytes) (option_map values.Bytes o)
maybe_bytes None = tt
maybe_bytes (Some n) = refl

maybe_length : (o : Option (List ℕ)) → Maybe (IsLike (kinds.Uint 32)) (option_map (λ bytes. values.Uint (length bytes)) o)
maybe_length None = tt
maybe_length (Some n) = refl

maybe_masked : (mask : ℕ) (v : Value) → Maybe (IsLike (kinds.Uint 64)) (masked mask v)
maybe_masked mask (values.Uint n) = refl
maybe_masked mask v = tt

maybe_calculated : (a : Arithmetic) (v w : Value) → Maybe (IsLike (kinds.Uint 64)) (calculated a v w)
maybe_calculated a (values.Uint m) (values.Uint n) = maybe_uint (result_of a m n)
maybe_calculated a v w = tt

maybe_upper : (v : Value) → Maybe (IsLike kinds.Text) (uppered v)
maybe_upper (values.Text bytes) = refl
maybe_upper v = tt

maybe_lower : (v : Value) → Maybe (IsLike kinds.Text) (lowered v)
maybe_lower (values.Text bytes) = refl
maybe_lower v = tt

each_calculated : (a : Arithmetic) (vs ws : List Value) → Each (IsLike (kinds.Uint 64)) (values_calculated a vs ws)
each_calculated a (v ∷ []) ws = each_given (IsLike (kinds.Uint 64)) (λ w. calculated a v w) (λ w. maybe_calculated a v w) ws
each_calculated a [] (w ∷ []) = tt
each_calculated a (v ∷ u ∷ us) (w ∷ []) = each_given (IsLike (kinds.Uint 64)) (λ x. calculated a x w) (λ x. maybe_calculated a x w) (v ∷ u ∷ us)
each_calculated a [] [] = tt
each_calculated a [] (w ∷ x ∷ xs) = tt
each_calculated a (v ∷ u ∷ us) [] = tt
each_calculated a (v ∷ u ∷ us) (w ∷ x ∷ xs) =
    each_given (IsLike (kinds.Uint 64)) (λ (pair : Value × Value). calculated a pair.0 pair.1) (λ pair. maybe_calculated a pair.0 pair.1) (zip (v ∷ u ∷ us) (w ∷ x ∷ xs))

-- a value of a field's kind
of_kind : (kind : ValueKind) (v : Value) → IsOfKind kind v → IsLike kind v
of_kind (kinds.Uint width) (values.Uint n) is = refl
of_kind kinds.Bool (values.Bool b) is = refl
of_kind kinds.Bytes (values.Bytes b) is = refl
of_kind kinds.Text (values.Text b) is = refl
of_kind kinds.Ether (values.Ether b) is = refl
of_kind kinds.Ip4 (values.Ip4 b) is = refl
of_kind kinds.Ip6 (values.Ip6 b) is = refl
of_kind kinds.Time (values.Time b) is = refl
of_kind kinds.Proto (values.Proto b) is = refl
of_kind kind v is = absurd is

each_of_kind : (kind : ValueKind) (vs : List Value) → Each (IsOfKind kind) vs → Each (IsLike kind) vs
each_of_kind kind [] each = tt
each_of_kind kind (v ∷ vs) each = (of_kind kind v each.0, each_of_kind kind vs each.1)

field_values : (tree : TreeShown) (field : ℕ) (layers : Layers) → IsTree tree → Each (IsLike (row_of field).kind) (values_of tree field layers)
unfolding values_of
field_values tree field layers good = each_of_kind (row_of field).kind (flat_map (λ layer. chosen_values tree.buffers field layers layer) tree.layers) (layers_kind tree.buffers field layers [] tree.layers good.layers)

own_kind : (v : Value) → kind_of_value v ≡ wide (kind_of_value v)
own_kind (values.Uint n) = refl
own_kind v = refl

masked_kind : (kind : ValueKind) → is_masked kind ≡ true → wide kind ≡ kinds.Uint 64
masked_kind (kinds.Uint w) is = refl
masked_kind kind is = cc

-- a mask stands on numbers
abbrev pub IsMasking : Term → Type 0
IsMasking (terms.Mask' p term mask) = is_masked (kind_of term) ≡ true
IsMasking term = Unit {0}

each_as : (a b : ValueKind) (vs : List Value) → wide a ≡ wide b → Each (IsLike a) vs → Each (IsLike b) vs
each_as a b [] is each = tt
each_as a b (v ∷ vs) is each = (each.0 ∙ is, each_as a b vs is each.1)

pub kinds_of_values : (tree : TreeShown) (term : Term) → IsTree tree → IsMasking term → is_several term ≡ false → Each (IsLike (kind_of term)) (values_of_term term tree)
kinds_of_values tree (terms.Constant c) good is alone = (own_kind c.value, tt)
kinds_of_values tree (terms.Field field layers) good is alone = field_values tree field layers good
kinds_of_values tree (terms.Slice' p term ranges) good is alone =
    each_given (IsLike kinds.Bytes) (λ v. sliced v ranges.items) (λ v. maybe_bytes (option_and_then (λ bytes. taken_by bytes ranges.items) (bytes_of_value v))) (values_of_term term tree)
kinds_of_values tree (terms.Mask' p term mask) good is alone =
    each_as (kinds.Uint 64) (kind_of term) (filter_map (λ v. masked mask v) (values_of_term term tree)) (sym (masked_kind (kind_of term) is)) (each_given (IsLike (kinds.Uint 64)) (λ v. masked mask v) (maybe_masked mask) (values_of_term term tree))
kinds_of_values tree (terms.Called' Count p term) good is alone = (refl, tt)
kinds_of_values tree (terms.Called' Min p term) good is alone = each_listed (IsLike (kinds.Uint 64)) (extreme_of Least (values_of_term term tree)) (maybe_uint (extreme_number Least (values_of_term term tree)))
kinds_of_values tree (terms.Called' Max p term) good is alone = each_listed (IsLike (kinds.Uint 64)) (extreme_of Greatest (values_of_term term tree)) (maybe_uint (extreme_number Greatest (values_of_term term tree)))
kinds_of_values tree (terms.Called' Len p term) good is alone = each_given (IsLike (kinds.Uint 32)) (λ v. called Len v) (λ v. maybe_length (octets_of v)) (values_of_term term tree)
kinds_of_values tree (terms.Called' Upper p term) good is alone = each_given (IsLike kinds.Text) (λ v. called Upper v) maybe_upper (values_of_term term tree)
kinds_of_values tree (terms.Called' Lower p term) good is alone = each_given (IsLike kinds.Text) (λ v. called Lower v) maybe_lower (values_of_term term tree)
kinds_of_values tree (terms.Computed' a p left q right) good is alone = each_calculated a (values_of_term left tree) (values_of_term right tree)
kinds_of_values tree (terms.Arguments' p left q right) good is alone = cc

and_true : (a b : Truth) → a ≡ true → b ≡ true → (a && b) ≡ true
and_true a b x y = rw (x, y) refl

each_passes : (test : ValueKind → Truth) (kind : ValueKind) (vs : List Value) → test (wide kind) ≡ true → Each (IsLike kind) vs → list_all (λ v. test (kind_of_value v)) vs ≡ true
each_passes test kind [] is each = refl
each_passes test kind (v ∷ vs) is each = and_true (test (kind_of_value v)) (list_all (λ v. test (kind_of_value v)) vs) (ap test each.0 ∙ is) (each_passes test kind vs is each.1)

-- the values of a term pass a test of their kind
pub are_all_of : (tree : TreeShown) (term : Term) (test : ValueKind → Truth) → IsTree tree → IsMasking term → is_several term ≡ false → prefix_of_term term ≡ None → test (wide (kind_of term)) ≡ true →
    are_all test (has tree term) ≡ true
are_all_of tree term test good is alone plain passes =
    and_true (not (is_some (prefix_of_term term))) (list_all (λ v. test (kind_of_value v)) (values_of_term term tree)) (ap (λ x. not (is_some x)) plain)
    (each_passes test (kind_of term) (values_of_term term tree) passes (kinds_of_values tree term good is alone))

listed_numbers : (o : Option ℕ) → list_all (λ v. is_number (kind_of_value v)) (option_to_list (option_map values.Uint o)) ≡ true
listed_numbers None = refl
listed_numbers (Some n) = refl

-- an extreme is a number
pub extreme_computes : (tree : TreeShown) (e : Extreme) (term : Term) → can_compute (held tree (OfExtreme e term)) ≡ true
extreme_computes tree e term = listed_numbers (extreme_number e (values_of_term term tree))
