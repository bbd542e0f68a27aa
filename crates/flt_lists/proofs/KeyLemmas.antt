-- Pairs of values by their keys: what their ends, one of them, and a search among keys in order decide.
use Rattle.std.proofs.Common.{◌≡◌, ◌<◌, ℕ, Bool as Truth, true, List, [], ◌∷◌, Option, Result, length, map, get_or, refl, sym, ap, ◌∙◌, arith}
use Rattle.std.specs.Prelude.{◌&&◌, ◌||◌, not}
use Rattle.std.proofs.lemmas.Cmp.{int_cmp_total, nat_cmp_total, nat_list_cmp_total, on_total, then_total}
use Rattle.std.proofs.lemmas.List.Folds.{list_all-map}
use Rattle.std.proofs.lemmas.List.Sorted.{list_any-IsPermutation}
use Rattle.std.specs.Cmp.{IsTotalOrder}
use Rattle.std.specs.List.{list_any, list_all}
use Rattle.std.specs.List.Sorted.{IsBinarySearchResult, IsPermutation, IsSearchInRange, IsSorted}
use Rattle.std.specs.Ordering.{is_eq}
use Rattle.std.specs.Result.{is_ok}
use Rattle.std.specs.declared.cmp.Ordering.{Ordering}
use Rattle.flt_lists.proofs.OrderLemmas.{all_unequal, any_unequal, ends_decide, tied_all}
use Rattle.flt_lists.proofs.SearchLemmas.{search_finds}
use Rattle.flt_lists.specs.Keys.{KeyShown, decisive, end_of, furthest, is_order, key_cmp, key_of, key_shown, keys_of, opposite, order_of_keys, pairs_hold}
use Rattle.flt_lists.specs.declared.keys.Key.{Key}
use Rattle.flt_syntax.specs.declared.ast.Choice.{Choice}
use Rattle.flt_syntax.specs.declared.ast.Choice.TheVariants.{Any, All}
use Rattle.flt_typed.specs.Relations.{holds_in}
use Rattle.flt_typed.specs.declared.arithmetic.Extreme.{Extreme}
use Rattle.flt_typed.specs.declared.relation.Relation.{Relation}
use Rattle.flt_typed.specs.declared.relation.Relation.TheVariants.{Equal, Unequal}
use Rattle.pk_base.specs.declared.value.Value.{Value}

pub key_total : IsTotalOrder key_cmp
key_total =
    then_total (on_total (λ (k : KeyShown). k.amount) nat_cmp_total)
    (then_total (on_total (λ (k : KeyShown). k.octets) nat_list_cmp_total) (on_total (λ (k : KeyShown). k.moment) int_cmp_total))

-- the ends
pub end_begins : (e : Extreme) (p : Option ℕ) (vs : List Value) (d : Value) → 0 < length vs → furthest key_cmp e (key_of p (get_or vs 0 d)) (keys_of p vs) ≡ end_of e (keys_of p vs)
end_begins e p [] d some = absurd (omega (arith, some))
end_begins e p (v ∷ vs) d some = refl

pub ends_hold : (r : Relation) (c : Choice) (p : Option ℕ) (vs ws : List Value) → is_order r ≡ true → 0 < length vs → 0 < length ws →
    holds_in r (key_cmp (end_of (decisive r c) (keys_of p vs)) (end_of (opposite (decisive r c)) (keys_of p ws))) ≡ pairs_hold key_cmp r c (keys_of p vs) (keys_of p ws)
ends_hold r c p [] ws is left right = absurd (omega (arith, left))
ends_hold r c p (v ∷ vs) [] is left right = absurd (omega (arith, right))
ends_hold r c p (v ∷ vs) (w ∷ ws) is left right = ends_decide key_total r c is (key_of p v) (keys_of p vs) (key_of p w) (keys_of p ws)

pub ends_joined : (r : Relation) (c : Choice) (p : Option ℕ) (vs ws : List Value) (e f : Extreme) (k l : KeyShown) (o : Ordering) →
    e ≡ decisive r c → f ≡ opposite e → k ≡ end_of e (keys_of p vs) → l ≡ end_of f (keys_of p ws) → o ≡ key_cmp k l →
    is_order r ≡ true → 0 < length vs → 0 < length ws → holds_in r o ≡ pairs_hold key_cmp r c (keys_of p vs) (keys_of p ws)
ends_joined r c p vs ws e f k l o e_is f_is k_is l_is o_is is left right =
    let first : k ≡ end_of (decisive r c) (keys_of p vs) = k_is ∙ ap (λ x. end_of x (keys_of p vs)) e_is in
    let second : l ≡ end_of (opposite (decisive r c)) (keys_of p ws) = l_is ∙ ap (λ x. end_of x (keys_of p ws)) (f_is ∙ ap opposite e_is) in
    ap (holds_in r) (o_is ∙ (ap (λ x. key_cmp x l) first ∙ ap (λ x. key_cmp (end_of (decisive r c) (keys_of p vs)) x) second))
    ∙ ends_hold r c p vs ws is left right

-- all equal
pub all_tied : (p : Option ℕ) (vs ws : List Value) (d : Value) → 0 < length vs → 0 < length ws →
    (list_all (λ v. is_eq (key_cmp (key_of p v) (key_of p (get_or ws 0 d)))) vs && list_all (λ w. is_eq (key_cmp (key_of p w) (key_of p (get_or ws 0 d)))) ws)
    ≡ pairs_hold key_cmp Equal All (keys_of p vs) (keys_of p ws)
all_tied p [] ws d left right = absurd (omega (arith, left))
all_tied p (v ∷ vs) [] d left right = absurd (omega (arith, right))
all_tied p (v ∷ vs) (w ∷ ws) d left right =
    let test = λ (k : KeyShown). is_eq (key_cmp k (key_of p w)) in
    ap (λ t. t && list_all (λ x. test (key_of p x)) (w ∷ ws)) (sym (list_all-map test (λ x. key_of p x) (v ∷ vs)))
    ∙ (ap (λ t. list_all test (keys_of p (v ∷ vs)) && t) (sym (list_all-map test (λ x. key_of p x) (w ∷ ws)))
    ∙ tied_all key_total (key_of p v) (keys_of p vs) (key_of p w) (keys_of p ws))

pub tied_joined : (p : Option ℕ) (vs ws : List Value) (k : KeyShown) (w : Value) (a b : Truth) → k ≡ key_of p w → w ≡ get_or ws 0 w →
    a ≡ list_all (λ v. is_eq (key_cmp (key_of p v) k)) vs → b ≡ list_all (λ v. is_eq (key_cmp (key_of p v) k)) ws →
    0 < length vs → 0 < length ws → (a && b) ≡ pairs_hold key_cmp Equal All (keys_of p vs) (keys_of p ws)
tied_joined p vs ws k w a b k_is w_is a_is b_is left right =
    let test = λ (l : KeyShown) (xs : List Value). list_all (λ v. is_eq (key_cmp (key_of p v) l)) xs in
    let first : k ≡ key_of p (get_or ws 0 w) = k_is ∙ ap (key_of p) w_is in
    ap (λ t. t && b) (a_is ∙ ap (λ l. test l vs) first)
    ∙ (ap (λ t. test (key_of p (get_or ws 0 w)) vs && t) (b_is ∙ ap (λ l. test l ws) first)
    ∙ all_tied p vs ws w left right)

-- any equal
pub key_found : (keys : List Key) (key : Key) (r : Result ℕ ℕ) → IsSorted order_of_keys keys → IsSearchInRange r (length keys) → IsBinarySearchResult (λ k. order_of_keys k key) keys r →
    is_ok r ≡ list_any (λ k. is_eq (key_cmp (key_shown key) (key_shown k))) keys
key_found keys key r sorted range found = search_finds key_total key_shown keys (key_shown key) r sorted range found

any_map : {A B : Type 0} (f : A → B) (test : B → Truth) (xs : List A) → list_any test (map f xs) ≡ list_any (λ x. test (f x)) xs
any_map f test [] = refl
any_map f test (x ∷ xs) = ap (λ t. test (f x) || t) (any_map f test xs)

any_same : {A : Type 0} (p q : A → Truth) → ((x : A) → p x ≡ q x) → (xs : List A) → list_any p xs ≡ list_any q xs
any_same p q each [] = refl
any_same p q each (x ∷ xs) = ap (λ t. t || list_any p xs) (each x) ∙ ap (λ t. q x || t) (any_same p q each xs)

pub sorted_same : (p : Option ℕ) (vs : List Value) (made sorted : List Key) → map (λ k. key_shown k) made ≡ keys_of p vs → IsPermutation made sorted → (test : KeyShown → Truth) →
    list_any (λ k. test (key_shown k)) sorted ≡ list_any test (keys_of p vs)
sorted_same p vs made sorted is moved test =
    sym (list_any-IsPermutation (λ k. test (key_shown k)) made sorted moved)
    ∙ (sym (any_map (λ k. key_shown k) test made) ∙ ap (list_any test) is)

pub any_tied : (p : Option ℕ) (vs ws : List Value) (keys : List Key) → ((test : KeyShown → Truth) → list_any (λ k. test (key_shown k)) keys ≡ list_any test (keys_of p ws)) →
    list_any (λ v. list_any (λ k. is_eq (key_cmp (key_of p v) (key_shown k))) keys) vs ≡ pairs_hold key_cmp Equal Any (keys_of p vs) (keys_of p ws)
any_tied p vs ws keys same =
    any_same (λ v. list_any (λ k. is_eq (key_cmp (key_of p v) (key_shown k))) keys) (λ v. list_any (λ l. is_eq (key_cmp (key_of p v) l)) (keys_of p ws))
    (λ v. same (λ l. is_eq (key_cmp (key_of p v) l))) vs
    ∙ sym (any_map (λ v. key_of p v) (λ k. list_any (λ l. is_eq (key_cmp k l)) (keys_of p ws)) vs)

-- not equal
pub any_differs : (p : Option ℕ) (vs ws : List Value) → 0 < length vs → 0 < length ws →
    not (pairs_hold key_cmp Equal All (keys_of p vs) (keys_of p ws)) ≡ pairs_hold key_cmp Unequal Any (keys_of p vs) (keys_of p ws)
any_differs p [] ws left right = absurd (omega (arith, left))
any_differs p (v ∷ vs) [] left right = absurd (omega (arith, right))
any_differs p (v ∷ vs) (w ∷ ws) left right = any_unequal key_cmp (key_of p v) (keys_of p vs) (key_of p w) (keys_of p ws)

pub all_differ : (p : Option ℕ) (vs ws : List Value) → 0 < length vs → 0 < length ws →
    not (pairs_hold key_cmp Equal Any (keys_of p vs) (keys_of p ws)) ≡ pairs_hold key_cmp Unequal All (keys_of p vs) (keys_of p ws)
all_differ p [] ws left right = absurd (omega (arith, left))
all_differ p (v ∷ vs) [] left right = absurd (omega (arith, right))
all_differ p (v ∷ vs) (w ∷ ws) left right = all_unequal key_cmp (key_of p v) (keys_of p vs) (key_of p w) (keys_of p ws)
