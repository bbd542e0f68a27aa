-- Texts that are looked for in others, by the lengths that they have.
use Rattle.std.proofs.Common.{◌≡◌, ℕ, ◌+◌, ◌<◌, ◌≤◌, Bool as Truth, true, false, List, [], ◌∷◌, ◌++◌, Option, Some, None, length, map, take, drop, get_or, refl, sym, ap, subst, ◌∙◌, arith, ⊎_elim}
use Rattle.std.specs.Prelude.{◌&&◌, ◌||◌, not, nat_eq, nat_le, IfSome}
use Rattle.std.specs.Cmp.Lexicographic.{slice_cmp}
use Rattle.std.specs.List.{cons_option, filter_map, list_any, starts_with}
use Rattle.std.specs.List.Sorted.{IsPermutation, IsSorted}
use Rattle.std.specs.Option.{option_eq, option_map}
use Rattle.std.specs.Ordering.{is_eq, nat_cmp, ordering_then}
use Rattle.std.specs.declared.cmp.Ordering.{Ordering}
use Rattle.std.specs.declared.cmp.Ordering.TheVariants as orders
use Rattle.std.proofs.lemmas.Bool.{and_parts, both_ways, or_cases, or_left, or_right, leb-true, le-leb}
use Rattle.std.proofs.lemmas.Bool.Decides.{Decides-eqb, nat_tests}
use Rattle.std.proofs.lemmas.List.{append-nil, at_drop_all, drop_more, length-take, take_more}
use Rattle.std.proofs.lemmas.List.Folds.{list_any-append, list_any_at}
use Rattle.std.proofs.lemmas.List.Sorted.{list_any-IsPermutation}
use Rattle.std.proofs.lemmas.Map.Text.{is_eq-slice_cmp}
use Rattle.std.proofs.lemmas.Slice.Eq.{bytes_eq-Decides}
use Rattle.flt_typed.specs.Contains.{contains}
use Rattle.flt_typed.specs.Relations.{octets_of}
use Rattle.pk_base.specs.declared.value.Value.{Value}
use Rattle.flt_lists.specs.Keys.{KeyShown, key_cmp, key_shown, order_of_keys}
use Rattle.flt_lists.specs.Needles.{AreLengths, AreNeedles, has_length, needle_in, needle_of, texts_of}
use Rattle.flt_lists.specs.declared.keys.Key.{Key}

-- tests of any of some
any_lift : {A : Type 0} (p q : A → Truth) → ((x : A) → p x ≡ true → q x ≡ true) → (xs : List A) → list_any p xs ≡ true → list_any q xs ≡ true
any_lift p q each [] e = e
any_lift p q each (x ∷ xs) e =
    ⊎_elim (λ a. or_left _ _ (each x a)) (λ b. or_right _ _ (any_lift p q each xs b)) (or_cases _ _ e)

any_one : {A : Type 0} (p : A → Truth) (xs : List A) → list_any p xs ≡ true → (x : A) × (p x ≡ true)
any_one p [] e = absurd (both_ways _ refl e)
any_one p (x ∷ xs) e = ⊎_elim (λ a. (x, a)) (any_one p xs) (or_cases _ _ e)

any_map : {A B : Type 0} (f : A → B) (test : B → Truth) (xs : List A) → list_any test (map f xs) ≡ list_any (λ x. test (f x)) xs
any_map f test [] = refl
any_map f test (x ∷ xs) = ap (λ t. test (f x) || t) (any_map f test xs)

abbrev IsMember : {A : Type 0} → A → List A → Type 0
IsMember x xs = (test : _ → Truth) → test x ≡ true → list_any test xs ≡ true

not_false : (t : Truth) → not t ≡ false → t ≡ true
not_false true e = refl
not_false false e = absurd (both_ways _ e refl)

or_false : (a b : Truth) → (a || b) ≡ false → (a ≡ false) × (b ≡ false)
or_false false b e = (refl, e)
or_false true b e = absurd (both_ways _ e refl)

-- one that passes a test, among those that all pass another
any_with : {A : Type 0} (q c : A → Truth) (xs : List A) → list_any q xs ≡ true → list_any (λ x. not (c x)) xs ≡ false
    → (x : A) × (q x ≡ true) × (c x ≡ true) × IsMember x xs
any_with q c [] e all = absurd (both_ways _ refl e)
any_with q c (x ∷ xs) e all =
    let parts = or_false _ _ all in
    ⊎_elim (λ a. (x, a, not_false _ parts.0, λ test passes. or_left _ _ passes))
    (λ b. let found = any_with q c xs b parts.1 in (found.0, found.1, found.2, λ test passes. or_right _ _ (found.3 test passes)))
    (or_cases _ _ e)

same_truth : (a b : Truth) → (a ≡ true → b ≡ true) → (b ≡ true → a ≡ true) → a ≡ b
same_truth true b there back = sym (there refl)
same_truth false true there back = back refl
same_truth false false there back = refl

-- keys of bytes tie where these are the same
then_ties : (a b : Ordering) → is_eq (ordering_then a b) ≡ true → is_eq b ≡ true
then_ties orders.Less b e = absurd (both_ways _ refl e)
then_ties orders.Equal b e = e
then_ties orders.Greater b e = absurd (both_ways _ refl e)

first_ties : (a b : Ordering) → is_eq (ordering_then a b) ≡ true → is_eq a ≡ true
first_ties orders.Less b e = e
first_ties orders.Equal b e = refl
first_ties orders.Greater b e = e

then_tied : (a b : Ordering) → is_eq a ≡ true → is_eq b ≡ true → is_eq (ordering_then a b) ≡ true
then_tied orders.Less b e f = e
then_tied orders.Equal b e f = f
then_tied orders.Greater b e f = e

number_tied : (n : ℕ) → is_eq (nat_cmp n n) ≡ true
number_tied n = grind (arith, nat_tests)

abbrev ties : List ℕ → List ℕ → Truth
ties p t = is_eq (key_cmp (needle_of p) (needle_of t))

ties_same : (p t : List ℕ) → ties p t ≡ true → p ≡ t
ties_same p t e = (bytes_eq-Decides p t).0 (sym (is_eq-slice_cmp p t) ∙ first_ties _ _ (then_ties (nat_cmp (length p) (length t)) _ e))

same_ties : (p t : List ℕ) → p ≡ t → ties p t ≡ true
same_ties p t e =
    subst (λ (q : List ℕ). ties p q ≡ true) e
    (then_tied (nat_cmp (length p) (length p)) _ (number_tied (length p)) (then_tied (slice_cmp nat_cmp p p) _ (is_eq-slice_cmp p p ∙ (bytes_eq-Decides p p).1 refl) refl))

-- a text at the front of another
front_is : (text t : List ℕ) → starts_with nat_eq text t ≡ true → t ≡ take (length t) text
front_is text t e = (bytes_eq-Decides t _).0 e

is_front : (text t : List ℕ) → t ≡ take (length t) text → starts_with nat_eq text t ≡ true
is_front text t e = (bytes_eq-Decides t _).1 e

front_short : (text t : List ℕ) → t ≡ take (length t) text → length t ≤ length text
front_short text t e = omega (arith, ap length e ∙ length-take (length t) text)

-- whether the first bytes of a text, so many as one of the lengths says, are one of the texts
abbrev tested : List ℕ → List (List ℕ) → ℕ → Truth
tested text texts n = nat_le n (length text) && list_any (λ t. ties (take n text) t) texts

found_front : (text : List ℕ) (n : ℕ) (t : List ℕ) → n ≤ length text → ties (take n text) t ≡ true → starts_with nat_eq text t ≡ true
found_front text n t few e =
    let same : take n text ≡ t = ties_same (take n text) t e in
    let size : length t ≡ n = ap length (sym same) ∙ (length-take n text ∙ omega (arith, few)) in
    is_front text t (sym same ∙ ap (λ m. take m text) (sym size))

front_found : (text : List ℕ) (texts : List (List ℕ)) (lengths : List ℕ) (t : List ℕ) → starts_with nat_eq text t ≡ true → IsMember t texts
    → list_any (λ n. nat_eq n (length t)) lengths ≡ true → list_any (tested text texts) lengths ≡ true
front_found text texts lengths t starts member has =
    any_lift (λ n. nat_eq n (length t)) (tested text texts)
    (λ n e. let same : n ≡ length t = (Decides-eqb n (length t)).0 e in
    subst (λ (m : ℕ). tested text texts m ≡ true) (sym same)
    (ap (λ (b : Truth). b && list_any (λ u. ties (take (length t) text) u) texts) (le-leb _ _ (front_short text t (front_is text t starts)))
    ∙ member (λ u. ties (take (length t) text) u) (same_ties (take (length t) text) t (sym (front_is text t starts)))))
    lengths has

tested_is : (text : List ℕ) (texts : List (List ℕ)) (lengths : List ℕ) → list_any (λ t. not (has_length lengths (needle_of t))) texts ≡ false
    → list_any (tested text texts) lengths ≡ list_any (λ t. starts_with nat_eq text t) texts
tested_is text texts lengths all =
    same_truth _ _
    (λ e. let n = any_one (tested text texts) lengths e in
    let parts = and_parts _ _ n.1 in
    any_lift (λ t. ties (take n.0 text) t) (λ t. starts_with nat_eq text t) (λ t. found_front text n.0 t (leb-true _ _ parts.0)) texts parts.1)
    (λ e. let t = any_with (λ t. starts_with nat_eq text t) (λ t. has_length lengths (needle_of t)) texts e all in
    front_found text texts lengths t.0 t.1 t.3 t.2)

any_same : {A : Type 0} (p q : A → Truth) → ((x : A) → p x ≡ q x) → (xs : List A) → list_any p xs ≡ list_any q xs
any_same p q each [] = refl
any_same p q each (x ∷ xs) = ap (λ t. t || list_any p xs) (each x) ∙ ap (λ t. q x || t) (any_same p q each xs)

pub begins_are : (text : List ℕ) (texts : List (List ℕ)) (keys : List Key) (lengths : List ℕ) → AreNeedles texts keys → AreLengths keys lengths
    → list_any (λ n. nat_le n (length text) && list_any (λ k. is_eq (key_cmp (needle_of (take n text)) (key_shown k))) keys) lengths
    ≡ list_any (λ t. starts_with nat_eq text t) texts
begins_are text texts keys lengths needles all =
    any_same _ (tested text texts) (λ n. ap (λ (b : Truth). nat_le n (length text) && b) (needles.same (λ k. is_eq (key_cmp (needle_of (take n text)) k)))) lengths
    ∙ tested_is text texts lengths (sym (needles.same (λ k. not (has_length lengths k))) ∙ all)

-- a text goes on by a byte
or_none : {A : Type 0} (p q : A → Truth) (xs : List A) → list_any p xs ≡ false → list_any (λ x. p x || q x) xs ≡ list_any q xs
or_none p q [] e = refl
or_none p q (x ∷ xs) e =
    let parts = or_false _ _ e in
    ap (λ (b : Truth). (b || q x) || list_any (λ y. p y || q y) xs) parts.0 ∙ ap (λ (b : Truth). q x || b) (or_none p q xs parts.1)

contains_next : (text : List ℕ) (i : ℕ) (d : ℕ) (texts : List (List ℕ)) → i < length text → list_any (λ t. starts_with nat_eq (drop i text) t) texts ≡ false
    → list_any (λ t. contains (drop (i + 1) text) t) texts ≡ list_any (λ t. contains (drop i text) t) texts
unfolding contains
contains_next text i d texts inside none =
    let split : drop i text ≡ get_or text i d ∷ drop (i + 1) text = drop_more text i d inside in
    let none' : list_any (λ t. starts_with nat_eq (get_or text i d ∷ drop (i + 1) text) t) texts ≡ false = ap (λ rest. list_any (λ t. starts_with nat_eq rest t) texts) (sym split) ∙ none in
    sym (or_none (λ t. starts_with nat_eq (get_or text i d ∷ drop (i + 1) text) t) (λ t. contains (drop (i + 1) text) t) texts none')
    ∙ ap (λ rest. list_any (λ t. contains rest t) texts) (sym split)

pub one_further : (text : List ℕ) (i : ℕ) (d : ℕ) (texts : List (List ℕ)) (all : Truth) → i < length text → list_any (λ t. starts_with nat_eq (drop i text) t) texts ≡ false
    → list_any (λ t. contains (drop i text) t) texts ≡ all → list_any (λ t. contains (drop (i + 1) text) t) texts ≡ all
one_further text i d texts all inside none so_far = contains_next text i d texts inside none ∙ so_far

begins : (text t : List ℕ) → starts_with nat_eq text t ≡ true → contains text t ≡ true
unfolding contains
begins [] t e = e
begins (byte ∷ text) t e = or_left _ _ e

pub found_here : (text : List ℕ) (i : ℕ) (texts : List (List ℕ)) (all : Truth) → list_any (λ t. starts_with nat_eq (drop i text) t) texts ≡ true
    → list_any (λ t. contains (drop i text) t) texts ≡ all → true ≡ all
found_here text i texts all found so_far =
    sym (any_lift (λ t. starts_with nat_eq (drop i text) t) (λ t. contains (drop i text) t) (λ t. begins (drop i text) t) texts found) ∙ so_far

at_end : (texts : List (List ℕ)) → list_any (λ t. starts_with nat_eq [] t) texts ≡ list_any (λ t. contains [] t) texts
unfolding contains
at_end texts = refl

pub ended : (text : List ℕ) (i : ℕ) (texts : List (List ℕ)) (all : Truth) → drop i text ≡ [] → list_any (λ t. contains (drop i text) t) texts ≡ all
    → list_any (λ t. starts_with nat_eq [] t) texts ≡ all
ended text i texts all is so_far = at_end texts ∙ (ap (λ rest. list_any (λ t. contains rest t) texts) (sym is) ∙ so_far)

-- the keys of values' bytes
one_text : (o : Option (List ℕ)) (test : KeyShown → Truth) (keys : List KeyShown) (texts : List (List ℕ)) → list_any test keys ≡ list_any (λ t. test (needle_of t)) texts
    → list_any test (cons_option (option_map needle_of o) keys) ≡ list_any (λ t. test (needle_of t)) (cons_option o texts)
one_text None test keys texts e = e
one_text (Some t) test keys texts e = ap (λ (b : Truth). test (needle_of t) || b) e

texts_are : (vs : List Value) (test : KeyShown → Truth) → list_any test (filter_map needle_in vs) ≡ list_any (λ t. test (needle_of t)) (texts_of vs)
texts_are [] test = refl
texts_are (v ∷ vs) test = one_text (octets_of v) test (filter_map needle_in vs) (texts_of vs) (texts_are vs test)

pub needles_are : (vs : List Value) (made sorted : List Key) → map (λ k. key_shown k) made ≡ filter_map needle_in vs → IsPermutation made sorted → IsSorted order_of_keys sorted
    → AreNeedles (texts_of vs) sorted
needles_are vs made sorted is moved ordered = record {
  sorted = ordered;
  same = λ test. sym (list_any-IsPermutation (λ k. test (key_shown k)) made sorted moved)
      ∙ (sym (any_map (λ k. key_shown k) test made) ∙ (ap (list_any test) is ∙ texts_are vs test));
}

-- loops over lengths
pub found_begins : (text : List ℕ) (texts : List (List ℕ)) (keys : List Key) (lengths : List ℕ) → AreNeedles texts keys → AreLengths keys lengths → (i d : ℕ) → i < length lengths
    → (nat_le (get_or lengths i d) (length text) && list_any (λ k. is_eq (key_cmp (needle_of (take (get_or lengths i d) text)) (key_shown k))) keys) ≡ true
    → true ≡ list_any (λ t. starts_with nat_eq text t) texts
found_begins text texts keys lengths needles all i d inside found =
    sym (list_any_at (λ n. nat_le n (length text) && list_any (λ k. is_eq (key_cmp (needle_of (take n text)) (key_shown k))) keys) lengths i d inside found)
    ∙ begins_are text texts keys lengths needles all

pub none_begins : (text : List ℕ) (texts : List (List ℕ)) (keys : List Key) (lengths : List ℕ) → AreNeedles texts keys → AreLengths keys lengths → (i : ℕ) → length lengths ≤ i
    → list_any (λ n. nat_le n (length text) && list_any (λ k. is_eq (key_cmp (needle_of (take n text)) (key_shown k))) keys) (drop i lengths)
    ≡ list_any (λ n. nat_le n (length text) && list_any (λ k. is_eq (key_cmp (needle_of (take n text)) (key_shown k))) keys) lengths
    → false ≡ list_any (λ t. starts_with nat_eq text t) texts
none_begins text texts keys lengths needles all i over so_far =
    sym (at_drop_all (list_any (λ n. nat_le n (length text) && list_any (λ k. is_eq (key_cmp (needle_of (take n text)) (key_shown k))) keys)) lengths i over)
    ∙ (so_far ∙ begins_are text texts keys lengths needles all)

pub all_made : (vs : List Value) (made : List KeyShown) (i : ℕ) → length vs ≤ i → made ++ filter_map needle_in (drop i vs) ≡ filter_map needle_in vs → made ≡ filter_map needle_in vs
all_made vs made i over so_far = sym (append-nil made) ∙ (sym (at_drop_all (λ ws. made ++ filter_map needle_in ws) vs i over) ∙ so_far)

-- lengths: one more key
longer_has : (lengths more : List ℕ) (k : KeyShown) → has_length lengths k ≡ true → has_length (lengths ++ more) k ≡ true
longer_has lengths more k e = list_any-append (λ n. nat_eq n (length k.octets)) lengths more ∙ or_left _ _ e

not_true : (t : Truth) → t ≡ true → not t ≡ false
not_true t e = ap not e

none_lift : {A : Type 0} (p q : A → Truth) → ((x : A) → p x ≡ false → q x ≡ false) → (xs : List A) → list_any p xs ≡ false → list_any q xs ≡ false
none_lift p q each [] e = e
none_lift p q each (x ∷ xs) e =
    let parts = or_false _ _ e in
    ap (λ (b : Truth). b || list_any q xs) (each x parts.0) ∙ none_lift p q each xs parts.1

one_more : (keys : List Key) (i : ℕ) (d : Key) (lengths : List ℕ) → i < length keys → list_any (λ k. not (has_length lengths (key_shown k))) (take i keys) ≡ false
    → has_length lengths (key_shown (get_or keys i d)) ≡ true → list_any (λ k. not (has_length lengths (key_shown k))) (take (i + 1) keys) ≡ false
one_more keys i d lengths inside before has =
    ap (list_any (λ k. not (has_length lengths (key_shown k)))) (take_more keys i d inside)
    ∙ (list_any-append (λ k. not (has_length lengths (key_shown k))) (take i keys) (get_or keys i d ∷ [])
    ∙ (ap (λ (b : Truth). b || (not (has_length lengths (key_shown (get_or keys i d))) || false)) before ∙ ap (λ (b : Truth). not b || false) has))

last_in : (lengths : List ℕ) (n : ℕ) → list_any (λ m. nat_eq m n) (lengths ++ n ∷ []) ≡ true
last_in lengths n = list_any-append (λ m. nat_eq m n) lengths (n ∷ []) ∙ or_right _ _ (or_left _ _ ((Decides-eqb n n).1 refl))

pub pushed_length : (keys : List Key) (i : ℕ) (d : Key) (old new : List ℕ) → i < length keys → list_any (λ k. not (has_length old (key_shown k))) (take i keys) ≡ false
    → new ≡ old ++ length (get_or keys i d).octets.now ∷ []
    → (list_any (λ k. not (has_length new (key_shown k))) (take (i + 1) keys) ≡ false) × (list_any (λ n. nat_eq n (length (get_or keys i d).octets.now)) new ≡ true)
pushed_length keys i d old new inside before is =
    let n = length (get_or keys i d).octets.now in
    let grown : list_any (λ k. not (has_length (old ++ n ∷ []) (key_shown k))) (take i keys) ≡ false =
    none_lift (λ k. not (has_length old (key_shown k))) (λ k. not (has_length (old ++ n ∷ []) (key_shown k)))
    (λ k e. not_true _ (longer_has old (n ∷ []) (key_shown k) (not_false _ e))) (take i keys) before in
    subst (λ (ls : List ℕ). (list_any (λ k. not (has_length ls (key_shown k))) (take (i + 1) keys) ≡ false) × (list_any (λ m. nat_eq m n) ls ≡ true)) (sym is)
    (one_more keys i d (old ++ n ∷ []) inside grown (last_in old n), last_in old n)

kept_length : (keys : List Key) (i : ℕ) (d : Key) (lengths : List ℕ) (n : ℕ) → i < length keys → list_any (λ k. not (has_length lengths (key_shown k))) (take i keys) ≡ false
    → list_any (λ m. nat_eq m n) lengths ≡ true → n ≡ length (get_or keys i d).octets.now
    → list_any (λ k. not (has_length lengths (key_shown k))) (take (i + 1) keys) ≡ false
kept_length keys i d lengths n inside before has same =
    one_more keys i d lengths inside before (ap (λ (m : ℕ). list_any (λ l. nat_eq l m) lengths) (sym same) ∙ has)

pub same_length : (keys : List Key) (i : ℕ) (d : Key) (lengths : List ℕ) (newest : Option ℕ) → i < length keys → list_any (λ k. not (has_length lengths (key_shown k))) (take i keys) ≡ false
    → IfSome newest (λ len. list_any (λ n. nat_eq n len) lengths ≡ true) → not (option_eq nat_eq newest (Some (length (get_or keys i d).octets.now))) ≡ false
    → (list_any (λ k. not (has_length lengths (key_shown k))) (take (i + 1) keys) ≡ false) × IfSome newest (λ len. list_any (λ n. nat_eq n len) lengths ≡ true)
same_length keys i d lengths None inside before has tied = absurd (both_ways false refl (not_false _ tied))
same_length keys i d lengths (Some n) inside before has tied =
    (kept_length keys i d lengths n inside before has ((Decides-eqb n (length (get_or keys i d).octets.now)).0 (not_false _ tied)), has)
